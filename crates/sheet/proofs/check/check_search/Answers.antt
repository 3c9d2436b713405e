use Rattle.leaves.proofs.Refusals.{test_met, past, none_left}
use mathlib.Core.Path.{sym, ap, ◌∙◌}
use mathlib.Core.Bool.{not}
use lib.Ieee.{of_bits}
use Rattle.sheet.proofs.check.check_search.Goals as goal

pub returns-then-radius : goal.returns-then-radius
unfolding of_bits
returns-then-radius c = sym (test_met _ _ c.if-radius.true)

pub returns-then-lambda : goal.returns-then-lambda
unfolding of_bits
returns-then-lambda c = past _ _ c.if-radius.false (sym (test_met _ _ c.if-lambda.true))

pub returns-then-none_zero : goal.returns-then-none_zero
unfolding of_bits
returns-then-none_zero c = past _ _ c.if-radius.false (past _ _ c.if-lambda.false (past _ _ (ap not (sym c.none_zero.ensures ∙ c.if-none_zero.true)) none_left))

pub returns-else-none_zero : goal.returns-else-none_zero
unfolding of_bits
returns-else-none_zero c = past _ _ c.if-radius.false (past _ _ c.if-lambda.false (sym (test_met _ _ (ap not (sym c.none_zero.ensures ∙ c.if-none_zero.false)))))
