use mathlib.Core.Path.{sym}
use borrow.Author.Tests.{eq-eqb, ne_eqb, lt-ltb, le-ltb}
use Rattle.leaves.proofs.Refusals.{test_met, past, none_left}
use Rattle.sheet.proofs.lines.check_columns.Goals as goal

pub returns-then-n-eq0 : goal.returns-then-n-eq0
returns-then-n-eq0 c = sym (test_met _ _ (rw (eq-eqb _ _ c.if-n-eq0.true)))

pub returns-then-n-gt16 : goal.returns-then-n-gt16
returns-then-n-gt16 c = sym (test_met _ _ (rw (ne_eqb _ _ c.if-n-eq0.false, lt-ltb _ _ c.if-n-gt16.true)))

pub returns-then-step-n : goal.returns-then-step-n
returns-then-step-n c = past _ _ (rw (ne_eqb _ _ c.if-n-eq0.false, le-ltb _ _ c.if-n-gt16.false)) (sym (test_met _ _ (lt-ltb _ _ c.if-step-n.true)))

pub returns : goal.returns
returns c = past _ _ (rw (ne_eqb _ _ c.if-n-eq0.false, le-ltb _ _ c.if-n-gt16.false)) (past _ _ (le-ltb _ _ c.if-step-n.false) none_left)
