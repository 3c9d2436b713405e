use mathlib.Core.Path.{sym, ◌∙◌}
use Rattle.leaves.proofs.Refusals.{test_met, past, none_left}
use Rattle.sheet.proofs.Testing.{length_off, step_short, lengths_met}
use Rattle.sheet.proofs.check.check_fields.Goals as goal

pub returns-then-unknown_call : goal.returns-then-unknown_call
returns-then-unknown_call c = sym (test_met _ _ (sym c.unknown_call.ensures ∙ c.if-unknown_call.true))

pub returns-then-outside : goal.returns-then-outside
returns-then-outside c = past _ _ (sym c.unknown_call.ensures ∙ c.if-unknown_call.false) (sym (test_met _ _ (sym c.outside.ensures ∙ c.if-outside.true)))

pub returns-then-len-k : goal.returns-then-len-k
returns-then-len-k c = past _ _ (sym c.unknown_call.ensures ∙ c.if-unknown_call.false) (past _ _ (sym c.outside.ensures ∙ c.if-outside.false) (sym (test_met _ _ (length_off c.args.h _ _ c.count-k.ensures.0 c.if-len-k.true))))

pub returns-then-room-n : goal.returns-then-room-n
returns-then-room-n c = past _ _ (sym c.unknown_call.ensures ∙ c.if-unknown_call.false) (past _ _ (sym c.outside.ensures ∙ c.if-outside.false) (sym (test_met _ _ (step_short c.args.h _ _ c.count-k.ensures.0 c.if-len-k.false c.if-room-n.true))))

pub returns : goal.returns
returns c = past _ _ (sym c.unknown_call.ensures ∙ c.if-unknown_call.false) (past _ _ (sym c.outside.ensures ∙ c.if-outside.false) (past _ _ (lengths_met c.args.h _ _ c.count-k.ensures.0 c.if-len-k.false c.if-room-n.false) none_left))
