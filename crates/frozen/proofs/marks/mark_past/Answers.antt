use Prim.Native.Nat.{◌-◌}
use mathlib.Core.Path.{refl, sym, ◌∙◌}
use native.Mathlib.Nat.{sub-zero}
use native.Mathlib.Omega.{arith}
use borrow.Author.Rules.{rules}
use Rattle.frozen.proofs.Unmarked.{none_past}
use Rattle.frozen.proofs.Turns.{next_below, past_turn, past_sixteen, past_end}
use Rattle.frozen.proofs.marks.mark_past.Goals as goal

pub returns-then-marks-eq0 : goal.returns-then-marks-eq0
returns-then-marks-eq0 c = rw c.if-marks-eq0.true (sym (none_past c.args.n))

pub returns-then-n-ge16 : goal.returns-then-n-ge16
returns-then-n-ge16 c = let g = c.args in sym (past_sixteen g.n g.marks (search rules) c.if-n-ge16.true)

pub loop-init : goal.loop-init
loop-init c = (search rules, rw sub-zero refl)

pub loop-preserved : goal.loop-preserved
loop-preserved c =
    let l = c.loop in
    rw c.next_of-x.ensures (next_below l.x l.invariant.0, past_turn c.args.n l.counter l.x c.loop-test.true ∙ l.invariant.1)

pub returns : goal.returns
returns c = let l = c.loop in past_end (c.args.n - l.counter) l.x _ (omega (arith, c.loop-test.false)) l.invariant.1
