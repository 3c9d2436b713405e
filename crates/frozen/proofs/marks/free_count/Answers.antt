use Prim.Native.Nat.{◌-◌}
use mathlib.Core.Path.{sym, ◌∙◌}
use native.Mathlib.Nat.{sub-zero, min-le_left}
use native.Mathlib.Omega.{arith}
use borrow.Author.Rules.{rules}
use Rattle.frozen.proofs.Unmarked.{none_set}
use Rattle.frozen.proofs.Turns.{next_below, count_free, count_frozen, count_sixteen, count-end}
use Rattle.frozen.proofs.marks.free_count.Goals as goal
use Rattle.frozen.proofs.marks.free_count.Goals.{then-x-lt32768, else-x-lt32768}

pub returns-then-marks-eq0 : goal.returns-then-marks-eq0
returns-then-marks-eq0 c = let g = c.args in rw c.if-marks-eq0.true (sym (none_set g.n))

pub loop-init : goal.loop-init
loop-init c =
    let g = c.args in
    let h = min-le_left g.n 16 in
    rw (c.least-turns.ensures, sub-zero) (search rules, search rules, count_sixteen g.n g.marks (search rules))

pub loop-preserved : goal.loop-preserved
loop-preserved c =
    let l = c.loop in
    let t = c.least-turns.result in
    let h = c.loop-test.true in
    let b = next_below l.x l.invariant.0 in
    rw c.next_of-x.ensures
    (elim c.if-x-lt32768.branch [
      | then-x-lt32768 w ↦ rw w.free-is (b, search rules, count_free t l.counter l.x h l.free w.if-x-lt32768.true ∙ l.invariant.2)
      | else-x-lt32768 w ↦ rw w.free-is (b, search rules, count_frozen t l.counter l.x h l.free w.if-x-lt32768.false ∙ l.invariant.2)
    ])

pub returns : goal.returns
returns c = let l = c.loop in count-end (c.least-turns.result - l.counter) l.x l.free _ (omega (arith, c.loop-test.false)) l.invariant.2
