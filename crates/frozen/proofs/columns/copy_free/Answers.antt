use Prim.Native.Nat.{◌+◌, ◌-◌, ◌*◌}
use mathlib.Core.Path.{◌≡◌, sym, ap, ◌∙◌}
use mathlib.Core.List.{List, ◌++◌}
use native.Mathlib.Omega.{arith}
use borrow.Author.Rules.{rules}
use borrow.Rule.Slice.PartMut.{mid_len}
use lib.ListN.{length, take, drop}
use lib.Ieee.{Float}
use Rattle.frozen.proofs.Turns.{next_below}
use Rattle.frozen.proofs.Runs.{one_less}
use Rattle.frozen.proofs.Blocks.{column_counted, column_skipped, column_copied, column_passed, columns-end}
use Rattle.frozen.proofs.columns.copy_free.Goals as goal
use Rattle.frozen.proofs.columns.copy_free.Goals.{then-x-lt32768, else-x-lt32768}

pub slice_bounds-copy_from_slice-end : goal.slice_bounds-copy_from_slice-end
slice_bounds-copy_from_slice-end c =
    let l = c.loop-k in
    let h = column_counted c.args.m c.args.n l.k l.x c.loop-k-test.true c.if-x-lt32768.true in
    search rules

pub loop-k-preserved : goal.loop-k-preserved
loop-k-preserved c =
    let l = c.loop-k in
    let g = c.args in
    let t = c.loop-k-test.true in
    let b = next_below l.x l.invariant.0 in
    let h = one_less g.n l.k g.m t in
    let a = l.k * g.m in
    rw c.next_of-x.ensures
    (elim c.if-x-lt32768.branch [
      | then-x-lt32768 w ↦ let k = column_counted g.m g.n l.k l.x t w.if-x-lt32768.true in
          let y = w.copy_from_slice.new.self in
          let e : a + g.m - a ≡ g.m = omega arith in
          let d : y ≡ take g.m (drop a g.src.now) = rw e at w.copy_from_slice.ensures.after in
          let z : length y ≡ g.m = ap length w.copy_from_slice.ensures.after ∙ (mid_len a (a + g.m) g.src.now (omega arith) ∙ e) in
          rw (w.dst-is, w.b-is) (
            b,
            omega arith,
            column_copied g.m g.n l.k l.x t l.b g.src.now l.dst y _ w.if-x-lt32768.true (omega arith) z d ∙ l.invariant.2,
          )
      | else-x-lt32768 w ↦ let k = column_skipped g.m g.n l.k l.x t w.if-x-lt32768.false in
          rw (w.dst-is, w.b-is) (
            b,
            omega arith,
            ap (λ (s : List Float). take l.b l.dst ++ s) (column_passed g.m g.n l.k l.x t g.src.now w.if-x-lt32768.false) ∙ l.invariant.2,
          )
    ])

pub returns : goal.returns
returns c =
    let l = c.loop-k in
    let g = c.args in
    columns-end g.m (g.n - l.k) l.x (l.k * g.m) l.b g.src.now l.dst _ (omega arith) (l.invariant.1 ∙ sym l.auto.dst) l.invariant.2
