use Prim.Native.Nat.{◌-◌, ◌<◌}
use mathlib.Core.Path.{refl, ◌∙◌}
use native.Mathlib.Nat.{zero-add, sub-zero}
use native.Mathlib.Omega.{arith}
use borrow.Author.Rules.{rules}
use lib.ListN.{length}
use Rattle.frozen.specs.Frozen.{marks_of, free_count}
use Rattle.frozen.proofs.Turns.{next_below, count_free, count_frozen, some_free}
use Rattle.frozen.proofs.Moves.{merge_free, merge_frozen, merge_short, merge_few, merge_end}
use Rattle.frozen.proofs.moved.merge_into.Goals as goal
use Rattle.frozen.proofs.moved.merge_into.Goals.{then-x-lt32768, else-x-lt32768}

pub returns-then-dst-n : goal.returns-then-dst-n
returns-then-dst-n c = let g = c.args in merge_short g.n g.marks g.src.now g.dst.now c.if-dst-n.true

pub returns-then-src-free_count : goal.returns-then-src-free_count
returns-then-src-free_count c =
    let g = c.args in
    let h : length g.src.now < free_count (marks_of g.n g.marks) = let e = c.free_count.ensures in search rules in
    merge_few g.n g.marks g.src.now g.dst.now c.if-dst-n.false h

pub loop-k-init : goal.loop-k-init
loop-k-init c = (search rules, rw sub-zero (zero-add _), rw sub-zero refl)

pub bounds-src-j : goal.bounds-src-j
bounds-src-j c =
    let l = c.loop-k in
    let g = c.args in
    let s = some_free (g.n - l.k) l.x (omega arith) c.if-x-lt32768.true in
    let e = c.free_count.ensures in
    omega arith

pub loop-k-preserved : goal.loop-k-preserved
loop-k-preserved c =
    let g = c.args in
    let l = c.loop-k in
    let h = c.loop-k-test.true in
    let b = next_below l.x l.invariant.0 in
    let p : l.k < length l.dst = search rules in
    rw c.next_of-x.ensures
    (elim c.if-x-lt32768.branch [
      | then-x-lt32768 w ↦ let s = some_free (g.n - l.k) l.x (omega arith) w.if-x-lt32768.true in
          let f = c.free_count.ensures in
          let q : l.j < length g.src.now = omega arith in
          rw (w.dst-is, w.j-is) (
            b,
            count_free g.n l.k l.x h l.j w.if-x-lt32768.true ∙ l.invariant.1,
            merge_free g.n l.k l.x h g.src.now l.dst l.j w.if-x-lt32768.true p q ∙ l.invariant.2,
          )
      | else-x-lt32768 w ↦ rw (w.dst-is, w.j-is) (
        b,
        count_frozen g.n l.k l.x h l.j w.if-x-lt32768.false ∙ l.invariant.1,
        merge_frozen g.n l.k l.x h g.src.now l.dst l.j w.if-x-lt32768.false p ∙ l.invariant.2,
      )
    ])

pub returns : goal.returns
returns c =
    let g = c.args in
    let l = c.loop-k in
    let e = c.free_count.ensures in
    merge_end g.n g.marks g.src.now g.dst.now l.dst l.k l.x l.j c.loop-k-test.false c.if-dst-n.false (omega arith) l.invariant.2
