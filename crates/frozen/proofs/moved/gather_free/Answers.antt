use Prim.Native.Nat.{◌-◌, ◌<◌}
use mathlib.Core.Path.{refl, ◌∙◌}
use native.Mathlib.Nat.{zero-add, sub-zero}
use native.Mathlib.Omega.{arith}
use borrow.Author.Rules.{rules}
use lib.ListN.{length}
use Rattle.frozen.specs.Frozen.{marks_of, free_count}
use Rattle.frozen.proofs.Turns.{next_below, count_free, count_frozen, some_free}
use Rattle.frozen.proofs.Moves.{gather_free, gather_frozen, drop_next, gather_short, gather_no_room, gather-end}
use Rattle.frozen.proofs.moved.gather_free.Goals as goal
use Rattle.frozen.proofs.moved.gather_free.Goals.{then-x-lt32768, else-x-lt32768}

pub returns-then-src-n : goal.returns-then-src-n
returns-then-src-n c = let g = c.args in gather_short g.n g.marks g.src.now g.dst.now c.if-src-n.true

pub returns-then-dst-free_count : goal.returns-then-dst-free_count
returns-then-dst-free_count c =
    let g = c.args in
    let h : length g.dst.now < free_count (marks_of g.n g.marks) = let e = c.free_count.ensures in search rules in
    gather_no_room g.n g.marks g.src.now g.dst.now c.if-src-n.false h

pub loop-k-init : goal.loop-k-init
loop-k-init c = (search rules, rw sub-zero (zero-add _), refl, rw sub-zero refl)

pub bounds-dst-j : goal.bounds-dst-j
bounds-dst-j c =
    let l = c.loop-k in
    let g = c.args in
    let s = some_free (g.n - l.k) l.x (omega arith) c.if-x-lt32768.true in
    let e = c.free_count.ensures in
    omega arith

pub loop-k-preserved : goal.loop-k-preserved
loop-k-preserved c =
    let g = c.args in
    let l = c.loop-k in
    let h = c.loop-k-test.true in
    let b = next_below l.x l.invariant.0 in
    let p : l.k < length g.src.now = search rules in
    rw c.next_of-x.ensures
    (elim c.if-x-lt32768.branch [
      | then-x-lt32768 w ↦ let s = some_free (g.n - l.k) l.x (omega arith) w.if-x-lt32768.true in
          let f = c.free_count.ensures in
          let q : l.j < length l.dst = omega arith in
          rw (w.dst-is, w.j-is) (
            b,
            count_free g.n l.k l.x h l.j w.if-x-lt32768.true ∙ l.invariant.1,
            drop_next l.j _ l.dst g.dst.now l.invariant.2,
            gather_free g.n l.k l.x h g.src.now l.dst l.j w.if-x-lt32768.true p q ∙ l.invariant.3,
          )
      | else-x-lt32768 w ↦ rw (w.dst-is, w.j-is) (
        b,
        count_frozen g.n l.k l.x h l.j w.if-x-lt32768.false ∙ l.invariant.1,
        l.invariant.2,
        gather_frozen g.n l.k l.x h g.src.now l.dst l.j w.if-x-lt32768.false p ∙ l.invariant.3,
      )
    ])

pub returns : goal.returns
returns c =
    let g = c.args in
    let l = c.loop-k in
    let e = c.free_count.ensures in
    gather-end g.n g.marks g.src.now g.dst.now l.dst l.k l.x l.j c.loop-k-test.false c.if-src-n.false (omega arith) (omega arith) l.invariant.2 l.invariant.3
