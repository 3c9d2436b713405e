use Prim.Native.Nat.{◌+◌, ◌<◌, ℕ}
use mathlib.Core.Path.{◌≡◌}
use native.Mathlib.Omega.{arith}
use mathlib.Core.List.{List}
use lib.ListN.{length, get_or, set}
use lib.Ieee.{Float, nan}
use Rattle.eliminate.specs.declared.eliminate.Rotation.{Rotation}
use Rattle.eliminate.specs.Eliminate.{turned, left, turned_all, left_all}
use Rattle.leaves.proofs.Folds.{front_turn, front_end}
use Rattle.eliminate.proofs.Rotations.{turned-length, left-length, turned_at_lem, left_at, front_at}
use Rattle.eliminate.proofs.eliminate.turn_rest.Goals as goal
use Rattle.eliminate.proofs.eliminate.turn_rest.Invariants.{Turning}

turn : (g : Rotation) (col₀ l₀ col l : List Float) (i : ℕ) → length col₀ ≡ length l₀ → i < length col₀ → Turning g col₀ l₀ col l i
    → Turning g col₀ l₀ (set col i (turned g (get_or col i nan) (get_or l i nan))) (set l i (left g (get_or col i nan) (get_or l i nan))) (i + 1)
turn g col₀ l₀ col l i same h t =
    let a = turned-length g col₀ l₀ same in
    let b = left-length g col₀ l₀ same in
    let x : get_or col i nan ≡ get_or col₀ i nan = rw t.col_done (front_at (turned_all g col₀ l₀) col₀ i (omega arith)) in
    let y : get_or l i nan ≡ get_or l₀ i nan = rw t.l_done (front_at (left_all g col₀ l₀) l₀ i (omega arith)) in
    rw (x, y) (record {
      col_done = front_turn (turned_all g col₀ l₀) col₀ col _ i (omega arith) a (turned_at_lem g col₀ l₀ i h (omega arith)) t.col_done;
      l_done = front_turn (left_all g col₀ l₀) l₀ l _ i (omega arith) b (left_at g col₀ l₀ i h (omega arith)) t.l_done;
    })

pub loop-i-preserved : goal.loop-i-preserved
unfolding turned left
loop-i-preserved c = let l = c.loop-i in turn c.args.g _ _ l.col l.l l.i c.requires c.loop-i-test.true l.invariant

pub returns : goal.returns
returns c =
    let l = c.loop-i in
    let i = l.invariant in
    let g = c.args in
    let a = turned-length g.g g.col.now g.l.now c.requires in
    let b = left-length g.g g.col.now g.l.now c.requires in
    let e = c.loop-i-test.false in
    record { col_after = front_end (turned_all g.g g.col.now g.l.now) g.col.now l.col l.i a (omega arith) i.col_done; l_after = front_end (left_all g.g g.col.now g.l.now) g.l.now l.l l.i b (omega arith) i.l_done }
