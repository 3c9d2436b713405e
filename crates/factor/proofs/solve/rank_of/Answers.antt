use Prim.Native.Nat.{◌<◌}
use mathlib.Core.Path.{◌≡◌, ◌∙◌}
use native.Mathlib.Omega.{arith}
use lib.ListN.{length, take}
use lib.Ieee.{of_bits}
use Rattle.leaves.specs.Square.{uppers_of, diagonal}
use Rattle.factor.proofs.Solves.{top_long, top_at, rank-stop, rank_go, rank-end}
use Rattle.factor.proofs.solve.rank_of.Goals as goal

pub returns-then-d : goal.returns-then-d
unfolding of_bits
returns-then-d c =
    let g = c.args in
    let k = c.loop-k.k in
    let ds = take g.top (diagonal (uppers_of g.square.n g.square.cells.now)) in
    let h : k < length ds = omega (arith, top_long g.square.n g.top g.square.cells.now c.requires) in
    let e = top_at g.square.n g.top k g.square.cells.now _ c.loop-k-test.true c.diagonal_at-d.ensures in
    rank-stop ds k h _ e c.if-d.true ∙ c.loop-k.invariant

pub loop-k-preserved : goal.loop-k-preserved
unfolding of_bits
loop-k-preserved c =
    let g = c.args in
    let k = c.loop-k.k in
    let ds = take g.top (diagonal (uppers_of g.square.n g.square.cells.now)) in
    let h : k < length ds = omega (arith, top_long g.square.n g.top g.square.cells.now c.requires) in
    let e = top_at g.square.n g.top k g.square.cells.now _ c.loop-k-test.true c.diagonal_at-d.ensures in
    rank_go ds k h _ e c.if-d.false ∙ c.loop-k.invariant

pub returns : goal.returns
returns c =
    let g = c.args in
    let k = c.loop-k.k in
    let ds = take g.top (diagonal (uppers_of g.square.n g.square.cells.now)) in
    let e : g.top ≡ k = omega arith in
    e ∙ rank-end ds k (omega (arith, top_long g.square.n g.top g.square.cells.now c.requires)) ∙ c.loop-k.invariant
