use mathlib.Core.Path.{◌≡◌, ◌∙◌}
use native.Mathlib.Omega.{arith}
use mathlib.Core.Bool.{true, false}
use lib.ListN.{length}
use lib.Ieee.{of_bits}
use Rattle.leaves.specs.Square.{uppers_of, diagonal}
use Rattle.leaves.proofs.Squares.{diagonal-length, uppers_of-length}
use Rattle.factor.proofs.Solves.{no_zero-stop, no_zero_go, no_zero-end, singular_few, singular_is}
use Rattle.factor.proofs.solve.non_singular.Goals as goal

pub returns-then-m-n : goal.returns-then-m-n
returns-then-m-n c = singular_few _ _ _ c.if-m-n.true

pub returns-then-d : goal.returns-then-d
unfolding of_bits
returns-then-d c =
    let g = c.args in
    let k = c.loop-k.k in
    let us = uppers_of g.square.n g.square.cells.now in
    let z : length (diagonal us) ≡ g.square.n = diagonal-length 0 us ∙ uppers_of-length g.square.n g.square.cells.now in
    singular_is g.m g.square.n us false c.if-m-n.false (no_zero-stop (diagonal us) k (omega arith) _ c.diagonal_at-d.ensures c.if-d.true ∙ c.loop-k.invariant)

pub loop-k-preserved : goal.loop-k-preserved
unfolding of_bits
loop-k-preserved c =
    let g = c.args in
    let k = c.loop-k.k in
    let us = uppers_of g.square.n g.square.cells.now in
    let z : length (diagonal us) ≡ g.square.n = diagonal-length 0 us ∙ uppers_of-length g.square.n g.square.cells.now in
    no_zero_go (diagonal us) k (omega arith) _ c.diagonal_at-d.ensures c.if-d.false ∙ c.loop-k.invariant

pub returns : goal.returns
returns c =
    let g = c.args in
    let k = c.loop-k.k in
    let us = uppers_of g.square.n g.square.cells.now in
    let z : length (diagonal us) ≡ g.square.n = diagonal-length 0 us ∙ uppers_of-length g.square.n g.square.cells.now in
    singular_is g.m g.square.n us true c.if-m-n.false (no_zero-end (diagonal us) k (omega arith) ∙ c.loop-k.invariant)
