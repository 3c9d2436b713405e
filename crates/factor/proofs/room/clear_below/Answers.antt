use mathlib.Core.Path.{refl, ◌∙◌}
use native.Mathlib.Omega.{arith}
use Rattle.leaves.specs.Square.{belows_of}
use Rattle.leaves.proofs.Squares.{belows_of-length, below_long}
use Rattle.factor.proofs.Lent.{cleared_none, cleared_turn, cleared-end}
use Rattle.factor.proofs.room.clear_below.Goals as goal

pub loop-k-init : goal.loop-k-init
loop-k-init c = (c.requires, refl, cleared_none _)

pub loop-k-preserved : goal.loop-k-preserved
loop-k-preserved c =
    let g = c.args in
    let q = c.requires in
    let l = c.loop-k in
    let h = c.loop-k-test.true in
    let x = c.clear_column in (
      record { small = q.small; whole = x.auto.square ∙ l.invariant.0.whole },
      x.ensures.square_unchanged ∙ l.invariant.1,
      cleared_turn g.n l.k (belows_of g.n g.square.now) (let z = belows_of-length g.n g.square.now in omega arith) (below_long g.n g.square.now q l.k h) l.invariant.2 x.ensures.square_after,
    )

pub returns : goal.returns
returns c =
    let g = c.args in
    let l = c.loop-k in
    record { square_unchanged = l.invariant.1; square_after = l.invariant.2 ∙ cleared-end l.k (belows_of g.n g.square.now) (let z = belows_of-length g.n g.square.now in omega (arith, c.loop-k-test.false)) }
