use native.Mathlib.Omega.{arith}
use Rattle.leaves.specs.Square.{uppers_of}
use Rattle.factor.specs.Held.{mul_upper}
use Rattle.leaves.proofs.Folds.{front_turn, front_end}
use Rattle.factor.proofs.held.Helds.{mul_upper-length}
use Rattle.factor.proofs.held.mul_upper.Goals as goal

pub loop-j-preserved : goal.loop-j-preserved
loop-j-preserved c =
    let g = c.args in
    let l = c.loop-j in
    let zs = mul_upper g.q.now (uppers_of g.square.n g.square.cells.now) in
    let z = mul_upper-length g.square.n g.square.cells.now g.q.now in
    front_turn zs g.out.now l.out _ l.j (omega arith) (omega arith) c.row_times.ensures l.invariant

pub returns : goal.returns
returns c =
    let g = c.args in
    let l = c.loop-j in
    let zs = mul_upper g.q.now (uppers_of g.square.n g.square.cells.now) in
    let z = mul_upper-length g.square.n g.square.cells.now g.q.now in
    front_end zs g.out.now l.out l.j (omega arith) (omega arith) l.invariant
