use mathlib.Core.Path.{◌∙◌}
use native.Mathlib.Omega.{arith}
use Rattle.leaves.specs.Square.{belows_of}
use Rattle.leaves.proofs.Squares.{belows_of-length}
use Rattle.factor.proofs.Solves.{rank_most}
use Rattle.factor.proofs.Backs.{damped_law}
use Rattle.factor.proofs.solve.backward_in.Goals as goal

pub clear_from-requires : goal.clear_from-requires
clear_from-requires c =
    let h = rank_most c.args.l.ldiag.now in
    let e = c.rank_of_diag-full.ensures in
    omega arith

pub backward_from-requires : goal.backward_from-requires
backward_from-requires c =
    let h = rank_most c.args.l.ldiag.now in
    let e = c.rank_of_diag-full.ensures in
    record { full_le_n = omega arith; w_len = c.clear_from.auto.w ∙ c.requires }

pub returns : goal.returns
returns c =
    let g = c.args in
    damped_law g.l.square.n _ g.l.ldiag.now (belows_of g.l.square.n g.l.square.cells.now) g.w.now _ _ c.args.l.ldiag_len (belows_of-length g.l.square.n g.l.square.cells.now) c.requires c.rank_of_diag-full.ensures c.clear_from.ensures c.backward_from.ensures
