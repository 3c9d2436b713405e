use native.Mathlib.Omega.{arith}
use lib.ListN.{length, take, drop, length-set, length-take, length-drop}
use mathlib.Core.Path.{◌≡◌, ap}
use Rattle.std.specs.Prelude.{is_ok}
use Rattle.leaves.proofs.Folds.{axpy_fits}
use Rattle.leaves.proofs.Triangles.{place_law}
use Rattle.leaves.proofs.triangle.solve_place.Goals as goal

pub slice_bounds-axpy-end-2 : goal.slice_bounds-axpy-end-2
slice_bounds-axpy-end-2 c = simp length-set (omega arith)

pub slice_bounds-axpy-end-3 : goal.slice_bounds-axpy-end-3
slice_bounds-axpy-end-3 c = simp (length-take, length-set) (omega arith)

pub unwrap-requires : goal.unwrap-requires
unwrap-requires c = ap is_ok (axpy_fits _ _ _ _ _ (simp (length-take, length-drop, length-set) (omega arith)) c.axpy.ensures).0

pub returns : goal.returns
returns c =
    let g = c.args in
    place_law g.r.now g.x.now g.apart g.n g.i _ (omega arith) (omega arith) (omega arith) (omega arith) c.axpy.ensures
