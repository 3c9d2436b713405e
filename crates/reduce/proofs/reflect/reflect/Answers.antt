use mathlib.Core.Path.{◌≡◌, sym, ap, ◌∙◌}
use Rattle.std.specs.Prelude.{is_ok}
use Rattle.leaves.proofs.Folds.{dot_fits, axpy_fits}
use Rattle.leaves.specs.Vector.{dot_of}
use Rattle.reduce.specs.Reduction.{reflect as reflect_of}
use Rattle.reduce.proofs.reflect.reflect.Goals as goal

pub unwrap-s-requires : goal.unwrap-s-requires
unwrap-s-requires c = ap is_ok (dot_fits _ _ _ c.requires.col_len c.dot.ensures)

pub unwrap-requires : goal.unwrap-requires
unwrap-requires c = ap is_ok (axpy_fits _ _ _ _ _ (sym c.requires.col_len) c.axpy.ensures).0

pub returns : goal.returns
unfolding reflect_of
returns c =
    let g = c.args in
    let f = dot_fits g.col.now g.axis.now c.dot.result c.requires.col_len c.dot.ensures in
    let s : c.unwrap-s.result ≡ dot_of g.col.now g.axis.now = cc in
    (axpy_fits _ _ _ _ _ (sym c.requires.col_len) c.axpy.ensures).1 ∙ rw (s, reflect_of)
