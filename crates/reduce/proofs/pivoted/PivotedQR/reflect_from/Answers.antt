use Prim.Native.Nat.{suc}
use mathlib.Core.Path.{ap, ◌∙◌}
use mathlib.Core.List.{[]}
use lib.ListN.{get_or, drop}
use Rattle.leaves.proofs.Squares.{columns-length}
use Rattle.reduce.specs.Reduction.{reflect_from}
use Rattle.reduce.specs.inner.Going.{grid_of, going}
use Rattle.reduce.proofs.Going.{beside-going, column_of}
use Rattle.reduce.proofs.Pivots.{last_column, swept_by, reflected_by, reflected_sees}
use Rattle.reduce.proofs.pivoted.PivotedQR.reflect_from.Goals as goal

pub returns-clause-after : goal.returns-clause-after
returns-clause-after c =
    let g = c.args in
    let q = g.self.now in
    let n = q.n in
    let j = g.j in
    let a = c.axis_of-t in
    let axis = a.new.axis in
    let x = c.later_columns in
    let y = x.new.self in
    let z = c.reflect_column in
    let h = c.requires.j_lt_n in
    let there = ap (drop j) (column_of q j h) in
    beside-going z.ensures.beside
    ∙ last_column y.n (grid_of y) (grid_of z.new.self) (reflect_from j axis (get_or (grid_of y) y.n [])) y.diag.now y.work.now y.order.now (columns-length y.m (suc y.n) y.bench.now) z.ensures.after
    ∙ swept_by n j a.result axis (going q) (going y) h x.ensures.after
    ∙ reflected_by n j g.s a.result axis (drop j (get_or (grid_of q) j [])) (going q) there a.ensures.value a.ensures.axis_after

pub returns-clause-sees : goal.returns-clause-sees
returns-clause-sees c =
    let g = c.args in
    let q = g.self.now in
    let n = q.n in
    let j = g.j in
    let a = c.axis_of-t in
    let there = ap (drop j) (column_of q j c.requires.j_lt_n) in
    c.reflect_column.ensures.beside.seen ∙ c.later_columns.ensures.sees ∙ reflected_sees n j g.s a.result a.new.axis (drop j (get_or (grid_of q) j [])) (going q) q.seen there a.ensures.value a.ensures.axis_after
