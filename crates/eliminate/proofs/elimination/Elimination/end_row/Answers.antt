use Prim.Native.Nat.{◌-◌}
use mathlib.Core.Path.{◌≡◌, sym, ◌∙◌}
use native.Mathlib.Omega.{arith}
use lib.ListN.{get_or}
use mathlib.Core.List.{[]}
use Rattle.eliminate.specs.inner.Edges.{edges_of}
use Rattle.eliminate.proofs.Triangular.{edge_cell, edge_long, cell_rows, cell-above, set_first}
use Rattle.eliminate.proofs.elimination.Elimination.end_row.Goals as goal

pub returns-clause-ended : goal.returns-clause-ended
returns-clause-ended c =
    let g = c.args in
    let r = g.self.now in
    let s = r.upper_r.now in
    let h = c.requires in
    let e : g.j - g.j ≡ 0 = omega arith in
    let l = edge_long r.n s r.square g.j h in
    rw c.cell_at-p.ensures.value (record {
      first = sym (rw e at (edge_cell r.n s r.square g.j h g.j (omega arith) h));
      rows = cell_rows r.n s r.square g.j h g.j (omega arith) h g.v ∙ rw (e, set_first (get_or (edges_of r.n s) g.j []) g.v (omega arith));
      above = cell-above r.n s r.square g.j h g.j (omega arith) h g.v;
    })
