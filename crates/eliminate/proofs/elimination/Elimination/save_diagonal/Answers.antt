use mathlib.Core.Path.{◌≡◌, sym, ◌∙◌}
use native.Mathlib.Omega.{arith}
use lib.ListN.{length}
use Rattle.eliminate.specs.Eliminate.{heads}
use Rattle.eliminate.specs.inner.Edges.{edges_of}
use Rattle.leaves.proofs.Folds.{front_turn, front_end}
use Rattle.eliminate.proofs.Triangular.{first_at, heads-length, edges_of-length}
use Rattle.eliminate.proofs.elimination.Elimination.save_diagonal.Goals as goal

pub loop-j-preserved : goal.loop-j-preserved
loop-j-preserved c =
    let l = c.loop-j in
    let r = c.args.self.now in
    let rows = edges_of r.n r.upper_r.now in
    let e : length (heads rows) ≡ r.n = heads-length rows ∙ edges_of-length r.n r.upper_r.now in
    front_turn (heads rows) _ l.saved _ l.j (omega arith) (omega arith)
    (rw c.cell_at-p.ensures.value (sym (first_at r.n r.upper_r.now r.square l.j (omega arith)))) l.invariant

pub returns : goal.returns
returns c =
    let l = c.loop-j in
    let r = c.args.self.now in
    let rows = edges_of r.n r.upper_r.now in
    let e : length (heads rows) ≡ r.n = heads-length rows ∙ edges_of-length r.n r.upper_r.now in
    front_end (heads rows) _ l.saved l.j (omega arith) (omega arith) l.invariant
