use mathlib.Core.Path.{◌≡◌, ap, ◌∙◌}
use native.Mathlib.Omega.{arith}
use lib.ListN.{length}
use Rattle.eliminate.specs.inner.Edges.{edges_of}
use Rattle.eliminate.proofs.Keeping.{kept_on}
use Rattle.eliminate.proofs.Triangular.{heads-length, edges_of-length}
use Rattle.eliminate.proofs.Settling.{settle_turn, settle_done}
use Rattle.eliminate.proofs.elimination.Elimination.eliminate_rows.Goals as goal

pub bounds-saved-j : goal.bounds-saved-j
bounds-saved-j c =
    let g = c.args in
    let r = g.self.now in
    let rows = edges_of r.n r.upper_r.now in
    let e : length g.saved.now ≡ r.n = ap length c.requires.saved_value ∙ heads-length rows ∙ edges_of-length r.n r.upper_r.now in
    omega arith

pub loop-j-preserved : goal.loop-j-preserved
loop-j-preserved c =
    let l = c.loop-j in
    let g = c.args in
    let r = g.self.now in
    let p = c.requires in
    let a = c.start_row in
    let z = c.end_row in
    let k = l.invariant.0 in
    let b = kept_on k a.ensures.kept in (
      kept_on b z.ensures.kept,
      rw z.ensures.rhs_same
          (settle_turn r.n l.j g.ds.now r.upper_r.now l.self.upper_r.now a.new.self.upper_r.now z.new.self.upper_r.now l.self.rhs.now a.new.self.rhs.now l.ldiag _ z.result c.loop-j-test.true p.ds_len.0
          (l.self.rhs_len ∙ k.size) (a.new.self.rhs_len ∙ b.size) (l.auto.ldiag ∙ p.ds_len.1) (rw p.saved_value) l.invariant.1 (rw k.size at a.ensures.turned) (rw b.size at z.ensures.ended)),
    )

pub returns-clause-settled : goal.returns-clause-settled
returns-clause-settled c =
    let l = c.loop-j in
    let g = c.args in
    let r = g.self.now in
    let p = c.requires.ds_len in
    settle_done r.n l.j g.ds.now r.upper_r.now l.self.upper_r.now l.self.rhs.now l.ldiag c.loop-j-test.false p.0 (l.self.rhs_len ∙ l.invariant.0.size) (l.auto.ldiag ∙ p.1) l.invariant.1
