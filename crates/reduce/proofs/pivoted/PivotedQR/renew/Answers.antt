use Prim.Native.Nat.{suc}
use mathlib.Core.Path.{sym, ap, ◌∙◌}
use native.Mathlib.Numerals.{add-one}
use mathlib.Core.List.{List}
use lib.ListN.{drop}
use lib.Ieee.{Float, of_bits}
use Rattle.leaves.specs.Norm.{norm, ranges}
use Rattle.reduce.specs.inner.Going.{going}
use Rattle.reduce.proofs.Going.{column_of, cell_of}
use Rattle.reduce.proofs.reflect.Reductions.{renewed-zero, renewed_anew, renewed_less, remeasured-zero, remeasured_anew, remeasured_less}
use Rattle.reduce.proofs.pivoted.PivotedQR.renew.Goals as goal

pub returns-then-d-clause-after : goal.returns-then-d-clause-after
unfolding of_bits
returns-then-d-clause-after c = renewed-zero c.args.j c.args.k (going c.args.self.now) c.if-d.true

pub returns-then-d-clause-sees : goal.returns-then-d-clause-sees
unfolding of_bits
returns-then-d-clause-sees c = remeasured-zero c.args.j c.args.k (going c.args.self.now) c.args.self.now.seen c.if-d.true

pub returns-then-stale-clause-after : goal.returns-then-stale-clause-after
unfolding of_bits
returns-then-stale-clause-after c =
    let g = c.args in
    let q = g.self.now in
    let h = c.requires.k_lt_n in
    let x = cell_of q g.k h g.j _ c.row_at-a.ensures.value c.requires.j_lt_m in
    let z = c.norm_from-z.ensures.value_value ∙ rw add-one (ap (λ (l : List Float). norm (drop (suc g.j) l)) (column_of q g.k h)) in
    renewed_anew g.j g.k (going q) _ c.shrunk-s.result _ c.if-d.false x c.shrunk-s.ensures (sym c.stale.ensures ∙ c.if-stale.true) z

pub returns-then-stale-clause-sees : goal.returns-then-stale-clause-sees
unfolding of_bits
returns-then-stale-clause-sees c =
    let g = c.args in
    let q = g.self.now in
    let h = c.requires.k_lt_n in
    let x = cell_of q g.k h g.j _ c.row_at-a.ensures.value c.requires.j_lt_m in
    let z = c.norm_from-z.ensures.seen_value ∙ rw add-one (ap (λ (l : List Float). ranges (drop (suc g.j) l)) (column_of q g.k h)) in
    c.either-self.ensures ∙ remeasured_anew g.j g.k (going q) q.seen _ c.shrunk-s.result _ c.if-d.false x c.shrunk-s.ensures (sym c.stale.ensures ∙ c.if-stale.true) z

pub returns-else-stale-clause-after : goal.returns-else-stale-clause-after
unfolding of_bits
returns-else-stale-clause-after c =
    let g = c.args in
    let x = cell_of g.self.now g.k c.requires.k_lt_n g.j _ c.row_at-a.ensures.value c.requires.j_lt_m in
    renewed_less g.j g.k (going g.self.now) c.shrunk-s.result _ c.if-d.false x c.shrunk-s.ensures (sym c.stale.ensures ∙ c.if-stale.false)

pub returns-else-stale-clause-sees : goal.returns-else-stale-clause-sees
unfolding of_bits
returns-else-stale-clause-sees c =
    let g = c.args in
    let x = cell_of g.self.now g.k c.requires.k_lt_n g.j _ c.row_at-a.ensures.value c.requires.j_lt_m in
    remeasured_less g.j g.k (going g.self.now) g.self.now.seen c.shrunk-s.result _ c.if-d.false x c.shrunk-s.ensures (sym c.stale.ensures ∙ c.if-stale.false)
