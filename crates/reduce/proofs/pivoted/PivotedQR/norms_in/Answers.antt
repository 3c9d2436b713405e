use Prim.Native.Nat.{suc}
use mathlib.Core.Path.{refl, sym, ap, ◌∙◌}
use native.Mathlib.Omega.{arith}
use mathlib.Core.List.{[], map}
use lib.ListN.{take}
use lib.Seq.{get_or-take}
use lib.Ieee.{nan}
use Rattle.leaves.specs.Norm.{norm, either}
use Rattle.leaves.proofs.Seen.{ranges_of_none}
use Rattle.reduce.specs.inner.Going.{grid_of}
use Rattle.leaves.proofs.Squares.{columns-length}
use Rattle.leaves.proofs.Overs.{over_turn}
use Rattle.reduce.proofs.Begins.{norms-length, norms_at, bench-wide, measured_next}
use Rattle.reduce.proofs.pivoted.PivotedQR.norms_in.Goals as goal

pub loop-k-init : goal.loop-k-init
loop-k-init c = (refl, c.neither-seen.ensures ∙ ranges_of_none)

pub loop-k-preserved : goal.loop-k-preserved
loop-k-preserved c =
    let l = c.loop-k in
    let g = c.args.self.now in
    let h = c.loop-k-test.true in
    let b = grid_of g in
    let cs = take g.n b in
    let w = bench-wide g.m g.n g.bench.now in
    let s = norms-length cs ∙ w in
    let v = c.norm_from-s.ensures.value_value ∙ ap norm (sym (get_or-take g.n b l.k [] (omega arith))) ∙ sym (norms_at cs l.k (omega arith)) in
    let more = ap (either l.seen) c.norm_from-s.ensures.seen_value in (
      over_turn nan (map norm cs) c.args.norms.now l.norms _ l.k (omega arith) (omega arith) v l.invariant.0,
      c.either-seen.ensures ∙ more ∙ measured_next b l.k l.seen (omega (arith, columns-length g.m (suc g.n) g.bench.now)) l.invariant.1,
    )
