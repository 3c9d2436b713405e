use mathlib.Core.Path.{◌≡◌, sym, ap, ◌∙◌}
use mathlib.Core.List.{map}
use Prim.Native.Nat.{ℕ}
use Rattle.leaves.proofs.Loops.{upto_none, upto_turn}
use Rattle.leaves.specs.Norm.{norm, either, ranges_of}
use Rattle.leaves.specs.declared.norm.Ranges.{Ranges}
use Rattle.leaves.proofs.Seen.{along_none, along_turn}
use Rattle.reduce.specs.Reduction.{Reduction, reduced, measured_at}
use Rattle.reduce.specs.inner.Going.{going}
use Rattle.reduce.proofs.Going.{same-none, same-then}
use Rattle.reduce.proofs.pivoted.PivotedQR.reduce.Goals as goal

-- before the first column nothing has moved
begun : {r s : Reduction} → r ≡ s → s.diag ≡ map norm s.cols → r.diag ≡ map norm r.cols
begun e h = rw e h

unseen : {r s : Reduction} {all : Ranges} (seen : Ranges) → r ≡ s → all ≡ seen → seen ≡ ranges_of s.cols → all ≡ ranges_of r.cols
unseen seen e a h = a ∙ rw e h

pub loop-j-init : goal.loop-j-init
loop-j-init c =
    let q = c.args.self.now in
    let f = reduced q.n in
    record { same = same-none _; after = upto_none f _; sees = along_none (measured_at q.n) f q.seen _ }

pub reduce_column-requires-clause-begun : goal.reduce_column-requires-clause-begun
reduce_column-requires-clause-begun c =
    let q = c.args.self.now in
    let f = reduced q.n in
    let i = c.loop-j.invariant in
    let p = c.requires in
    λ z. let e = (rw z at i.after) ∙ sym (upto_none f _) in
    record {
      norms = begun e p.norms;
      flags = unseen q.seen e ((rw z at i.sees) ∙ sym (along_none (measured_at q.n) f q.seen _)) p.flags;
    }

pub loop-j-preserved : goal.loop-j-preserved
loop-j-preserved c =
    let q = c.args.self.now in
    let g = measured_at q.n in
    let f = reduced q.n in
    let l = c.loop-j in
    let i = l.invariant in
    let x = c.reduce_column.ensures in
    let n = i.same.across in
    record {
      same = same-then i.same x.same;
      after = upto_turn f l.j _ i.after (x.after ∙ ap (λ (k : ℕ). reduced k l.j (going l.self)) n);
      sees = along_turn g f q.seen _ l.j i.sees i.after (x.sees ∙ ap (λ (k : ℕ). either l.self.seen (ranges_of (measured_at k l.j (going l.self)))) n);
    }
