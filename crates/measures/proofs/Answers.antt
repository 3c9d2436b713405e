-- Two answers that are read alike are the same answer. Assumes nothing.
use Prim.Native.Nat.{ℕ}
use mathlib.Core.Path.{◌≡◌, ap, ◌∙◌}
use native.Mathlib.Omega.{arith}
use Rattle.std.specs.Prelude.{Result, Ok, Err}
use Rattle.leaves.specs.declared.reply.Refusal.{Refusal}
use Rattle.leaves.specs.declared.norm.Ranges.{Ranges}
use Rattle.leaves.proofs.Replies.{answered-refused, refused-answered, answered-same, refused-same, refusal_number-same}
use Rattle.measures.specs.Answers.{scaling_of}
use Rattle.measures.specs.Rescale.{first, later}
use Rattle.measures.specs.declared.scaling.Start.{Start}
use Rattle.measures.specs.declared.scaling.Scaling.{Scaling}
use Rattle.measures.specs.declared.scaling.Scaling.TheVariants as scaling

first_same : {s t : Start} {f g : Ranges} → first s f ≡ first t g → (s ≡ t) × (f ≡ g)
first_same e = (cc, cc)

later_same : {f g : Ranges} → later f ≡ later g → f ≡ g
later_same e = cc

first_later : {X : Type 0} {t : Start} {f g : Ranges} → first t f ≡ later g → X
first_later {t = t} {f = f} {g = g} e = absurd (let z : ◌≡◌ {A = ℕ} 0 1 = cc in omega arith)

later_first : {X : Type 0} {t : Start} {f g : Ranges} → later g ≡ first t f → X
later_first {t = t} {f = f} {g = g} e = absurd (let z : ◌≡◌ {A = ℕ} 0 1 = cc in omega arith)

pub scaling_of-same : (r t : Result Scaling Refusal) → scaling_of r ≡ scaling_of t → r ≡ t
scaling_of-same (Ok (scaling.First s f)) (Ok (scaling.First t g)) e =
    let p = first_same (answered-same e) in ap (λ (u : Start). Ok (scaling.First u f)) p.0 ∙ ap (λ (h : Ranges). Ok (scaling.First t h)) p.1
scaling_of-same (Ok (scaling.First s f)) (Ok (scaling.Later g)) e = first_later (answered-same e)
scaling_of-same (Ok (scaling.First s f)) (Err k) e = answered-refused e
scaling_of-same (Ok (scaling.Later f)) (Ok (scaling.First t g)) e = later_first (answered-same e)
scaling_of-same (Ok (scaling.Later f)) (Ok (scaling.Later g)) e = ap (λ (h : Ranges). Ok (scaling.Later h)) (later_same (answered-same e))
scaling_of-same (Ok (scaling.Later f)) (Err k) e = answered-refused e
scaling_of-same (Err j) (Ok (scaling.First t g)) e = refused-answered e
scaling_of-same (Err j) (Ok (scaling.Later g)) e = refused-answered e
scaling_of-same (Err j) (Err k) e = ap Err (refusal_number-same j k (refused-same e))
