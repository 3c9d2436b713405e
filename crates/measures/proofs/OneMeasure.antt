-- No second outcome fits the contract of a call of module 6: `Post` is what the source's `ensures` says. Assumes nothing.
use Prim.Native.Nat.{ℕ}
use mathlib.Core.Path.{◌≡◌, sym, ap, ◌∙◌}
use mathlib.Core.Bool.{Bool}
use lib.Ieee.{Float}
use contract.Lifetimes.{Lfts}
use borrow.Fn.World.{ArgsD}
use borrow.Fn.Kinds.{ended_of}
use denote.Triple.Clauses.{AtExit}
use Rattle.std.specs.Prelude.{Result}
use Rattle.leaves.specs.declared.reply.Refusal.{Refusal}
use Rattle.leaves.specs.declared.norm.Normed.{Normed}
use Rattle.leaves.specs.declared.norm.Ranges.{Ranges}
use Rattle.leaves.proofs.Replies.{reply_of-same, measured_of-same}
use Rattle.leaves.specs.declared.reply.Told.{Told as Answered}
use Rattle.factor.specs.Outcome.{Told, Ended}
use Rattle.measures.specs.Rescale.{Scaled}
use Rattle.measures.specs.declared.scaling.Scaling.{Scaling}
use Rattle.factor.specs.declared.state.State.{State}
use Rattle.measures.proofs.Answers.{scaling_of-same}
use Rattle.measures.specs.contracts.measures.max_a_t_b_scaled.{signature as max-a-t-b-scaled-signature}
use Rattle.measures.proofs.measures.max_a_t_b_scaled.Reads as max-a-t-b-scaled
use Rattle.measures.proofs.measures.max_a_t_b_scaled.Kinds as max-a-t-b-scaled-kinds
use Rattle.measures.specs.contracts.measures.a_x_norm.{signature as a-x-norm-signature}
use Rattle.measures.proofs.measures.a_x_norm.Reads as a-x-norm
use Rattle.measures.proofs.measures.a_x_norm.Kinds as a-x-norm-kinds
use Rattle.measures.specs.contracts.measures.determined.{signature as determined-signature}
use Rattle.measures.proofs.measures.determined.Reads as determined
use Rattle.measures.proofs.measures.determined.Kinds as determined-kinds
use Rattle.measures.specs.contracts.measures.is_non_singular.{signature as is-non-singular-signature}
use Rattle.measures.proofs.measures.is_non_singular.Reads as is-non-singular
use Rattle.measures.proofs.measures.is_non_singular.Kinds as is-non-singular-kinds
use Rattle.measures.specs.contracts.above.above_limit.{signature as above-limit-signature}
use Rattle.measures.proofs.above.above_limit.Reads as above-limit
use Rattle.measures.proofs.above.above_limit.Kinds as above-limit-kinds
use Rattle.measures.specs.contracts.update_diag.update_diag.{signature as update-diag-signature}
use Rattle.measures.proofs.update_diag.update_diag.Reads as update-diag
use Rattle.measures.proofs.update_diag.update_diag.Kinds as update-diag-kinds

-- an answer and the state beside it
same_told : {A : Type 0} {r t : Answered A State} → r.answer ≡ t.answer → r.state ≡ t.state → r ≡ t
same_told {A = A} {r = r} {t = t} e f =
    ap (λ (a : Result A Refusal). record { answer = a; state = r.state }) e ∙ ap (λ (s : State). record { answer = t.answer; state = s }) f

pub max_a_t_b_scaled-one_outcome : (κs : Lfts 2) (a : ArgsD max-a-t-b-scaled-signature κs) (r₁ r₂ : Answered Float State) (s₁ s₂ : AtExit (ended_of 2 max-a-t-b-scaled-kinds.ps max-a-t-b-scaled-kinds.r) κs)
    → max-a-t-b-scaled.Post κs a r₁ s₁ → max-a-t-b-scaled.Post κs a r₂ s₂ → (r₁ ≡ r₂) × (s₁.1.0.now ≡ s₂.1.0.now)
max_a_t_b_scaled-one_outcome κs a r₁ r₂ s₁ s₂ p q =
    let e = p ∙ sym q in
    (same_told (reply_of-same r₁.answer r₂.answer (ap (λ (x : Told Float). x.reply) e)) (ap (λ (x : Told Float). x.state) e), ap (λ (x : Told Float). x.store) e)

pub a_x_norm-one_outcome : (κs : Lfts 3) (a : ArgsD a-x-norm-signature κs) (r₁ r₂ : Answered Normed State) (s₁ s₂ : AtExit (ended_of 3 a-x-norm-kinds.ps a-x-norm-kinds.r) κs)
    → a-x-norm.Post κs a r₁ s₁ → a-x-norm.Post κs a r₂ s₂ → (r₁ ≡ r₂) × (s₁.1.0.now ≡ s₂.1.0.now)
a_x_norm-one_outcome κs a r₁ r₂ s₁ s₂ p q =
    let e = p ∙ sym q in
    (same_told (measured_of-same r₁.answer r₂.answer (ap (λ (x : Told (Float × Ranges)). x.reply) e)) (ap (λ (x : Told (Float × Ranges)). x.state) e), ap (λ (x : Told (Float × Ranges)). x.store) e)

pub determined-one_outcome : (κs : Lfts 1) (a : ArgsD determined-signature κs) (r₁ r₂ : Answered ℕ State) (s₁ s₂ : AtExit (ended_of 1 determined-kinds.ps determined-kinds.r) κs)
    → determined.Post κs a r₁ s₁ → determined.Post κs a r₂ s₂ → (r₁ ≡ r₂) × (s₁.1.0.now ≡ s₂.1.0.now)
determined-one_outcome κs a r₁ r₂ s₁ s₂ p q =
    let e = p ∙ sym q in
    (same_told (reply_of-same r₁.answer r₂.answer (ap (λ (x : Told ℕ). x.reply) e)) (ap (λ (x : Told ℕ). x.state) e), ap (λ (x : Told ℕ). x.store) e)

pub is_non_singular-one_outcome : (κs : Lfts 1) (a : ArgsD is-non-singular-signature κs) (r₁ r₂ : Answered Bool State) (s₁ s₂ : AtExit (ended_of 1 is-non-singular-kinds.ps is-non-singular-kinds.r) κs)
    → is-non-singular.Post κs a r₁ s₁ → is-non-singular.Post κs a r₂ s₂ → (r₁ ≡ r₂) × (s₁.1.0.now ≡ s₂.1.0.now)
is_non_singular-one_outcome κs a r₁ r₂ s₁ s₂ p q =
    let e = p ∙ sym q in
    (same_told (reply_of-same r₁.answer r₂.answer (ap (λ (x : Told Bool). x.reply) e)) (ap (λ (x : Told Bool). x.state) e), ap (λ (x : Told Bool). x.store) e)

pub above_limit-one_outcome : (κs : Lfts 2) (a : ArgsD above-limit-signature κs) (r₁ r₂ : Answered Bool State) (s₁ s₂ : AtExit (ended_of 2 above-limit-kinds.ps above-limit-kinds.r) κs)
    → above-limit.Post κs a r₁ s₁ → above-limit.Post κs a r₂ s₂ → (r₁ ≡ r₂) × (s₁.1.0.now ≡ s₂.1.0.now)
above_limit-one_outcome κs a r₁ r₂ s₁ s₂ p q =
    let e = p ∙ sym q in
    (same_told (reply_of-same r₁.answer r₂.answer (ap (λ (x : Told Bool). x.reply) e)) (ap (λ (x : Told Bool). x.state) e), ap (λ (x : Told Bool). x.store) e)

pub update_diag-one_outcome : (κs : Lfts 3) (a : ArgsD update-diag-signature κs) (r₁ r₂ : Answered Scaling State) (s₁ s₂ : AtExit (ended_of 3 update-diag-kinds.ps update-diag-kinds.r) κs)
    → update-diag.Post κs a r₁ s₁ → update-diag.Post κs a r₂ s₂
    → (r₁ ≡ r₂) × ((s₁.1.0.now ≡ s₂.1.0.now) × (s₁.1.1.1.0.now ≡ s₂.1.1.1.0.now))
update_diag-one_outcome κs a r₁ r₂ s₁ s₂ p q =
    let e = p ∙ sym q in (
      same_told (scaling_of-same r₁.answer r₂.answer (ap (λ (x : Ended Scaled). x.reply) e)) (ap (λ (x : Ended Scaled). x.state) e),
      (ap (λ (x : Ended Scaled). x.store) e, ap (λ (x : Ended Scaled). x.out) e),
    )
