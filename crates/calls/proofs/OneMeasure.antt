-- No second outcome fits the contract of a call of module 6 with marks: `Post` is what the source's `ensures` says. Assumes nothing.
use Prim.Native.Nat.{ℕ}
use mathlib.Core.Path.{◌≡◌, sym, ap, ◌∙◌}
use mathlib.Core.Bool.{Bool}
use lib.Ieee.{Float}
use contract.Lifetimes.{Lfts}
use borrow.Fn.World.{ArgsD}
use borrow.Fn.Kinds.{ended_of}
use denote.Triple.Clauses.{AtExit}
use Rattle.leaves.specs.declared.reply.Told.{Told}
use Rattle.leaves.specs.declared.norm.Normed.{Normed}
use Rattle.leaves.specs.declared.norm.Ranges.{Ranges}
use Rattle.leaves.proofs.Replies.{reply_of-same, measured_of-same}
use Rattle.factor.proofs.Answers.{told_same}
use Rattle.calls.specs.Outcome.{MarkedTold}
use Rattle.calls.specs.declared.state.State.{State}
use Rattle.calls.specs.contracts.above.above_limit.{signature as above-limit-signature}
use Rattle.calls.proofs.above.above_limit.Reads as above-limit
use Rattle.calls.proofs.above.above_limit.Kinds as above-limit-kinds
use Rattle.calls.specs.contracts.measure.max_a_t_b_scaled.{signature as max-a-t-b-scaled-signature}
use Rattle.calls.proofs.measure.max_a_t_b_scaled.Reads as max-a-t-b-scaled
use Rattle.calls.proofs.measure.max_a_t_b_scaled.Kinds as max-a-t-b-scaled-kinds
use Rattle.calls.specs.contracts.measure.a_x_norm.{signature as a-x-norm-signature}
use Rattle.calls.proofs.measure.a_x_norm.Reads as a-x-norm
use Rattle.calls.proofs.measure.a_x_norm.Kinds as a-x-norm-kinds
use Rattle.calls.specs.contracts.measure.determined.{signature as determined-signature}
use Rattle.calls.proofs.measure.determined.Reads as determined
use Rattle.calls.proofs.measure.determined.Kinds as determined-kinds
use Rattle.calls.specs.contracts.measure.is_non_singular.{signature as is-non-singular-signature}
use Rattle.calls.proofs.measure.is_non_singular.Reads as is-non-singular
use Rattle.calls.proofs.measure.is_non_singular.Kinds as is-non-singular-kinds

pub max_a_t_b_scaled-one_outcome : (κs : Lfts 2) (a : ArgsD max-a-t-b-scaled-signature κs) (r₁ r₂ : Told Float State) (s₁ s₂ : AtExit (ended_of 2 max-a-t-b-scaled-kinds.ps max-a-t-b-scaled-kinds.r) κs)
    → max-a-t-b-scaled.Post κs a r₁ s₁ → max-a-t-b-scaled.Post κs a r₂ s₂ → (r₁ ≡ r₂) × (s₁.1.0.now ≡ s₂.1.0.now)
max_a_t_b_scaled-one_outcome κs a r₁ r₂ s₁ s₂ p q =
    let e = p ∙ sym q in
    (told_same r₁ r₂ (reply_of-same r₁.answer r₂.answer (ap (λ (x : MarkedTold Float). x.reply) e)) (ap (λ (x : MarkedTold Float). x.state) e), ap (λ (x : MarkedTold Float). x.store) e)

pub a_x_norm-one_outcome : (κs : Lfts 3) (a : ArgsD a-x-norm-signature κs) (r₁ r₂ : Told Normed State) (s₁ s₂ : AtExit (ended_of 3 a-x-norm-kinds.ps a-x-norm-kinds.r) κs)
    → a-x-norm.Post κs a r₁ s₁ → a-x-norm.Post κs a r₂ s₂ → (r₁ ≡ r₂) × (s₁.1.0.now ≡ s₂.1.0.now)
a_x_norm-one_outcome κs a r₁ r₂ s₁ s₂ p q =
    let e = p ∙ sym q in
    (told_same r₁ r₂ (measured_of-same r₁.answer r₂.answer (ap (λ (x : MarkedTold (Float × Ranges)). x.reply) e)) (ap (λ (x : MarkedTold (Float × Ranges)). x.state) e), ap (λ (x : MarkedTold (Float × Ranges)). x.store) e)

pub determined-one_outcome : (κs : Lfts 1) (a : ArgsD determined-signature κs) (r₁ r₂ : Told ℕ State) (s₁ s₂ : AtExit (ended_of 1 determined-kinds.ps determined-kinds.r) κs)
    → determined.Post κs a r₁ s₁ → determined.Post κs a r₂ s₂ → (r₁ ≡ r₂) × (s₁.1.0.now ≡ s₂.1.0.now)
determined-one_outcome κs a r₁ r₂ s₁ s₂ p q =
    let e = p ∙ sym q in
    (told_same r₁ r₂ (reply_of-same r₁.answer r₂.answer (ap (λ (x : MarkedTold ℕ). x.reply) e)) (ap (λ (x : MarkedTold ℕ). x.state) e), ap (λ (x : MarkedTold ℕ). x.store) e)

pub is_non_singular-one_outcome : (κs : Lfts 1) (a : ArgsD is-non-singular-signature κs) (r₁ r₂ : Told Bool State) (s₁ s₂ : AtExit (ended_of 1 is-non-singular-kinds.ps is-non-singular-kinds.r) κs)
    → is-non-singular.Post κs a r₁ s₁ → is-non-singular.Post κs a r₂ s₂ → (r₁ ≡ r₂) × (s₁.1.0.now ≡ s₂.1.0.now)
is_non_singular-one_outcome κs a r₁ r₂ s₁ s₂ p q =
    let e = p ∙ sym q in
    (told_same r₁ r₂ (reply_of-same r₁.answer r₂.answer (ap (λ (x : MarkedTold Bool). x.reply) e)) (ap (λ (x : MarkedTold Bool). x.state) e), ap (λ (x : MarkedTold Bool). x.store) e)

pub above_limit-one_outcome : (κs : Lfts 2) (a : ArgsD above-limit-signature κs) (r₁ r₂ : Told Bool State) (s₁ s₂ : AtExit (ended_of 2 above-limit-kinds.ps above-limit-kinds.r) κs)
    → above-limit.Post κs a r₁ s₁ → above-limit.Post κs a r₂ s₂ → (r₁ ≡ r₂) × (s₁.1.0.now ≡ s₂.1.0.now)
above_limit-one_outcome κs a r₁ r₂ s₁ s₂ p q =
    let e = p ∙ sym q in
    (told_same r₁ r₂ (reply_of-same r₁.answer r₂.answer (ap (λ (x : MarkedTold Bool). x.reply) e)) (ap (λ (x : MarkedTold Bool). x.state) e), ap (λ (x : MarkedTold Bool). x.store) e)
