-- No second outcome fits the contract of a factoring, or of that of what stands in the bench: `Post` is what the source's `ensures` says. Assumes nothing.
use mathlib.Core.Path.{◌≡◌, sym, ap, ◌∙◌}
use contract.Lifetimes.{Lfts}
use borrow.Fn.World.{ArgsD}
use borrow.Fn.Kinds.{ended_of}
use denote.Triple.Clauses.{AtExit}
use Rattle.std.specs.Prelude.{Result}
use Rattle.leaves.specs.declared.reply.Refusal.{Refusal}
use Rattle.leaves.proofs.Replies.{reply_of-same}
use Rattle.factor.specs.Factoring.{Factored}
use Rattle.factor.specs.Filled.{Filled}
use Rattle.factor.specs.declared.state.State.{State}
use Rattle.leaves.specs.declared.reply.Told.{Told}
use Rattle.leaves.specs.declared.norm.Ranges.{Ranges}
use Rattle.factor.proofs.Answers.{told_same}
use Rattle.factor.specs.contracts.pivoted_qr.pivoted_qr.{signature}
use Rattle.factor.proofs.pivoted_qr.pivoted_qr.Reads as pivoted-qr
use Rattle.factor.proofs.pivoted_qr.pivoted_qr.Kinds as kinds
use Rattle.factor.specs.contracts.filled.factor_filled.{signature as filled-signature}
use Rattle.factor.proofs.filled.factor_filled.Reads as factor_filled
use Rattle.factor.proofs.filled.factor_filled.Kinds as filled-kinds

pub pivoted_qr-one_outcome : (κs : Lfts 5) (a : ArgsD signature κs) (r₁ r₂ : Told Ranges State) (s₁ s₂ : AtExit (ended_of 5 kinds.ps kinds.r) κs)
    → pivoted-qr.Post κs a r₁ s₁ → pivoted-qr.Post κs a r₂ s₂
    → (r₁ ≡ r₂) × (s₁.1.1.1.1.0.now ≡ s₂.1.1.1.1.0.now) × (s₁.1.1.1.1.1.0.now ≡ s₂.1.1.1.1.1.0.now) × (s₁.1.1.1.1.1.1.0.now ≡ s₂.1.1.1.1.1.1.0.now)
pivoted_qr-one_outcome κs a r₁ r₂ s₁ s₂ p q =
    let e = p ∙ sym q in
    let f = reply_of-same r₁.answer r₂.answer (ap (λ (x : Factored). x.reply) e) in
    (told_same r₁ r₂ f (ap (λ (x : Factored). x.state) e), ap (λ (x : Factored). x.store) e, ap (λ (x : Factored). x.order) e, ap (λ (x : Factored). x.bench) e)

pub factor_filled-one_outcome : (κs : Lfts 3) (a : ArgsD filled-signature κs) (r₁ r₂ : Result Ranges Refusal) (s₁ s₂ : AtExit (ended_of 3 filled-kinds.ps filled-kinds.r) κs)
    → factor_filled.Post κs a r₁ s₁ → factor_filled.Post κs a r₂ s₂
    → (r₁ ≡ r₂) × (s₁.1.1.0.now ≡ s₂.1.1.0.now) × (s₁.1.1.1.0.now ≡ s₂.1.1.1.0.now) × (s₁.1.1.1.1.0.now ≡ s₂.1.1.1.1.0.now)
factor_filled-one_outcome κs a r₁ r₂ s₁ s₂ p q =
    let e = p ∙ sym q in
    (reply_of-same r₁ r₂ (ap (λ (x : Filled). x.reply) e), ap (λ (x : Filled). x.store) e, ap (λ (x : Filled). x.order) e, ap (λ (x : Filled). x.bench) e)
