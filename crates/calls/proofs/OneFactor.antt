-- No second outcome fits the contract of a factoring: `Post` is what the source's `ensures` says. Assumes nothing.
use mathlib.Core.Path.{◌≡◌, sym, ap, ◌∙◌}
use contract.Lifetimes.{Lfts}
use borrow.Fn.World.{ArgsD}
use borrow.Fn.Kinds.{ended_of}
use denote.Triple.Clauses.{AtExit}
use Rattle.leaves.specs.declared.norm.Ranges.{Ranges}
use Rattle.leaves.specs.declared.reply.Told.{Told}
use Rattle.leaves.proofs.Replies.{reply_of-same}
use Rattle.calls.specs.Factoring.{MarkedFactored}
use Rattle.calls.specs.declared.state.State.{State}
use Rattle.factor.proofs.Answers.{told_same}
use Rattle.calls.specs.contracts.pivoted_qr.pivoted_qr.{signature}
use Rattle.calls.proofs.pivoted_qr.pivoted_qr.Reads as pivoted-qr
use Rattle.calls.proofs.pivoted_qr.pivoted_qr.Kinds as kinds

pub pivoted_qr-one_outcome : (κs : Lfts 5) (a : ArgsD signature κs) (r₁ r₂ : Told Ranges State) (s₁ s₂ : AtExit (ended_of 5 kinds.ps kinds.r) κs)
    → pivoted-qr.Post κs a r₁ s₁ → pivoted-qr.Post κs a r₂ s₂
    → (r₁ ≡ r₂) × (s₁.1.1.1.1.1.0.now ≡ s₂.1.1.1.1.1.0.now) × (s₁.1.1.1.1.1.1.0.now ≡ s₂.1.1.1.1.1.1.0.now) × (s₁.1.1.1.1.1.1.1.0.now ≡ s₂.1.1.1.1.1.1.1.0.now)
pivoted_qr-one_outcome κs a r₁ r₂ s₁ s₂ p q =
    let e = p ∙ sym q in
    let f = reply_of-same r₁.answer r₂.answer (ap (λ (x : MarkedFactored). x.reply) e) in
    (told_same r₁ r₂ f (ap (λ (x : MarkedFactored). x.state) e), ap (λ (x : MarkedFactored). x.store) e, ap (λ (x : MarkedFactored). x.order) e, ap (λ (x : MarkedFactored). x.bench) e)
