-- No second outcome fits the contract of the reduction: `Post` is what the source's `ensures` says. Assumes nothing.
use mathlib.Core.Path.{◌≡◌, sym, ap, ◌∙◌}
use contract.Lifetimes.{Lfts}
use borrow.Fn.World.{ArgsD}
use borrow.Fn.Kinds.{ended_of}
use denote.Triple.Clauses.{AtExit}
use Rattle.std.specs.Prelude.{Result}
use Rattle.leaves.specs.declared.norm.Ranges.{Ranges}
use Rattle.leaves.specs.declared.reply.Refusal.{Refusal}
use Rattle.leaves.proofs.Replies.{reply_of-same}
use Rattle.reduce.specs.Reduced.{Reduced}
use Rattle.reduce.specs.contracts.bench.reduce_filled.{signature as reduce-filled-signature}
use Rattle.reduce.proofs.bench.reduce_filled.Reads as reduce_filled
use Rattle.reduce.proofs.bench.reduce_filled.Kinds as reduce-filled-kinds

-- the answer, the norms, R's diagonal, the order and the bench
pub reduce_filled-one_outcome : (κs : Lfts 4) (a : ArgsD reduce-filled-signature κs) (r₁ r₂ : Result Ranges Refusal) (s₁ s₂ : AtExit (ended_of 4 reduce-filled-kinds.ps reduce-filled-kinds.r) κs)
    → reduce_filled.Post κs a r₁ s₁ → reduce_filled.Post κs a r₂ s₂
    → (r₁ ≡ r₂) × (s₁.1.1.0.now ≡ s₂.1.1.0.now) × (s₁.1.1.1.0.now ≡ s₂.1.1.1.0.now) × (s₁.1.1.1.1.0.now ≡ s₂.1.1.1.1.0.now) × (s₁.1.1.1.1.1.0.now ≡ s₂.1.1.1.1.1.0.now)
reduce_filled-one_outcome κs a r₁ r₂ s₁ s₂ p q =
    let e = p ∙ sym q in (
      reply_of-same r₁ r₂ (ap (λ (x : Reduced). x.reply) e),
      ap (λ (x : Reduced). x.norms) e,
      ap (λ (x : Reduced). x.diag) e,
      ap (λ (x : Reduced). x.order) e,
      ap (λ (x : Reduced). x.bench) e,
    )
