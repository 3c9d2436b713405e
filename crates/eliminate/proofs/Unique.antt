-- No second outcome fits the contract of the elimination: `Post` is what the source's `ensures` says. Assumes nothing.
use mathlib.Core.Path.{◌≡◌, sym, ap, ◌∙◌}
use contract.Lifetimes.{Lfts}
use borrow.Fn.World.{ArgsD}
use borrow.Fn.Kinds.{ended_of}
use denote.Triple.Clauses.{AtExit}
use Rattle.std.specs.Prelude.{Result}
use Rattle.leaves.specs.declared.reply.Refusal.{Refusal}
use Rattle.leaves.proofs.Replies.{reply_of-same}
use Rattle.eliminate.specs.Eliminated.{Eliminated}
use Rattle.eliminate.specs.contracts.square.eliminate_diag.{signature}
use Rattle.eliminate.proofs.square.eliminate_diag.Reads as eliminate_diag
use Rattle.eliminate.proofs.square.eliminate_diag.Kinds as kinds

-- the answer, and the three slices that are written
pub eliminate_diag-one_outcome : (κs : Lfts 4) (a : ArgsD signature κs) (r₁ r₂ : Result (Unit {0}) Refusal) (s₁ s₂ : AtExit (ended_of 4 kinds.ps kinds.r) κs)
    → eliminate_diag.Post κs a r₁ s₁ → eliminate_diag.Post κs a r₂ s₂
    → (r₁ ≡ r₂) × (s₁.1.0.now ≡ s₂.1.0.now) × (s₁.1.1.1.0.now ≡ s₂.1.1.1.0.now) × (s₁.1.1.1.1.0.now ≡ s₂.1.1.1.1.0.now)
eliminate_diag-one_outcome κs a r₁ r₂ s₁ s₂ p q =
    let e = p ∙ sym q in (
      reply_of-same r₁ r₂ (ap (λ (x : Eliminated). x.reply) e),
      ap (λ (x : Eliminated). x.square) e,
      ap (λ (x : Eliminated). x.rhs) e,
      ap (λ (x : Eliminated). x.ldiag) e,
    )
