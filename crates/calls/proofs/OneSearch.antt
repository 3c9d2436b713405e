-- No second outcome fits the search's contract: `Post` is what the source's `ensures` says. Assumes nothing.
use mathlib.Core.Path.{◌≡◌, sym, ◌∙◌}
use contract.Lifetimes.{Lfts}
use borrow.Fn.World.{ArgsD}
use borrow.Fn.Kinds.{ended_of}
use denote.Triple.Clauses.{AtExit}
use Rattle.leaves.specs.declared.reply.Told.{Told}
use Rattle.search.specs.Search.{Flagged}
use Rattle.calls.specs.declared.state.State.{State}
use Rattle.calls.proofs.OneSolves.{ended_same}
use Rattle.calls.specs.contracts.trust_region.determine_lambda_and_parameter_update.{signature}
use Rattle.calls.proofs.trust_region.determine_lambda_and_parameter_update.Reads as search
use Rattle.calls.proofs.trust_region.determine_lambda_and_parameter_update.Kinds as kinds

pub determine_lambda_and_parameter_update-one_outcome : (κs : Lfts 4) (a : ArgsD signature κs) (r₁ r₂ : Told Flagged State) (s₁ s₂ : AtExit (ended_of 4 kinds.ps kinds.r) κs)
    → search.Post κs a r₁ s₁ → search.Post κs a r₂ s₂
    → (r₁ ≡ r₂) × (s₁.1.0.now ≡ s₂.1.0.now) × (s₁.1.1.1.1.1.1.0.now ≡ s₂.1.1.1.1.1.1.0.now)
determine_lambda_and_parameter_update-one_outcome κs a r₁ r₂ s₁ s₂ p q = ended_same r₁ r₂ (p ∙ sym q)
