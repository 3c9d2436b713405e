-- No second outcome fits the contract of the scaling call with marks: `Post` is what the source's `ensures` says. Assumes nothing.
use mathlib.Core.Path.{◌≡◌, sym, ap, ◌∙◌}
use contract.Lifetimes.{Lfts}
use borrow.Fn.World.{ArgsD}
use borrow.Fn.Kinds.{ended_of}
use denote.Triple.Clauses.{AtExit}
use Rattle.leaves.specs.declared.reply.Told.{Told}
use Rattle.measures.specs.Rescale.{Scaled}
use Rattle.measures.specs.declared.scaling.Scaling.{Scaling}
use Rattle.measures.proofs.Answers.{scaling_of-same}
use Rattle.calls.specs.Outcome.{MarkedEnded}
use Rattle.calls.specs.declared.state.State.{State}
use Rattle.factor.proofs.Answers.{told_same}
use Rattle.calls.specs.contracts.update_diag.update_diag.{signature as update-diag-signature}
use Rattle.calls.proofs.update_diag.update_diag.Reads as update-diag
use Rattle.calls.proofs.update_diag.update_diag.Kinds as update-diag-kinds

pub update_diag-one_outcome : (κs : Lfts 3) (a : ArgsD update-diag-signature κs) (r₁ r₂ : Told Scaling State) (s₁ s₂ : AtExit (ended_of 3 update-diag-kinds.ps update-diag-kinds.r) κs)
    → update-diag.Post κs a r₁ s₁ → update-diag.Post κs a r₂ s₂
    → (r₁ ≡ r₂) × ((s₁.1.0.now ≡ s₂.1.0.now) × (s₁.1.1.1.0.now ≡ s₂.1.1.1.0.now))
update_diag-one_outcome κs a r₁ r₂ s₁ s₂ p q =
    let e = p ∙ sym q in (
      told_same r₁ r₂ (scaling_of-same r₁.answer r₂.answer (ap (λ (x : MarkedEnded Scaled). x.reply) e)) (ap (λ (x : MarkedEnded Scaled). x.state) e),
      (ap (λ (x : MarkedEnded Scaled). x.store) e, ap (λ (x : MarkedEnded Scaled). x.out) e),
    )
