-- No second outcome fits the search's contract: `Post` is what the source's `ensures` says. Assumes nothing.
use mathlib.Core.Path.{◌≡◌, sym, ap, ◌∙◌}
use mathlib.Core.List.{List}
use lib.Ieee.{Float}
use contract.Lifetimes.{Lfts}
use borrow.Fn.World.{ArgsD}
use borrow.Fn.Kinds.{ended_of}
use denote.Triple.Clauses.{AtExit}
use Rattle.std.specs.Prelude.{Result}
use Rattle.leaves.specs.declared.reply.Refusal.{Refusal}
use Rattle.leaves.proofs.Replies.{reply_of-same}
use Rattle.factor.specs.Outcome.{Ended, ended}
use Rattle.factor.specs.declared.state.State.{State}
use Rattle.search.specs.Search.{Flagged}
use Rattle.leaves.specs.declared.reply.Told.{Told}
use Rattle.search.specs.contracts.trust_region.determine_lambda_and_parameter_update.{signature}
use Rattle.search.proofs.trust_region.determine_lambda_and_parameter_update.Reads as search
use Rattle.search.proofs.trust_region.determine_lambda_and_parameter_update.Kinds as kinds
use Rattle.leaves.specs.Reply.{reply_of}

abbrev End : Type 0
End = Ended Flagged

abbrev Answer : Type 0
Answer = Result Flagged Refusal

abbrev tells : Answer → State → Told Flagged State
tells a q = record { answer = a; state = q }

end_same : (r t : Told Flagged State) {s u o p : List Float} → ended (reply_of r.answer) r.state s o ≡ ended (reply_of t.answer) t.state u p
    → (r ≡ t) × (s ≡ u) × (o ≡ p)
end_same r t e =
    let a = reply_of-same r.answer t.answer (ap (λ (x : End). x.reply) e) in
    let b = ap (λ (x : End). x.state) e in (
      ap (λ (d : Answer). tells d r.state) a ∙ ap (λ (q : State). tells t.answer q) b,
      ap (λ (x : End). x.store) e,
      ap (λ (x : End). x.out) e,
    )

pub determine_lambda_and_parameter_update-one_outcome : (κs : Lfts 4) (a : ArgsD signature κs) (r₁ r₂ : Told Flagged State) (s₁ s₂ : AtExit (ended_of 4 kinds.ps kinds.r) κs)
    → search.Post κs a r₁ s₁ → search.Post κs a r₂ s₂
    → (r₁ ≡ r₂) × (s₁.1.0.now ≡ s₂.1.0.now) × (s₁.1.1.1.1.1.1.0.now ≡ s₂.1.1.1.1.1.1.0.now)
determine_lambda_and_parameter_update-one_outcome κs a r₁ r₂ s₁ s₂ p q = end_same r₁ r₂ (p ∙ sym q)
