-- No second outcome fits a solve's contract: `Post` is what the source's `ensures` says. Assumes nothing.
use mathlib.Core.Path.{◌≡◌, sym, ap, ◌∙◌}
use mathlib.Core.List.{List}
use lib.Ieee.{Float}
use contract.Lifetimes.{Lfts}
use borrow.Fn.World.{ArgsD}
use borrow.Fn.Kinds.{ended_of}
use denote.Triple.Clauses.{AtExit}
use Rattle.leaves.specs.declared.reply.Told.{Told}
use Rattle.leaves.specs.Reply.{reply_of}
use Rattle.leaves.proofs.Replies.{reply_of-same}
use Rattle.calls.specs.Outcome.{MarkedEnded, marked_ended}
use Rattle.calls.specs.declared.state.State.{State}
use Rattle.factor.proofs.Answers.{told_same}
use Rattle.calls.specs.contracts.least_squares.solve_with_zero_diagonal.{signature as zero_signature}
use Rattle.calls.proofs.least_squares.solve_with_zero_diagonal.Reads as zero
use Rattle.calls.proofs.least_squares.solve_with_zero_diagonal.Kinds as zero-kinds
use Rattle.calls.specs.contracts.least_squares.solve_with_diagonal.{signature as damped-signature}
use Rattle.calls.proofs.least_squares.solve_with_diagonal.Reads as damped
use Rattle.calls.proofs.least_squares.solve_with_diagonal.Kinds as damped-kinds

-- a call's answer and state, and both lent slices after it
pub ended_same : {A : Type 0} (r t : Told A State) {s u o p : List Float} → marked_ended (reply_of r.answer) r.state s o ≡ marked_ended (reply_of t.answer) t.state u p
    → (r ≡ t) × (s ≡ u) × (o ≡ p)
ended_same {A} r t e = (
  told_same r t (reply_of-same r.answer t.answer (ap (λ (x : MarkedEnded A). x.reply) e)) (ap (λ (x : MarkedEnded A). x.state) e),
  ap (λ (x : MarkedEnded A). x.store) e,
  ap (λ (x : MarkedEnded A). x.out) e,
)

pub solve_with_zero_diagonal-one_outcome : (κs : Lfts 3) (a : ArgsD zero_signature κs) (r₁ r₂ : Told (Unit {0}) State) (s₁ s₂ : AtExit (ended_of 3 zero-kinds.ps zero-kinds.r) κs)
    → zero.Post κs a r₁ s₁ → zero.Post κs a r₂ s₂ → (r₁ ≡ r₂) × (s₁.1.0.now ≡ s₂.1.0.now) × (s₁.1.1.1.0.now ≡ s₂.1.1.1.0.now)
solve_with_zero_diagonal-one_outcome κs a r₁ r₂ s₁ s₂ p q = ended_same r₁ r₂ (p ∙ sym q)

pub solve_with_diagonal-one_outcome : (κs : Lfts 4) (a : ArgsD damped-signature κs) (r₁ r₂ : Told (Unit {0}) State) (s₁ s₂ : AtExit (ended_of 4 damped-kinds.ps damped-kinds.r) κs)
    → damped.Post κs a r₁ s₁ → damped.Post κs a r₂ s₂ → (r₁ ≡ r₂) × (s₁.1.0.now ≡ s₂.1.0.now) × (s₁.1.1.1.1.0.now ≡ s₂.1.1.1.1.0.now)
solve_with_diagonal-one_outcome κs a r₁ r₂ s₁ s₂ p q = ended_same r₁ r₂ (p ∙ sym q)
