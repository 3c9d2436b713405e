-- No second outcome fits a solve's contract: `Post` is what the source's `ensures` says. Assumes nothing.
use mathlib.Core.Path.{◌≡◌, sym, ◌∙◌}
use contract.Lifetimes.{Lfts}
use borrow.Fn.World.{ArgsD}
use borrow.Fn.Kinds.{ended_of}
use denote.Triple.Clauses.{AtExit}
use Rattle.leaves.specs.declared.reply.Told.{Told}
use Rattle.factor.specs.declared.state.State.{State}
use Rattle.factor.proofs.Answers.{ended_same}
use Rattle.factor.specs.contracts.least_squares.solve_with_zero_diagonal.{signature as solve-with-zero-diagonal-signature}
use Rattle.factor.proofs.least_squares.solve_with_zero_diagonal.Reads as solve-with-zero-diagonal
use Rattle.factor.proofs.least_squares.solve_with_zero_diagonal.Kinds as solve-with-zero-diagonal-kinds
use Rattle.factor.specs.contracts.least_squares.solve_with_diagonal.{signature as solve-with-diagonal-signature}
use Rattle.factor.proofs.least_squares.solve_with_diagonal.Reads as solve-with-diagonal
use Rattle.factor.proofs.least_squares.solve_with_diagonal.Kinds as solve-with-diagonal-kinds

pub solve_with_zero_diagonal-one_outcome : (κs : Lfts 3) (a : ArgsD solve-with-zero-diagonal-signature κs) (r₁ r₂ : Told (Unit {0}) State) (s₁ s₂ : AtExit (ended_of 3 solve-with-zero-diagonal-kinds.ps solve-with-zero-diagonal-kinds.r) κs)
    → solve-with-zero-diagonal.Post κs a r₁ s₁ → solve-with-zero-diagonal.Post κs a r₂ s₂ → (r₁ ≡ r₂) × (s₁.1.0.now ≡ s₂.1.0.now) × (s₁.1.1.1.0.now ≡ s₂.1.1.1.0.now)
solve_with_zero_diagonal-one_outcome κs a r₁ r₂ s₁ s₂ p q = ended_same r₁ r₂ (p ∙ sym q)

pub solve_with_diagonal-one_outcome : (κs : Lfts 4) (a : ArgsD solve-with-diagonal-signature κs) (r₁ r₂ : Told (Unit {0}) State) (s₁ s₂ : AtExit (ended_of 4 solve-with-diagonal-kinds.ps solve-with-diagonal-kinds.r) κs)
    → solve-with-diagonal.Post κs a r₁ s₁ → solve-with-diagonal.Post κs a r₂ s₂ → (r₁ ≡ r₂) × (s₁.1.0.now ≡ s₂.1.0.now) × (s₁.1.1.1.1.0.now ≡ s₂.1.1.1.1.0.now)
solve_with_diagonal-one_outcome κs a r₁ r₂ s₁ s₂ p q = ended_same r₁ r₂ (p ∙ sym q)
