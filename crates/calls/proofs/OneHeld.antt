-- No second outcome fits a held call's contract: `Post` is what the source's `ensures` says. Assumes nothing.
use mathlib.Core.Path.{◌≡◌, sym, ◌∙◌}
use contract.Lifetimes.{Lfts}
use denote.Triple.Clauses.{AtExit}
use borrow.Fn.World.{ArgsD}
use borrow.Fn.Kinds.{ended_of}
use Rattle.std.specs.Prelude.{Result}
use Rattle.leaves.specs.declared.reply.Refusal.{Refusal}
use Rattle.factor.proofs.Answers.{read_same}
use Rattle.leaves.specs.declared.reply.Told.{Told}
use Rattle.calls.specs.declared.state.State.{State}
use Rattle.calls.proofs.OneSolves.{ended_same}
use Rattle.calls.specs.contracts.cholesky.solve.{signature as solve-signature}
use Rattle.calls.proofs.cholesky.solve.Reads as solve
use Rattle.calls.proofs.cholesky.solve.Kinds as solve-kinds
use Rattle.calls.specs.contracts.cholesky.mul_qt_b.{signature as mul-qt-b-signature}
use Rattle.calls.proofs.cholesky.mul_qt_b.Reads as mul-qt-b
use Rattle.calls.proofs.cholesky.mul_qt_b.Kinds as mul-qt-b-kinds
use Rattle.calls.specs.contracts.cholesky.solve_read.{signature as solve-read-signature}
use Rattle.calls.proofs.cholesky.solve_read.Reads as solve-read
use Rattle.calls.proofs.cholesky.solve_read.Kinds as solve-read-kinds
use Rattle.calls.specs.contracts.cholesky.mul_read.{signature as mul-read-signature}
use Rattle.calls.proofs.cholesky.mul_read.Reads as mul-read
use Rattle.calls.proofs.cholesky.mul_read.Kinds as mul-read-kinds

pub solve-one_outcome : (κs : Lfts 4) (a : ArgsD solve-signature κs) (r₁ r₂ : Told (Unit {0}) State) (s₁ s₂ : AtExit (ended_of 4 solve-kinds.ps solve-kinds.r) κs)
    → solve.Post κs a r₁ s₁ → solve.Post κs a r₂ s₂
    → (r₁ ≡ r₂) × (s₁.1.0.now ≡ s₂.1.0.now) × (s₁.1.1.1.1.0.now ≡ s₂.1.1.1.1.0.now)
solve-one_outcome κs a r₁ r₂ s₁ s₂ p q = ended_same r₁ r₂ (p ∙ sym q)

pub mul_qt_b-one_outcome : (κs : Lfts 2) (a : ArgsD mul-qt-b-signature κs) (r₁ r₂ : Told (Unit {0}) State) (s₁ s₂ : AtExit (ended_of 2 mul-qt-b-kinds.ps mul-qt-b-kinds.r) κs)
    → mul-qt-b.Post κs a r₁ s₁ → mul-qt-b.Post κs a r₂ s₂
    → (r₁ ≡ r₂) × (s₁.1.0.now ≡ s₂.1.0.now) × (s₁.1.1.0.now ≡ s₂.1.1.0.now)
mul_qt_b-one_outcome κs a r₁ r₂ s₁ s₂ p q = ended_same r₁ r₂ (p ∙ sym q)

pub solve_read-one_outcome : (κs : Lfts 4) (a : ArgsD solve-read-signature κs) (r₁ r₂ : Result (Unit {0}) Refusal) (s₁ s₂ : AtExit (ended_of 4 solve-read-kinds.ps solve-read-kinds.r) κs)
    → solve-read.Post κs a r₁ s₁ → solve-read.Post κs a r₂ s₂ → (r₁ ≡ r₂) × (s₁.1.1.1.1.0.now ≡ s₂.1.1.1.1.0.now)
solve_read-one_outcome κs a r₁ r₂ s₁ s₂ p q = read_same r₁ r₂ (p ∙ sym q)

pub mul_read-one_outcome : (κs : Lfts 2) (a : ArgsD mul-read-signature κs) (r₁ r₂ : Result (Unit {0}) Refusal) (s₁ s₂ : AtExit (ended_of 2 mul-read-kinds.ps mul-read-kinds.r) κs)
    → mul-read.Post κs a r₁ s₁ → mul-read.Post κs a r₂ s₂ → (r₁ ≡ r₂) × (s₁.1.1.0.now ≡ s₂.1.1.0.now)
mul_read-one_outcome κs a r₁ r₂ s₁ s₂ p q = read_same r₁ r₂ (p ∙ sym q)
