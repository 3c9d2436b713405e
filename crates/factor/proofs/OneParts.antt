-- No second outcome fits the contract of a part that is read, or of the rest: `Post` is what the source's `ensures` says. Assumes nothing.
use mathlib.Core.Path.{◌≡◌, sym, ◌∙◌}
use contract.Lifetimes.{Lfts}
use borrow.Fn.World.{ArgsD}
use borrow.Fn.Kinds.{ended_of}
use denote.Triple.Clauses.{AtExit}
use Rattle.std.specs.Prelude.{Result}
use Rattle.leaves.specs.declared.reply.Refusal.{Refusal}
use Rattle.factor.proofs.Answers.{read_same}
use Rattle.factor.specs.contracts.parts.qt_b.{signature as qt-b-signature}
use Rattle.factor.proofs.parts.qt_b.Reads as qt_b
use Rattle.factor.proofs.parts.qt_b.Kinds as qt-b-kinds
use Rattle.factor.specs.contracts.parts.norms.{signature as norms-signature}
use Rattle.factor.proofs.parts.norms.Reads as norms
use Rattle.factor.proofs.parts.norms.Kinds as norms-kinds
use Rattle.factor.specs.contracts.parts.diagonal.{signature as diagonal-signature}
use Rattle.factor.proofs.parts.diagonal.Reads as diagonal
use Rattle.factor.proofs.parts.diagonal.Kinds as diagonal-kinds
use Rattle.factor.specs.contracts.parts.rest.{signature as rest-signature}
use Rattle.factor.proofs.parts.rest.Reads as rest
use Rattle.factor.proofs.parts.rest.Kinds as rest-kinds

pub qt_b-one_outcome : (κs : Lfts 2) (a : ArgsD qt-b-signature κs) (r₁ r₂ : Result (Unit {0}) Refusal) (s₁ s₂ : AtExit (ended_of 2 qt-b-kinds.ps qt-b-kinds.r) κs)
    → qt_b.Post κs a r₁ s₁ → qt_b.Post κs a r₂ s₂ → (r₁ ≡ r₂) × (s₁.1.1.0.now ≡ s₂.1.1.0.now)
qt_b-one_outcome κs a r₁ r₂ s₁ s₂ p q = read_same r₁ r₂ (p ∙ sym q)

pub norms-one_outcome : (κs : Lfts 2) (a : ArgsD norms-signature κs) (r₁ r₂ : Result (Unit {0}) Refusal) (s₁ s₂ : AtExit (ended_of 2 norms-kinds.ps norms-kinds.r) κs)
    → norms.Post κs a r₁ s₁ → norms.Post κs a r₂ s₂ → (r₁ ≡ r₂) × (s₁.1.1.0.now ≡ s₂.1.1.0.now)
norms-one_outcome κs a r₁ r₂ s₁ s₂ p q = read_same r₁ r₂ (p ∙ sym q)

pub diagonal-one_outcome : (κs : Lfts 2) (a : ArgsD diagonal-signature κs) (r₁ r₂ : Result (Unit {0}) Refusal) (s₁ s₂ : AtExit (ended_of 2 diagonal-kinds.ps diagonal-kinds.r) κs)
    → diagonal.Post κs a r₁ s₁ → diagonal.Post κs a r₂ s₂ → (r₁ ≡ r₂) × (s₁.1.1.0.now ≡ s₂.1.1.0.now)
diagonal-one_outcome κs a r₁ r₂ s₁ s₂ p q = read_same r₁ r₂ (p ∙ sym q)

pub rest-one_outcome : (κs : Lfts 1) (a : ArgsD rest-signature κs) (r₁ r₂ : Result (Unit {0}) Refusal) (s₁ s₂ : AtExit (ended_of 1 rest-kinds.ps rest-kinds.r) κs)
    → rest.Post κs a r₁ s₁ → rest.Post κs a r₂ s₂ → (r₁ ≡ r₂) × (s₁.1.0.now ≡ s₂.1.0.now)
rest-one_outcome κs a r₁ r₂ s₁ s₂ p q = read_same r₁ r₂ (p ∙ sym q)
