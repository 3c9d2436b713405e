-- No second outcome fits the contract of a test: `Post` is what the source's `ensures` says. Assumes nothing.
use mathlib.Core.Path.{◌≡◌, sym, ◌∙◌}
use mathlib.Core.Bool.{Bool}
use contract.Lifetimes.{Lfts}
use borrow.Fn.World.{ArgsD}
use borrow.Fn.Kinds.{ended_of}
use denote.Triple.Clauses.{AtExit}
use Rattle.std.specs.Prelude.{Result}
use Rattle.leaves.specs.declared.reply.Refusal.{Refusal}
use Rattle.factor.proofs.Answers.{failed_by-same}
use Rattle.factor.specs.contracts.check.is_empty.{signature as is-empty-signature}
use Rattle.factor.proofs.check.is_empty.Reads as is-empty
use Rattle.factor.proofs.check.is_empty.Kinds as is-empty-kinds
use Rattle.factor.specs.contracts.check.is_nothing.{signature as is-nothing-signature}
use Rattle.factor.proofs.check.is_nothing.Reads as is-nothing
use Rattle.factor.proofs.check.is_nothing.Kinds as is-nothing-kinds
use Rattle.factor.specs.contracts.check.permutation.{signature as permutation-signature}
use Rattle.factor.proofs.check.permutation.Reads as permutation
use Rattle.factor.proofs.check.permutation.Kinds as permutation-kinds
use Rattle.factor.specs.contracts.check.room.{signature as room-signature}
use Rattle.factor.proofs.check.room.Reads as room
use Rattle.factor.proofs.check.room.Kinds as room-kinds
use Rattle.factor.specs.contracts.check.ordered.{signature as ordered-signature}
use Rattle.factor.proofs.check.ordered.Reads as ordered
use Rattle.factor.proofs.check.ordered.Kinds as ordered-kinds

pub is_empty-one_outcome : (κs : Lfts 0) (a : ArgsD is-empty-signature κs) (r₁ r₂ : Bool) (s₁ s₂ : AtExit (ended_of 0 is-empty-kinds.ps is-empty-kinds.r) κs)
    → is-empty.Post κs a r₁ s₁ → is-empty.Post κs a r₂ s₂ → r₁ ≡ r₂
is_empty-one_outcome κs a r₁ r₂ s₁ s₂ p q = p ∙ sym q

pub is_nothing-one_outcome : (κs : Lfts 0) (a : ArgsD is-nothing-signature κs) (r₁ r₂ : Bool) (s₁ s₂ : AtExit (ended_of 0 is-nothing-kinds.ps is-nothing-kinds.r) κs)
    → is-nothing.Post κs a r₁ s₁ → is-nothing.Post κs a r₂ s₂ → r₁ ≡ r₂
is_nothing-one_outcome κs a r₁ r₂ s₁ s₂ p q = p ∙ sym q

pub permutation-one_outcome : (κs : Lfts 1) (a : ArgsD permutation-signature κs) (r₁ r₂ : Result (Unit {0}) Refusal) (s₁ s₂ : AtExit (ended_of 1 permutation-kinds.ps permutation-kinds.r) κs)
    → permutation.Post κs a r₁ s₁ → permutation.Post κs a r₂ s₂ → r₁ ≡ r₂
permutation-one_outcome κs a r₁ r₂ s₁ s₂ p q = failed_by-same r₁ r₂ (p ∙ sym q)

pub room-one_outcome : (κs : Lfts 0) (a : ArgsD room-signature κs) (r₁ r₂ : Result (Unit {0}) Refusal) (s₁ s₂ : AtExit (ended_of 0 room-kinds.ps room-kinds.r) κs)
    → room.Post κs a r₁ s₁ → room.Post κs a r₂ s₂ → r₁ ≡ r₂
room-one_outcome κs a r₁ r₂ s₁ s₂ p q = failed_by-same r₁ r₂ (p ∙ sym q)

pub ordered-one_outcome : (κs : Lfts 1) (a : ArgsD ordered-signature κs) (r₁ r₂ : Result (Unit {0}) Refusal) (s₁ s₂ : AtExit (ended_of 1 ordered-kinds.ps ordered-kinds.r) κs)
    → ordered.Post κs a r₁ s₁ → ordered.Post κs a r₂ s₂ → r₁ ≡ r₂
ordered-one_outcome κs a r₁ r₂ s₁ s₂ p q = failed_by-same r₁ r₂ (p ∙ sym q)
