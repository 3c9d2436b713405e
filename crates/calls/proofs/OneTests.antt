-- No second outcome fits the contract of a test: `Post` is what the source's `ensures` says. Assumes nothing.
use mathlib.Core.Path.{◌≡◌, sym, ◌∙◌}
use contract.Lifetimes.{Lfts}
use borrow.Fn.World.{ArgsD}
use borrow.Fn.Kinds.{ended_of}
use denote.Triple.Clauses.{AtExit}
use Rattle.std.specs.Prelude.{Result}
use Rattle.leaves.specs.declared.reply.Refusal.{Refusal}
use Rattle.factor.proofs.Answers.{failed_by-same}
use Rattle.calls.specs.contracts.check.form.{signature as form-signature}
use Rattle.calls.proofs.check.form.Reads as form
use Rattle.calls.proofs.check.form.Kinds as form-kinds

pub form-one_outcome : (κs : Lfts 1) (a : ArgsD form-signature κs) (r₁ r₂ : Result (Unit {0}) Refusal) (s₁ s₂ : AtExit (ended_of 1 form-kinds.ps form-kinds.r) κs)
    → form.Post κs a r₁ s₁ → form.Post κs a r₂ s₂ → r₁ ≡ r₂
form-one_outcome κs a r₁ r₂ s₁ s₂ p q = failed_by-same r₁ r₂ (p ∙ sym q)
