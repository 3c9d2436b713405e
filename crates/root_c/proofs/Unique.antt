-- No second answer meets the contract of `fodder_sqrt`. `Post` is what the `ensures` says, as read from the source.
use mathlib.Core.Path.{◌≡◌, sym, ◌∙◌}
use lib.Ieee.{Float}
use contract.Lifetimes.{Lfts}
use borrow.Fn.World.{ArgsD}
use borrow.Fn.Kinds.{ended_of}
use denote.Triple.Clauses.{AtExit}
use Rattle.root_c.specs.contracts.fodder_sqrt as sqrt-code
use Rattle.root_c.proofs.fodder_sqrt.Reads as sqrt
use Rattle.root_c.proofs.fodder_sqrt.Kinds as sqrt-kinds

pub fodder_sqrt-one_outcome : (κs : Lfts 0) (a : ArgsD sqrt-code.signature κs) (r₁ r₂ : Float) (s₁ s₂ : AtExit (ended_of 0 sqrt-kinds.ps sqrt-kinds.r) κs)
    → sqrt.Post κs a r₁ s₁ → sqrt.Post κs a r₂ s₂ → r₁ ≡ r₂
fodder_sqrt-one_outcome κs a r₁ r₂ s₁ s₂ p₁ p₂ = p₁ ∙ sym p₂
