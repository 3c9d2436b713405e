-- No second answer meets the contract of `sqrt`. `Post` is what the `ensures` says, as read from the source.
use mathlib.Core.Path.{◌≡◌, sym, ◌∙◌, subst}
use lib.Dec.{T}
use lib.Ieee.{Float, binary64, fits}
use contract.Lifetimes.{Lfts}
use borrow.Fn.World.{ArgsD}
use borrow.Fn.Kinds.{ended_of}
use denote.Triple.Clauses.{AtExit}
use Rattle.leaves.proofs.root.Meets.{sqrt_meets}
use Rattle.leaves.specs.contracts.root.sqrt as sqrt-code
use Rattle.leaves.proofs.root.sqrt.Reads as sqrt
use Rattle.leaves.proofs.root.sqrt.Kinds as sqrt-kinds
use Rattle.leaves.specs.IsRoot.{IsRoot}

pub sqrt-one_outcome : (κs : Lfts 0) (a : ArgsD sqrt-code.signature κs) (r₁ r₂ : Float) (s₁ s₂ : AtExit (ended_of 0 sqrt-kinds.ps sqrt-kinds.r) κs)
    → sqrt.Post κs a r₁ s₁ → sqrt.Post κs a r₂ s₂ → r₁ ≡ r₂
sqrt-one_outcome κs a r₁ r₂ s₁ s₂ p₁ p₂ = p₁ ∙ sym p₂

-- What the contract lets through is the root by document 01's rule, for every value that binary64 holds.
pub sqrt_is_root : (κs : Lfts 0) (a : ArgsD sqrt-code.signature κs) (r : Float) (s : AtExit (ended_of 0 sqrt-kinds.ps sqrt-kinds.r) κs) → T (fits binary64 a.0) → sqrt.Post κs a r s → IsRoot a.0 r
sqrt_is_root κs a r s f p = subst (λ (y : Float). IsRoot a.0 y) (sym p) (sqrt_meets a.0 f)
