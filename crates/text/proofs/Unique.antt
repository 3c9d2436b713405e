-- No second outcome fits a public contract: `Post` is what the source's `ensures` says. Assumes nothing.
use Prim.Native.Nat.{ℕ}
use mathlib.Core.Path.{◌≡◌, sym, ap, ◌∙◌}
use mathlib.Core.List.{List}
use lib.Ieee.{Float}
use contract.Lifetimes.{Lfts}
use borrow.Fn.World.{ArgsD}
use borrow.Fn.Kinds.{ended_of}
use denote.Triple.Clauses.{AtExit}
use Rattle.std.specs.Prelude.{Option}
use Rattle.text.specs.declared.read.Found.{Found}
use Rattle.text.specs.contracts.digit.value.{signature as value-signature}
use Rattle.text.proofs.digit.value.Reads as value
use Rattle.text.proofs.digit.value.Kinds as value-kinds
use Rattle.text.specs.contracts.digit.capital.{signature as capital-signature}
use Rattle.text.proofs.digit.capital.Reads as capital
use Rattle.text.proofs.digit.capital.Kinds as capital-kinds
use Rattle.text.specs.contracts.read.number.{signature as number-signature}
use Rattle.text.proofs.read.number.Reads as number
use Rattle.text.proofs.read.number.Kinds as number-kinds
use Rattle.text.specs.contracts.double.of_bits.{signature as of-bits-signature}
use Rattle.text.proofs.double.of_bits.Reads as of-bits
use Rattle.text.proofs.double.of_bits.Kinds as of-bits-kinds
use Rattle.text.specs.contracts.double.bits_of.{signature as bits-of-signature}
use Rattle.text.proofs.double.bits_of.Reads as bits_of
use Rattle.text.proofs.double.bits_of.Kinds as bits-of-kinds
use Rattle.text.specs.contracts.put.Page.word.{signature as word-signature}
use Rattle.text.proofs.put.Page.word.Reads as word
use Rattle.text.proofs.put.Page.word.Kinds as word-kinds
use Rattle.text.specs.contracts.put.Page.hex.{signature as hex-signature}
use Rattle.text.proofs.put.Page.hex.Reads as hex
use Rattle.text.proofs.put.Page.hex.Kinds as hex-kinds
use Rattle.text.specs.contracts.put.Page.decimal.{signature as decimal-signature}
use Rattle.text.proofs.put.Page.decimal.Reads as decimal
use Rattle.text.proofs.put.Page.decimal.Kinds as decimal-kinds
use Rattle.text.specs.contracts.put.Page.bytes.{signature as bytes-signature}
use Rattle.text.proofs.put.Page.bytes.Reads as bytes
use Rattle.text.proofs.put.Page.bytes.Kinds as bytes-kinds

pub value-one_outcome : (κs : Lfts 0) (a : ArgsD value-signature κs) (r₁ r₂ : Option ℕ) (s₁ s₂ : AtExit (ended_of 0 value-kinds.ps value-kinds.r) κs) → value.Post κs a r₁ s₁ → value.Post κs a r₂ s₂
    → r₁ ≡ r₂
value-one_outcome κs a r₁ r₂ s₁ s₂ p q = p ∙ sym q

pub capital-one_outcome : (κs : Lfts 0) (a : ArgsD capital-signature κs) (r₁ r₂ : ℕ) (s₁ s₂ : AtExit (ended_of 0 capital-kinds.ps capital-kinds.r) κs) → capital.Post κs a r₁ s₁ → capital.Post κs a r₂ s₂
    → r₁ ≡ r₂
capital-one_outcome κs a r₁ r₂ s₁ s₂ p q = p ∙ sym q

pub number-one_outcome : (κs : Lfts 1) (a : ArgsD number-signature κs) (r₁ r₂ : Option Found) (s₁ s₂ : AtExit (ended_of 1 number-kinds.ps number-kinds.r) κs) → number.Post κs a r₁ s₁ → number.Post κs a r₂ s₂
    → r₁ ≡ r₂
number-one_outcome κs a r₁ r₂ s₁ s₂ p q = p ∙ sym q

pub of_bits-one_outcome : (κs : Lfts 0) (a : ArgsD of-bits-signature κs) (r₁ r₂ : Float) (s₁ s₂ : AtExit (ended_of 0 of-bits-kinds.ps of-bits-kinds.r) κs) → of-bits.Post κs a r₁ s₁ → of-bits.Post κs a r₂ s₂
    → r₁ ≡ r₂
of_bits-one_outcome κs a r₁ r₂ s₁ s₂ p q = p ∙ sym q

pub bits_of-one_outcome : (κs : Lfts 0) (a : ArgsD bits-of-signature κs) (r₁ r₂ : ℕ) (s₁ s₂ : AtExit (ended_of 0 bits-of-kinds.ps bits-of-kinds.r) κs) → bits_of.Post κs a r₁ s₁ → bits_of.Post κs a r₂ s₂
    → r₁ ≡ r₂
bits_of-one_outcome κs a r₁ r₂ s₁ s₂ p q = p ∙ sym q

pub word-one_outcome : (κs : Lfts 2) (a : ArgsD word-signature κs) (r₁ r₂ : Unit) (s₁ s₂ : AtExit (ended_of 2 word-kinds.ps word-kinds.r) κs) → word.Post κs a r₁ s₁ → word.Post κs a r₂ s₂
    → (s₁.0.now.at ≡ s₂.0.now.at) × (s₁.0.now.out.now ≡ s₂.0.now.out.now) × (s₁.0.now.out.ghost_name ≡ s₂.0.now.out.ghost_name)
word-one_outcome κs a r₁ r₂ s₁ s₂ p q = let e = p.0 ∙ sym q.0 in (ap (λ (x : ℕ × List ℕ). x.0) e, ap (λ (x : ℕ × List ℕ). x.1) e, p.1 ∙ sym q.1)

pub hex-one_outcome : (κs : Lfts 2) (a : ArgsD hex-signature κs) (r₁ r₂ : Unit) (s₁ s₂ : AtExit (ended_of 2 hex-kinds.ps hex-kinds.r) κs) → hex.Post κs a r₁ s₁ → hex.Post κs a r₂ s₂
    → (s₁.0.now.at ≡ s₂.0.now.at) × (s₁.0.now.out.now ≡ s₂.0.now.out.now) × (s₁.0.now.out.ghost_name ≡ s₂.0.now.out.ghost_name)
hex-one_outcome κs a r₁ r₂ s₁ s₂ p q = let e = p.0 ∙ sym q.0 in (ap (λ (x : ℕ × List ℕ). x.0) e, ap (λ (x : ℕ × List ℕ). x.1) e, p.1 ∙ sym q.1)

pub decimal-one_outcome : (κs : Lfts 2) (a : ArgsD decimal-signature κs) (r₁ r₂ : Unit) (s₁ s₂ : AtExit (ended_of 2 decimal-kinds.ps decimal-kinds.r) κs) → decimal.Post κs a r₁ s₁ → decimal.Post κs a r₂ s₂
    → (s₁.0.now.at ≡ s₂.0.now.at) × (s₁.0.now.out.now ≡ s₂.0.now.out.now) × (s₁.0.now.out.ghost_name ≡ s₂.0.now.out.ghost_name)
decimal-one_outcome κs a r₁ r₂ s₁ s₂ p q = let e = p.0 ∙ sym q.0 in (ap (λ (x : ℕ × List ℕ). x.0) e, ap (λ (x : ℕ × List ℕ). x.1) e, p.1 ∙ sym q.1)

pub bytes-one_outcome : (κs : Lfts 3) (a : ArgsD bytes-signature κs) (r₁ r₂ : Unit) (s₁ s₂ : AtExit (ended_of 3 bytes-kinds.ps bytes-kinds.r) κs) → bytes.Post κs a r₁ s₁ → bytes.Post κs a r₂ s₂
    → (s₁.0.now.at ≡ s₂.0.now.at) × (s₁.0.now.out.now ≡ s₂.0.now.out.now) × (s₁.0.now.out.ghost_name ≡ s₂.0.now.out.ghost_name)
bytes-one_outcome κs a r₁ r₂ s₁ s₂ p q = let e = p.0 ∙ sym q.0 in (ap (λ (x : ℕ × List ℕ). x.0) e, ap (λ (x : ℕ × List ℕ). x.1) e, p.1 ∙ sym q.1)
