-- No second outcome fits a public contract: `Post` is what the source's `ensures` says. Assumes nothing.
use Rattle.std.proofs.Common.{◌≡◌, ℕ, List, sym, ap, ◌∙◌}
use Rattle.std.specs.Prelude.{Option, Result}
use lib.Ieee.{Float}
use contract.Lifetimes.{Lfts}
use borrow.Fn.World.{ArgsD}
use borrow.Fn.Kinds.{ended_of}
use denote.Triple.Clauses.{AtExit}
use denote.RattleType.{RattleType}
use denote.Param.Laws.{Laws}
use Rattle.lines.specs.declared.scan.Number.{Number}
use Rattle.lines.specs.declared.scan.Span.{Span}
use Rattle.lines.specs.declared.scan.Unread.{Unread}
use Rattle.lines.specs.declared.feed.Fed.{Fed}
use Rattle.lines.specs.contracts.part.within.{signature as part-within-signature}
use Rattle.lines.proofs.part.within.Reads as part-within
use Rattle.lines.proofs.part.within.Kinds as part-within-kinds
use Rattle.lines.specs.contracts.scan.byte.{signature as scan-byte-signature}
use Rattle.lines.proofs.scan.byte.Reads as scan-byte
use Rattle.lines.proofs.scan.byte.Kinds as scan-byte-kinds
use Rattle.lines.specs.contracts.scan.word.{signature as scan-word-signature}
use Rattle.lines.proofs.scan.word.Reads as scan-word
use Rattle.lines.proofs.scan.word.Kinds as scan-word-kinds
use Rattle.lines.specs.contracts.scan.doubles.{signature as scan-doubles-signature}
use Rattle.lines.proofs.scan.doubles.Reads as scan-doubles
use Rattle.lines.proofs.scan.doubles.Kinds as scan-doubles-kinds
use Rattle.lines.specs.contracts.scan.vector.{signature as scan-vector-signature}
use Rattle.lines.proofs.scan.vector.Reads as scan-vector
use Rattle.lines.proofs.scan.vector.Kinds as scan-vector-kinds
use Rattle.lines.specs.contracts.feed.line.{signature as feed-line-signature}
use Rattle.lines.proofs.feed.line.Reads as feed-line
use Rattle.lines.proofs.feed.line.Kinds as feed-line-kinds
use Rattle.lines.specs.contracts.put.number.{signature as put-number-signature}
use Rattle.lines.proofs.put.number.Reads as put-number
use Rattle.lines.proofs.put.number.Kinds as put-number-kinds
use Rattle.lines.specs.contracts.put.double.{signature as put-double-signature}
use Rattle.lines.proofs.put.double.Reads as put-double
use Rattle.lines.proofs.put.double.Kinds as put-double-kinds
use Rattle.lines.specs.contracts.put.row.{signature as put-row-signature}
use Rattle.lines.proofs.put.row.Reads as put-row
use Rattle.lines.proofs.put.row.Kinds as put-row-kinds
use Rattle.lines.specs.contracts.put.refused.{signature as put-refused-signature}
use Rattle.lines.proofs.put.refused.Reads as Put-refused
use Rattle.lines.proofs.put.refused.Kinds as put-refused-kinds

pub byte-one_outcome : (κs : Lfts 1) (a : ArgsD scan-byte-signature κs) (r₁ r₂ : ℕ) (s₁ s₂ : AtExit (ended_of 1 scan-byte-kinds.ps scan-byte-kinds.r) κs) → scan-byte.Post κs a r₁ s₁ → scan-byte.Post κs a r₂ s₂
    → r₁ ≡ r₂
byte-one_outcome κs a r₁ r₂ s₁ s₂ p q = p ∙ sym q

pub word-one_outcome : (κs : Lfts 1) (a : ArgsD scan-word-signature κs) (r₁ r₂ : Option Number) (s₁ s₂ : AtExit (ended_of 1 scan-word-kinds.ps scan-word-kinds.r) κs) → scan-word.Post κs a r₁ s₁ → scan-word.Post κs a r₂ s₂
    → r₁ ≡ r₂
word-one_outcome κs a r₁ r₂ s₁ s₂ p q = p ∙ sym q

-- a room read into
abbrev Filled : Type 0
Filled = Result Span Unread × List Float

pub doubles-one_outcome : (κs : Lfts 2) (a : ArgsD scan-doubles-signature κs) (r₁ r₂ : Result Span Unread) (s₁ s₂ : AtExit (ended_of 2 scan-doubles-kinds.ps scan-doubles-kinds.r) κs) → scan-doubles.Post κs a r₁ s₁ → scan-doubles.Post κs a r₂ s₂
    → (r₁ ≡ r₂) × (s₁.1.1.1.0.now ≡ s₂.1.1.1.0.now)
doubles-one_outcome κs a r₁ r₂ s₁ s₂ p q = let e = p.0 ∙ sym q.0 in (ap (λ (x : Filled). x.0) e, ap (λ (x : Filled). x.1) e)

pub vector-one_outcome : (κs : Lfts 2) (a : ArgsD scan-vector-signature κs) (r₁ r₂ : Result Span Unread) (s₁ s₂ : AtExit (ended_of 2 scan-vector-kinds.ps scan-vector-kinds.r) κs) → scan-vector.Post κs a r₁ s₁ → scan-vector.Post κs a r₂ s₂
    → (r₁ ≡ r₂) × (s₁.1.1.0.now ≡ s₂.1.1.0.now)
vector-one_outcome κs a r₁ r₂ s₁ s₂ p q = let e = p.0 ∙ sym q.0 in (ap (λ (x : Filled). x.0) e, ap (λ (x : Filled). x.1) e)

pub line-one_outcome : (κs : Lfts 2) (a : ArgsD feed-line-signature κs) (r₁ r₂ : Fed) (s₁ s₂ : AtExit (ended_of 2 feed-line-kinds.ps feed-line-kinds.r) κs) → feed-line.Post κs a r₁ s₁ → feed-line.Post κs a r₂ s₂
    → (r₁ ≡ r₂) × (s₁.1.1.0.now ≡ s₂.1.1.0.now)
line-one_outcome κs a r₁ r₂ s₁ s₂ p q = let e = p ∙ sym q in (ap (λ (x : Fed × List ℕ). x.0) e, ap (λ (x : Fed × List ℕ). x.1) e)

pub number-one_outcome : (κs : Lfts 2) (a : ArgsD put-number-signature κs) (r₁ r₂ : Unit) (s₁ s₂ : AtExit (ended_of 2 put-number-kinds.ps put-number-kinds.r) κs) → put-number.Post κs a r₁ s₁ → put-number.Post κs a r₂ s₂
    → (s₁.1.0.now.at ≡ s₂.1.0.now.at) × (s₁.1.0.now.out.now ≡ s₂.1.0.now.out.now) × (s₁.1.0.now.out.ghost_name ≡ s₂.1.0.now.out.ghost_name)
number-one_outcome κs a r₁ r₂ s₁ s₂ p q = let e = p.0 ∙ sym q.0 in (ap (λ (x : ℕ × List ℕ). x.0) e, ap (λ (x : ℕ × List ℕ). x.1) e, p.1 ∙ sym q.1)

pub double-one_outcome : (κs : Lfts 2) (a : ArgsD put-double-signature κs) (r₁ r₂ : Unit) (s₁ s₂ : AtExit (ended_of 2 put-double-kinds.ps put-double-kinds.r) κs) → put-double.Post κs a r₁ s₁ → put-double.Post κs a r₂ s₂
    → (s₁.1.0.now.at ≡ s₂.1.0.now.at) × (s₁.1.0.now.out.now ≡ s₂.1.0.now.out.now) × (s₁.1.0.now.out.ghost_name ≡ s₂.1.0.now.out.ghost_name)
double-one_outcome κs a r₁ r₂ s₁ s₂ p q = let e = p.0 ∙ sym q.0 in (ap (λ (x : ℕ × List ℕ). x.0) e, ap (λ (x : ℕ × List ℕ). x.1) e, p.1 ∙ sym q.1)

pub row-one_outcome : (κs : Lfts 3) (a : ArgsD put-row-signature κs) (r₁ r₂ : Unit) (s₁ s₂ : AtExit (ended_of 3 put-row-kinds.ps put-row-kinds.r) κs) → put-row.Post κs a r₁ s₁ → put-row.Post κs a r₂ s₂
    → (s₁.1.0.now.at ≡ s₂.1.0.now.at) × (s₁.1.0.now.out.now ≡ s₂.1.0.now.out.now) × (s₁.1.0.now.out.ghost_name ≡ s₂.1.0.now.out.ghost_name)
row-one_outcome κs a r₁ r₂ s₁ s₂ p q = let e = p.0 ∙ sym q.0 in (ap (λ (x : ℕ × List ℕ). x.0) e, ap (λ (x : ℕ × List ℕ). x.1) e, p.1 ∙ sym q.1)

pub refused-one_outcome : (κs : Lfts 2) (a : ArgsD put-refused-signature κs) (r₁ r₂ : Unit) (s₁ s₂ : AtExit (ended_of 2 put-refused-kinds.ps put-refused-kinds.r) κs) → Put-refused.Post κs a r₁ s₁ → Put-refused.Post κs a r₂ s₂
    → (s₁.1.0.now.at ≡ s₂.1.0.now.at) × (s₁.1.0.now.out.now ≡ s₂.1.0.now.out.now) × (s₁.1.0.now.out.ghost_name ≡ s₂.1.0.now.out.ghost_name)
refused-one_outcome κs a r₁ r₂ s₁ s₂ p q = let e = p.0 ∙ sym q.0 in (ap (λ (x : ℕ × List ℕ). x.0) e, ap (λ (x : ℕ × List ℕ). x.1) e, p.1 ∙ sym q.1)

-- for every type
module _ (T : RattleType) (L : Laws T) where
  pub within-one_outcome : (κs : Lfts 2) (a : ArgsD (part-within-signature T) κs) (r₁ r₂ : ℕ) (s₁ s₂ : AtExit (ended_of 2 (part-within-kinds.ps T L) (part-within-kinds.r T L)) κs) → part-within.Post T L κs a r₁ s₁ → part-within.Post T L κs a r₂ s₂
      → r₁ ≡ r₂
  within-one_outcome κs a r₁ r₂ s₁ s₂ p q = p.0 ∙ sym q.0
