-- No second outcome fits a public contract: `Post` is what the source's `ensures` says. Assumes nothing.
use Prim.Native.Nat.{ℕ}
use mathlib.Core.Path.{◌≡◌, sym, ap, ◌∙◌}
use mathlib.Core.Bool.{Bool}
use mathlib.Core.List.{List}
use lib.Ieee.{Float}
use contract.Lifetimes.{Lfts}
use borrow.Fn.World.{ArgsD}
use borrow.Fn.Kinds.{ended_of}
use denote.Triple.Clauses.{AtExit}
use Rattle.std.specs.Prelude.{Result}
use Rattle.leaves.specs.declared.reply.Refusal.{Refusal}
use Rattle.leaves.specs.Reply.{Reply}
use Rattle.leaves.proofs.Replies.{reply_of-same}
use Rattle.frozen.specs.contracts.marks.free_count.{signature as free-count-signature}
use Rattle.frozen.proofs.marks.free_count.Reads as free-count
use Rattle.frozen.proofs.marks.free_count.Kinds as free-count-kinds
use Rattle.frozen.specs.contracts.marks.mark_past.{signature as mark-past-signature}
use Rattle.frozen.proofs.marks.mark_past.Reads as mark-past
use Rattle.frozen.proofs.marks.mark_past.Kinds as mark-past-kinds
use Rattle.frozen.specs.contracts.moved.gather_free.{signature as gather-free-signature}
use Rattle.frozen.proofs.moved.gather_free.Reads as gather_free
use Rattle.frozen.proofs.moved.gather_free.Kinds as gather-free-kinds
use Rattle.frozen.specs.contracts.moved.merge_into.{signature as merge-into-signature}
use Rattle.frozen.proofs.moved.merge_into.Reads as merge_into
use Rattle.frozen.proofs.moved.merge_into.Kinds as merge-into-kinds
use Rattle.frozen.specs.contracts.narrow.narrow.{signature as narrow-signature}
use Rattle.frozen.proofs.narrow.narrow.Reads as narrow
use Rattle.frozen.proofs.narrow.narrow.Kinds as narrow_kinds
use Rattle.frozen.specs.contracts.columns.free_columns.{signature as free-columns-signature}
use Rattle.frozen.proofs.columns.free_columns.Reads as free-columns
use Rattle.frozen.proofs.columns.free_columns.Kinds as free-columns-kinds
use Rattle.frozen.specs.contracts.narrow.spread.{signature as spread-signature}
use Rattle.frozen.proofs.narrow.spread.Reads as spread
use Rattle.frozen.proofs.narrow.spread.Kinds as spread-kinds

-- an answer and the slice that is written
abbrev Left : Type 0
Left = Reply (Unit {0}) × List Float

pub free_count-one_outcome : (κs : Lfts 0) (a : ArgsD free-count-signature κs) (r₁ r₂ : ℕ) (s₁ s₂ : AtExit (ended_of 0 free-count-kinds.ps free-count-kinds.r) κs)
    → free-count.Post κs a r₁ s₁ → free-count.Post κs a r₂ s₂ → r₁ ≡ r₂
free_count-one_outcome κs a r₁ r₂ s₁ s₂ p q = p ∙ sym q

pub mark_past-one_outcome : (κs : Lfts 0) (a : ArgsD mark-past-signature κs) (r₁ r₂ : Bool) (s₁ s₂ : AtExit (ended_of 0 mark-past-kinds.ps mark-past-kinds.r) κs)
    → mark-past.Post κs a r₁ s₁ → mark-past.Post κs a r₂ s₂ → r₁ ≡ r₂
mark_past-one_outcome κs a r₁ r₂ s₁ s₂ p q = p ∙ sym q

pub gather_free-one_outcome : (κs : Lfts 2) (a : ArgsD gather-free-signature κs) (r₁ r₂ : Result (Unit {0}) Refusal) (s₁ s₂ : AtExit (ended_of 2 gather-free-kinds.ps gather-free-kinds.r) κs)
    → gather_free.Post κs a r₁ s₁ → gather_free.Post κs a r₂ s₂ → (r₁ ≡ r₂) × (s₁.1.1.1.0.now ≡ s₂.1.1.1.0.now)
gather_free-one_outcome κs a r₁ r₂ s₁ s₂ p q =
    let e = p ∙ sym q in
    (reply_of-same r₁ r₂ (ap (λ (x : Left). x.0) e), ap (λ (x : Left). x.1) e)

pub merge_into-one_outcome : (κs : Lfts 2) (a : ArgsD merge-into-signature κs) (r₁ r₂ : Result (Unit {0}) Refusal) (s₁ s₂ : AtExit (ended_of 2 merge-into-kinds.ps merge-into-kinds.r) κs)
    → merge_into.Post κs a r₁ s₁ → merge_into.Post κs a r₂ s₂ → (r₁ ≡ r₂) × (s₁.1.1.1.0.now ≡ s₂.1.1.1.0.now)
merge_into-one_outcome κs a r₁ r₂ s₁ s₂ p q =
    let e = p ∙ sym q in
    (reply_of-same r₁ r₂ (ap (λ (x : Left). x.0) e), ap (λ (x : Left). x.1) e)

pub narrow-one_outcome : (κs : Lfts 2) (a : ArgsD narrow-signature κs) (r₁ r₂ : Result (Unit {0}) Refusal) (s₁ s₂ : AtExit (ended_of 2 narrow_kinds.ps narrow_kinds.r) κs)
    → narrow.Post κs a r₁ s₁ → narrow.Post κs a r₂ s₂ → (r₁ ≡ r₂) × (s₁.1.1.1.0.now ≡ s₂.1.1.1.0.now)
narrow-one_outcome κs a r₁ r₂ s₁ s₂ p q =
    let e = p ∙ sym q in
    (reply_of-same r₁ r₂ (ap (λ (x : Left). x.0) e), ap (λ (x : Left). x.1) e)

pub free_columns-one_outcome : (κs : Lfts 2) (a : ArgsD free-columns-signature κs) (r₁ r₂ : Result (Unit {0}) Refusal) (s₁ s₂ : AtExit (ended_of 2 free-columns-kinds.ps free-columns-kinds.r) κs)
    → free-columns.Post κs a r₁ s₁ → free-columns.Post κs a r₂ s₂ → (r₁ ≡ r₂) × (s₁.1.1.1.1.0.now ≡ s₂.1.1.1.1.0.now)
free_columns-one_outcome κs a r₁ r₂ s₁ s₂ p q =
    let e = p ∙ sym q in
    (reply_of-same r₁ r₂ (ap (λ (x : Left). x.0) e), ap (λ (x : Left). x.1) e)

pub spread-one_outcome : (κs : Lfts 2) (a : ArgsD spread-signature κs) (r₁ r₂ : Result (Unit {0}) Refusal) (s₁ s₂ : AtExit (ended_of 2 spread-kinds.ps spread-kinds.r) κs)
    → spread.Post κs a r₁ s₁ → spread.Post κs a r₂ s₂ → (r₁ ≡ r₂) × (s₁.1.1.1.0.now ≡ s₂.1.1.1.0.now)
spread-one_outcome κs a r₁ r₂ s₁ s₂ p q =
    let e = p ∙ sym q in
    (reply_of-same r₁ r₂ (ap (λ (x : Left). x.0) e), ap (λ (x : Left). x.1) e)
