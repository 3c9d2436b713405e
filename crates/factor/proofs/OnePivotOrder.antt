-- No second outcome fits the contract of a solve in pivot order: `Post` is what the source's `ensures` says. Assumes nothing.
use mathlib.Core.Path.{◌≡◌, sym, ap, ◌∙◌}
use mathlib.Core.Bool.{Bool}
use mathlib.Core.List.{List}
use lib.Ieee.{Float}
use contract.Lifetimes.{Lfts}
use borrow.Fn.World.{ArgsD}
use borrow.Fn.Kinds.{ended_of}
use denote.Triple.Clauses.{AtExit}
use Rattle.std.specs.Prelude.{Result}
use Rattle.leaves.specs.declared.reply.Refusal.{Refusal}
use Rattle.leaves.specs.Reply.{reply_of}
use Rattle.leaves.proofs.Replies.{reply_of-same}
use Rattle.factor.specs.Outcome.{Left, left_in}
use Rattle.factor.proofs.Answers.{read_same}
use Rattle.factor.specs.contracts.pivot_order.zero.{signature as zero_signature}
use Rattle.factor.proofs.pivot_order.zero.Reads as zero
use Rattle.factor.proofs.pivot_order.zero.Kinds as zero-kinds
use Rattle.factor.specs.contracts.pivot_order.damped.{signature as damped-signature}
use Rattle.factor.proofs.pivot_order.damped.Reads as damped
use Rattle.factor.proofs.pivot_order.damped.Kinds as damped-kinds
use Rattle.factor.specs.contracts.pivot_order.held_zero.{signature as held-zero-signature}
use Rattle.factor.proofs.pivot_order.held_zero.Reads as held_zero
use Rattle.factor.proofs.pivot_order.held_zero.Kinds as held-zero-kinds
use Rattle.factor.specs.contracts.pivot_order.held_damped.{signature as held-damped-signature}
use Rattle.factor.proofs.pivot_order.held_damped.Reads as held_damped
use Rattle.factor.proofs.pivot_order.held_damped.Kinds as held-damped-kinds
use Rattle.factor.specs.contracts.pivot_order.product.{signature as product-signature}
use Rattle.factor.proofs.pivot_order.product.Reads as product
use Rattle.factor.proofs.pivot_order.product.Kinds as product-kinds
use Rattle.factor.specs.contracts.pivot_order.full_rank.{signature as full-rank-signature}
use Rattle.factor.proofs.pivot_order.full_rank.Reads as full_rank
use Rattle.factor.proofs.pivot_order.full_rank.Kinds as full-rank-kinds
use Rattle.factor.specs.contracts.pivot_order.empty.{signature as empty-signature}
use Rattle.factor.proofs.pivot_order.empty.Reads as empty
use Rattle.factor.proofs.pivot_order.empty.Kinds as empty-kinds

-- ---- an answer and the slice that is written
pub zero-one_outcome : (κs : Lfts 2) (a : ArgsD zero_signature κs) (r₁ r₂ : Result (Unit {0}) Refusal) (s₁ s₂ : AtExit (ended_of 2 zero-kinds.ps zero-kinds.r) κs)
    → zero.Post κs a r₁ s₁ → zero.Post κs a r₂ s₂ → (r₁ ≡ r₂) × (s₁.1.1.1.0.now ≡ s₂.1.1.1.0.now)
zero-one_outcome κs a r₁ r₂ s₁ s₂ p q = read_same r₁ r₂ (p ∙ sym q)

pub held_zero-one_outcome : (κs : Lfts 2) (a : ArgsD held-zero-signature κs) (r₁ r₂ : Result (Unit {0}) Refusal) (s₁ s₂ : AtExit (ended_of 2 held-zero-kinds.ps held-zero-kinds.r) κs)
    → held_zero.Post κs a r₁ s₁ → held_zero.Post κs a r₂ s₂ → (r₁ ≡ r₂) × (s₁.1.1.0.now ≡ s₂.1.1.0.now)
held_zero-one_outcome κs a r₁ r₂ s₁ s₂ p q = read_same r₁ r₂ (p ∙ sym q)

pub held_damped-one_outcome : (κs : Lfts 2) (a : ArgsD held-damped-signature κs) (r₁ r₂ : Result (Unit {0}) Refusal) (s₁ s₂ : AtExit (ended_of 2 held-damped-kinds.ps held-damped-kinds.r) κs)
    → held_damped.Post κs a r₁ s₁ → held_damped.Post κs a r₂ s₂ → (r₁ ≡ r₂) × (s₁.1.1.0.now ≡ s₂.1.1.0.now)
held_damped-one_outcome κs a r₁ r₂ s₁ s₂ p q = read_same r₁ r₂ (p ∙ sym q)

pub product-one_outcome : (κs : Lfts 2) (a : ArgsD product-signature κs) (r₁ r₂ : Result (Unit {0}) Refusal) (s₁ s₂ : AtExit (ended_of 2 product-kinds.ps product-kinds.r) κs)
    → product.Post κs a r₁ s₁ → product.Post κs a r₂ s₂ → (r₁ ≡ r₂) × (s₁.1.1.0.now ≡ s₂.1.1.0.now)
product-one_outcome κs a r₁ r₂ s₁ s₂ p q = read_same r₁ r₂ (p ∙ sym q)

pub empty-one_outcome : (κs : Lfts 1) (a : ArgsD empty-signature κs) (r₁ r₂ : Result (Unit {0}) Refusal) (s₁ s₂ : AtExit (ended_of 1 empty-kinds.ps empty-kinds.r) κs)
    → empty.Post κs a r₁ s₁ → empty.Post κs a r₂ s₂ → (r₁ ≡ r₂) × (s₁.1.0.now ≡ s₂.1.0.now)
empty-one_outcome κs a r₁ r₂ s₁ s₂ p q = read_same r₁ r₂ (p ∙ sym q)

-- ---- and the store
left-same : (r t : Result (Unit {0}) Refusal) {s u o p : List Float} → left_in (reply_of r) s o ≡ left_in (reply_of t) u p → (r ≡ t) × (s ≡ u) × (o ≡ p)
left-same r t e = (reply_of-same r t (ap (λ (x : Left). x.reply) e), ap (λ (x : Left). x.store) e, ap (λ (x : Left). x.out) e)

pub damped-one_outcome : (κs : Lfts 3) (a : ArgsD damped-signature κs) (r₁ r₂ : Result (Unit {0}) Refusal) (s₁ s₂ : AtExit (ended_of 3 damped-kinds.ps damped-kinds.r) κs)
    → damped.Post κs a r₁ s₁ → damped.Post κs a r₂ s₂ → (r₁ ≡ r₂) × (s₁.1.0.now ≡ s₂.1.0.now) × (s₁.1.1.1.0.now ≡ s₂.1.1.1.0.now)
damped-one_outcome κs a r₁ r₂ s₁ s₂ p q = left-same r₁ r₂ (p ∙ sym q)

-- ---- nothing is written
pub full_rank-one_outcome : (κs : Lfts 1) (a : ArgsD full-rank-signature κs) (r₁ r₂ : Result Bool Refusal) (s₁ s₂ : AtExit (ended_of 1 full-rank-kinds.ps full-rank-kinds.r) κs)
    → full_rank.Post κs a r₁ s₁ → full_rank.Post κs a r₂ s₂ → r₁ ≡ r₂
full_rank-one_outcome κs a r₁ r₂ s₁ s₂ p q = reply_of-same r₁ r₂ (p ∙ sym q)
