-- No second outcome fits the contract of packing or of unpacking: `Post` is what the source's `ensures` says. Assumes nothing.
use Prim.Native.Nat.{ℕ}
use mathlib.Core.Path.{◌≡◌, sym, ap, ◌∙◌}
use mathlib.Core.List.{List}
use lib.Ieee.{Float}
use contract.Lifetimes.{Lfts}
use borrow.Fn.World.{ArgsD}
use borrow.Fn.Kinds.{ended_of}
use denote.Triple.Clauses.{AtExit}
use Rattle.leaves.specs.declared.reply.Told.{Told}
use Rattle.leaves.specs.Reply.{reply_of}
use Rattle.leaves.proofs.Replies.{reply_of-same}
use Rattle.factor.proofs.Answers.{told_same}
use Rattle.calls.specs.declared.state.State.{State}
use Rattle.packing.specs.Packing.{PutAway, put_away}
use Rattle.packing.specs.contracts.pack.pack.{signature as pack-signature}
use Rattle.packing.proofs.pack.pack.Reads as pack
use Rattle.packing.proofs.pack.pack.Kinds as pack-kinds
use Rattle.packing.specs.contracts.unpack.unpack.{signature as unpack-signature}
use Rattle.packing.proofs.unpack.unpack.Reads as unpack
use Rattle.packing.proofs.unpack.unpack.Kinds as unpack-kinds

-- a call's answer and state, and both slices that it writes
away_same : (r t : Told (Unit {0}) State) {s u : List Float} {o p : List ℕ} → put_away (reply_of r.answer) r.state s o ≡ put_away (reply_of t.answer) t.state u p
    → (r ≡ t) × (s ≡ u) × (o ≡ p)
away_same r t e = (
  told_same r t (reply_of-same r.answer t.answer (ap (λ (x : PutAway). x.reply) e)) (ap (λ (x : PutAway). x.state) e),
  ap (λ (x : PutAway). x.numbers) e,
  ap (λ (x : PutAway). x.places) e,
)

pub pack-one_outcome : (κs : Lfts 4) (a : ArgsD pack-signature κs) (r₁ r₂ : Told (Unit {0}) State) (s₁ s₂ : AtExit (ended_of 4 pack-kinds.ps pack-kinds.r) κs)
    → pack.Post κs a r₁ s₁ → pack.Post κs a r₂ s₂ → (r₁ ≡ r₂) × (s₁.1.1.1.0.now ≡ s₂.1.1.1.0.now) × (s₁.1.1.1.1.0.now ≡ s₂.1.1.1.1.0.now)
pack-one_outcome κs a r₁ r₂ s₁ s₂ p q = away_same r₁ r₂ (p ∙ sym q)

pub unpack-one_outcome : (κs : Lfts 4) (a : ArgsD unpack-signature κs) (r₁ r₂ : Told (Unit {0}) State) (s₁ s₂ : AtExit (ended_of 4 unpack-kinds.ps unpack-kinds.r) κs)
    → unpack.Post κs a r₁ s₁ → unpack.Post κs a r₂ s₂ → (r₁ ≡ r₂) × (s₁.1.1.1.0.now ≡ s₂.1.1.1.0.now) × (s₁.1.1.1.1.0.now ≡ s₂.1.1.1.1.0.now)
unpack-one_outcome κs a r₁ r₂ s₁ s₂ p q = away_same r₁ r₂ (p ∙ sym q)
