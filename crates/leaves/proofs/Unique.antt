-- No second outcome fits a leaf's contract: `Post` is what the source's `ensures` says. Assumes nothing.
use mathlib.Core.Path.{◌≡◌, sym, ap, ◌∙◌}
use mathlib.Core.Bool.{Bool}
use mathlib.Core.List.{List}
use Prim.Native.Nat.{ℕ}
use lib.Ieee.{Float}
use contract.Lifetimes.{Lfts}
use borrow.Fn.World.{ArgsD}
use borrow.Fn.Kinds.{ended_of}
use denote.Triple.Clauses.{AtExit}
use Rattle.leaves.specs.Reply.{Reply}
use Rattle.std.specs.Prelude.{Result}
use Rattle.leaves.specs.declared.reply.Refusal.{Refusal}
use Rattle.leaves.specs.declared.norm.Ranges.{Ranges}
use Rattle.leaves.specs.declared.norm.Normed.{Normed}
use Rattle.leaves.proofs.Replies.{reply_of-same, measured_of-same}
use Rattle.leaves.specs.contracts.number.epsmch.{signature as epsmch-signature}
use Rattle.leaves.proofs.number.epsmch.Reads as epsmch
use Rattle.leaves.proofs.number.epsmch.Kinds as epsmch-kinds
use Rattle.leaves.specs.contracts.number.dwarf.{signature as dwarf-signature}
use Rattle.leaves.proofs.number.dwarf.Reads as dwarf
use Rattle.leaves.proofs.number.dwarf.Kinds as dwarf-kinds
use Rattle.leaves.specs.contracts.number.abs.{signature as abs-signature}
use Rattle.leaves.proofs.number.abs.Reads as abs
use Rattle.leaves.proofs.number.abs.Kinds as abs-kinds
use Rattle.leaves.specs.contracts.number.max.{signature as max-signature}
use Rattle.leaves.proofs.number.max.Reads as max
use Rattle.leaves.proofs.number.max.Kinds as max-kinds
use Rattle.leaves.specs.contracts.number.min.{signature as min-signature}
use Rattle.leaves.proofs.number.min.Reads as min
use Rattle.leaves.proofs.number.min.Kinds as min-kinds
use Rattle.leaves.specs.contracts.number.square.{signature as square-signature}
use Rattle.leaves.proofs.number.square.Reads as square
use Rattle.leaves.proofs.number.square.Kinds as square-kinds
use Rattle.leaves.specs.contracts.number.is_negative.{signature as is-negative-signature}
use Rattle.leaves.proofs.number.is_negative.Reads as is_negative
use Rattle.leaves.proofs.number.is_negative.Kinds as is-negative-kinds
use Rattle.leaves.specs.contracts.number.is_finite.{signature as is-finite-signature}
use Rattle.leaves.proofs.number.is_finite.Reads as is_finite
use Rattle.leaves.proofs.number.is_finite.Kinds as is-finite-kinds
use Rattle.leaves.specs.contracts.number.abs_below.{signature as abs-below-signature}
use Rattle.leaves.proofs.number.abs_below.Reads as abs-below
use Rattle.leaves.proofs.number.abs_below.Kinds as abs-below-kinds
use Rattle.leaves.specs.contracts.number.abs_within.{signature as abs-within-signature}
use Rattle.leaves.proofs.number.abs_within.Reads as abs-within
use Rattle.leaves.proofs.number.abs_within.Kinds as abs-within-kinds
use Rattle.leaves.specs.contracts.vector.dot.{signature as dot-signature}
use Rattle.leaves.proofs.vector.dot.Reads as dot
use Rattle.leaves.proofs.vector.dot.Kinds as dot-kinds
use Rattle.leaves.specs.contracts.vector.imax.{signature as imax-signature}
use Rattle.leaves.proofs.vector.imax.Reads as imax
use Rattle.leaves.proofs.vector.imax.Kinds as imax-kinds
use Rattle.leaves.specs.contracts.norm.enorm.{signature as enorm-signature}
use Rattle.leaves.proofs.norm.enorm.Reads as enorm
use Rattle.leaves.proofs.norm.enorm.Kinds as enorm-kinds
use Rattle.leaves.specs.contracts.norm.neither.{signature as neither-signature}
use Rattle.leaves.proofs.norm.neither.Reads as neither
use Rattle.leaves.proofs.norm.neither.Kinds as neither-kinds
use Rattle.leaves.specs.contracts.norm.either.{signature as either-signature}
use Rattle.leaves.proofs.norm.either.Reads as either
use Rattle.leaves.proofs.norm.either.Kinds as either-kinds
use Rattle.leaves.specs.contracts.vector.axpy.{signature as axpy-signature}
use Rattle.leaves.proofs.vector.axpy.Reads as axpy
use Rattle.leaves.proofs.vector.axpy.Kinds as axpy-kinds
use Rattle.leaves.specs.contracts.vector.axpy_zero.{signature as axpy-zero-signature}
use Rattle.leaves.proofs.vector.axpy_zero.Reads as axpy_zero
use Rattle.leaves.proofs.vector.axpy_zero.Kinds as axpy-zero-kinds
use Rattle.leaves.specs.contracts.vector.copy.{signature as copy-signature}
use Rattle.leaves.proofs.vector.copy.Reads as copy
use Rattle.leaves.proofs.vector.copy.Kinds as copy-kinds
use Rattle.leaves.specs.contracts.triangle.solve_upper.{signature as solve-upper-signature}
use Rattle.leaves.proofs.triangle.solve_upper.Reads as solve_upper
use Rattle.leaves.proofs.triangle.solve_upper.Kinds as solve-upper-kinds
use Rattle.leaves.specs.contracts.vector.fill.{signature as fill-signature}
use Rattle.leaves.proofs.vector.fill.Reads as fill
use Rattle.leaves.proofs.vector.fill.Kinds as fill-kinds
use Rattle.leaves.specs.contracts.sizes.outside.{signature as outside-signature}
use Rattle.leaves.proofs.sizes.outside.Reads as outside
use Rattle.leaves.proofs.sizes.outside.Kinds as outside-kinds
use Rattle.leaves.specs.contracts.sizes.least.{signature as least-signature}
use Rattle.leaves.proofs.sizes.least.Reads as least
use Rattle.leaves.proofs.sizes.least.Kinds as least-kinds
use Rattle.leaves.specs.contracts.sizes.filled.{signature as filled-signature}
use Rattle.leaves.proofs.sizes.filled.Reads as filled
use Rattle.leaves.proofs.sizes.filled.Kinds as filled-kinds
use Rattle.std.specs.declared.clone.Clone
use denote.RattleType.{RattleType}
use denote.Param.{number}
use denote.Param.Laws.{Laws, IsCopy}
use mir.Val.{Fits}
use mir.Syntax.{w64, Dict}
use Rattle.leaves.specs.contracts.vector.all_finite.{signature as all-finite-signature}
use Rattle.leaves.proofs.vector.all_finite.Reads as all-finite
use Rattle.leaves.proofs.vector.all_finite.Kinds as all-finite-kinds
use Rattle.leaves.specs.contracts.vector.none_zero.{signature as none-zero-signature}
use Rattle.leaves.proofs.vector.none_zero.Reads as none-zero
use Rattle.leaves.proofs.vector.none_zero.Kinds as none-zero-kinds
use Rattle.leaves.specs.contracts.vector.count.{signature as count-signature}
use Rattle.leaves.proofs.vector.count.Reads as count
use Rattle.leaves.proofs.vector.count.Kinds as count-kinds
use Rattle.leaves.specs.contracts.pieces.clear_long.{signature as clear-long-signature}
use Rattle.leaves.proofs.pieces.clear_long.Reads as clear-long
use Rattle.leaves.proofs.pieces.clear_long.Kinds as clear-long-kinds
use Rattle.leaves.specs.contracts.pieces.copy_long.{signature as copy-long-signature}
use Rattle.leaves.proofs.pieces.copy_long.Reads as copy-long
use Rattle.leaves.proofs.pieces.copy_long.Kinds as copy-long-kinds

pub epsmch-one_outcome : (κs : Lfts 0) (a : ArgsD epsmch-signature κs) (r₁ r₂ : Float) (s₁ s₂ : AtExit (ended_of 0 epsmch-kinds.ps epsmch-kinds.r) κs)
    → epsmch.Post κs a r₁ s₁ → epsmch.Post κs a r₂ s₂ → r₁ ≡ r₂
epsmch-one_outcome κs a r₁ r₂ s₁ s₂ p q = p ∙ sym q

pub dwarf-one_outcome : (κs : Lfts 0) (a : ArgsD dwarf-signature κs) (r₁ r₂ : Float) (s₁ s₂ : AtExit (ended_of 0 dwarf-kinds.ps dwarf-kinds.r) κs)
    → dwarf.Post κs a r₁ s₁ → dwarf.Post κs a r₂ s₂ → r₁ ≡ r₂
dwarf-one_outcome κs a r₁ r₂ s₁ s₂ p q = p ∙ sym q

pub abs-one_outcome : (κs : Lfts 0) (a : ArgsD abs-signature κs) (r₁ r₂ : Float) (s₁ s₂ : AtExit (ended_of 0 abs-kinds.ps abs-kinds.r) κs)
    → abs.Post κs a r₁ s₁ → abs.Post κs a r₂ s₂ → r₁ ≡ r₂
abs-one_outcome κs a r₁ r₂ s₁ s₂ p q = p ∙ sym q

pub max-one_outcome : (κs : Lfts 0) (a : ArgsD max-signature κs) (r₁ r₂ : Float) (s₁ s₂ : AtExit (ended_of 0 max-kinds.ps max-kinds.r) κs)
    → max.Post κs a r₁ s₁ → max.Post κs a r₂ s₂ → r₁ ≡ r₂
max-one_outcome κs a r₁ r₂ s₁ s₂ p q = p ∙ sym q

pub min-one_outcome : (κs : Lfts 0) (a : ArgsD min-signature κs) (r₁ r₂ : Float) (s₁ s₂ : AtExit (ended_of 0 min-kinds.ps min-kinds.r) κs)
    → min.Post κs a r₁ s₁ → min.Post κs a r₂ s₂ → r₁ ≡ r₂
min-one_outcome κs a r₁ r₂ s₁ s₂ p q = p ∙ sym q

pub square-one_outcome : (κs : Lfts 0) (a : ArgsD square-signature κs) (r₁ r₂ : Float) (s₁ s₂ : AtExit (ended_of 0 square-kinds.ps square-kinds.r) κs)
    → square.Post κs a r₁ s₁ → square.Post κs a r₂ s₂ → r₁ ≡ r₂
square-one_outcome κs a r₁ r₂ s₁ s₂ p q = p ∙ sym q

pub is_negative-one_outcome : (κs : Lfts 0) (a : ArgsD is-negative-signature κs) (r₁ r₂ : Bool) (s₁ s₂ : AtExit (ended_of 0 is-negative-kinds.ps is-negative-kinds.r) κs)
    → is_negative.Post κs a r₁ s₁ → is_negative.Post κs a r₂ s₂ → r₁ ≡ r₂
is_negative-one_outcome κs a r₁ r₂ s₁ s₂ p q = p ∙ sym q

pub is_finite-one_outcome : (κs : Lfts 0) (a : ArgsD is-finite-signature κs) (r₁ r₂ : Bool) (s₁ s₂ : AtExit (ended_of 0 is-finite-kinds.ps is-finite-kinds.r) κs)
    → is_finite.Post κs a r₁ s₁ → is_finite.Post κs a r₂ s₂ → r₁ ≡ r₂
is_finite-one_outcome κs a r₁ r₂ s₁ s₂ p q = p ∙ sym q

pub abs_below-one_outcome : (κs : Lfts 0) (a : ArgsD abs-below-signature κs) (r₁ r₂ : Bool) (s₁ s₂ : AtExit (ended_of 0 abs-below-kinds.ps abs-below-kinds.r) κs)
    → abs-below.Post κs a r₁ s₁ → abs-below.Post κs a r₂ s₂ → r₁ ≡ r₂
abs_below-one_outcome κs a r₁ r₂ s₁ s₂ p q = p ∙ sym q

pub abs_within-one_outcome : (κs : Lfts 0) (a : ArgsD abs-within-signature κs) (r₁ r₂ : Bool) (s₁ s₂ : AtExit (ended_of 0 abs-within-kinds.ps abs-within-kinds.r) κs)
    → abs-within.Post κs a r₁ s₁ → abs-within.Post κs a r₂ s₂ → r₁ ≡ r₂
abs_within-one_outcome κs a r₁ r₂ s₁ s₂ p q = p ∙ sym q

pub dot-one_outcome : (κs : Lfts 2) (a : ArgsD dot-signature κs) (r₁ r₂ : Result Float Refusal) (s₁ s₂ : AtExit (ended_of 2 dot-kinds.ps dot-kinds.r) κs)
    → dot.Post κs a r₁ s₁ → dot.Post κs a r₂ s₂ → r₁ ≡ r₂
dot-one_outcome κs a r₁ r₂ s₁ s₂ p q = reply_of-same r₁ r₂ (p ∙ sym q)

pub imax-one_outcome : (κs : Lfts 1) (a : ArgsD imax-signature κs) (r₁ r₂ : Result ℕ Refusal) (s₁ s₂ : AtExit (ended_of 1 imax-kinds.ps imax-kinds.r) κs)
    → imax.Post κs a r₁ s₁ → imax.Post κs a r₂ s₂ → r₁ ≡ r₂
imax-one_outcome κs a r₁ r₂ s₁ s₂ p q = reply_of-same r₁ r₂ (p ∙ sym q)

pub enorm-one_outcome : (κs : Lfts 1) (a : ArgsD enorm-signature κs) (r₁ r₂ : Result Normed Refusal) (s₁ s₂ : AtExit (ended_of 1 enorm-kinds.ps enorm-kinds.r) κs)
    → enorm.Post κs a r₁ s₁ → enorm.Post κs a r₂ s₂ → r₁ ≡ r₂
enorm-one_outcome κs a r₁ r₂ s₁ s₂ p q = measured_of-same r₁ r₂ (p ∙ sym q)

pub neither-one_outcome : (κs : Lfts 0) (a : ArgsD neither-signature κs) (r₁ r₂ : Ranges) (s₁ s₂ : AtExit (ended_of 0 neither-kinds.ps neither-kinds.r) κs)
    → neither.Post κs a r₁ s₁ → neither.Post κs a r₂ s₂ → r₁ ≡ r₂
neither-one_outcome κs a r₁ r₂ s₁ s₂ p q = p ∙ sym q

pub either-one_outcome : (κs : Lfts 0) (a : ArgsD either-signature κs) (r₁ r₂ : Ranges) (s₁ s₂ : AtExit (ended_of 0 either-kinds.ps either-kinds.r) κs)
    → either.Post κs a r₁ s₁ → either.Post κs a r₂ s₂ → r₁ ≡ r₂
either-one_outcome κs a r₁ r₂ s₁ s₂ p q = p ∙ sym q

pub outside-one_outcome : (κs : Lfts 0) (a : ArgsD outside-signature κs) (r₁ r₂ : Bool) (s₁ s₂ : AtExit (ended_of 0 outside-kinds.ps outside-kinds.r) κs)
    → outside.Post κs a r₁ s₁ → outside.Post κs a r₂ s₂ → r₁ ≡ r₂
outside-one_outcome κs a r₁ r₂ s₁ s₂ p q = p ∙ sym q

pub least-one_outcome : (κs : Lfts 0) (a : ArgsD least-signature κs) (r₁ r₂ : ℕ) (s₁ s₂ : AtExit (ended_of 0 least-kinds.ps least-kinds.r) κs)
    → least.Post κs a r₁ s₁ → least.Post κs a r₂ s₂ → r₁ ≡ r₂
least-one_outcome κs a r₁ r₂ s₁ s₂ p q = p ∙ sym q

pub all_finite-one_outcome : (κs : Lfts 1) (a : ArgsD all-finite-signature κs) (r₁ r₂ : Bool) (s₁ s₂ : AtExit (ended_of 1 all-finite-kinds.ps all-finite-kinds.r) κs)
    → all-finite.Post κs a r₁ s₁ → all-finite.Post κs a r₂ s₂ → r₁ ≡ r₂
all_finite-one_outcome κs a r₁ r₂ s₁ s₂ p q = p ∙ sym q

pub none_zero-one_outcome : (κs : Lfts 1) (a : ArgsD none-zero-signature κs) (r₁ r₂ : Bool) (s₁ s₂ : AtExit (ended_of 1 none-zero-kinds.ps none-zero-kinds.r) κs)
    → none-zero.Post κs a r₁ s₁ → none-zero.Post κs a r₂ s₂ → r₁ ≡ r₂
none_zero-one_outcome κs a r₁ r₂ s₁ s₂ p q = p ∙ sym q

-- ---- with a lent output
abbrev Left : Type 0
Left = Reply (Unit {0}) × List Float

pub axpy-one_outcome : (κs : Lfts 2) (a : ArgsD axpy-signature κs) (r₁ r₂ : Result (Unit {0}) Refusal) (s₁ s₂ : AtExit (ended_of 2 axpy-kinds.ps axpy-kinds.r) κs)
    → axpy.Post κs a r₁ s₁ → axpy.Post κs a r₂ s₂ → (r₁ ≡ r₂) × (s₁.1.1.0.now ≡ s₂.1.1.0.now)
axpy-one_outcome κs a r₁ r₂ s₁ s₂ p q =
    let e = p ∙ sym q in
    (reply_of-same r₁ r₂ (ap (λ (x : Left). x.0) e), ap (λ (x : Left). x.1) e)

pub axpy_zero-one_outcome : (κs : Lfts 2) (a : ArgsD axpy-zero-signature κs) (r₁ r₂ : Result (Unit {0}) Refusal) (s₁ s₂ : AtExit (ended_of 2 axpy-zero-kinds.ps axpy-zero-kinds.r) κs)
    → axpy_zero.Post κs a r₁ s₁ → axpy_zero.Post κs a r₂ s₂ → (r₁ ≡ r₂) × (s₁.1.1.0.now ≡ s₂.1.1.0.now)
axpy_zero-one_outcome κs a r₁ r₂ s₁ s₂ p q =
    let e = p ∙ sym q in
    (reply_of-same r₁ r₂ (ap (λ (x : Left). x.0) e), ap (λ (x : Left). x.1) e)

pub copy-one_outcome : (κs : Lfts 2) (a : ArgsD copy-signature κs) (r₁ r₂ : Result (Unit {0}) Refusal) (s₁ s₂ : AtExit (ended_of 2 copy-kinds.ps copy-kinds.r) κs)
    → copy.Post κs a r₁ s₁ → copy.Post κs a r₂ s₂ → (r₁ ≡ r₂) × (s₁.1.0.now ≡ s₂.1.0.now)
copy-one_outcome κs a r₁ r₂ s₁ s₂ p q =
    let e = p ∙ sym q in
    (reply_of-same r₁ r₂ (ap (λ (x : Left). x.0) e), ap (λ (x : Left). x.1) e)

pub solve_upper-one_outcome : (κs : Lfts 2) (a : ArgsD solve-upper-signature κs) (r₁ r₂ : Result (Unit {0}) Refusal) (s₁ s₂ : AtExit (ended_of 2 solve-upper-kinds.ps solve-upper-kinds.r) κs)
    → solve_upper.Post κs a r₁ s₁ → solve_upper.Post κs a r₂ s₂ → (r₁ ≡ r₂) × (s₁.1.1.1.0.now ≡ s₂.1.1.1.0.now)
solve_upper-one_outcome κs a r₁ r₂ s₁ s₂ p q =
    let e = p ∙ sym q in
    (reply_of-same r₁ r₂ (ap (λ (x : Left). x.0) e), ap (λ (x : Left). x.1) e)

pub fill-one_outcome : (κs : Lfts 1) (a : ArgsD fill-signature κs) (r₁ r₂ : Unit {0}) (s₁ s₂ : AtExit (ended_of 1 fill-kinds.ps fill-kinds.r) κs)
    → fill.Post κs a r₁ s₁ → fill.Post κs a r₂ s₂ → s₁.1.0.now ≡ s₂.1.0.now
fill-one_outcome κs a r₁ r₂ s₁ s₂ p q = p ∙ sym q

pub count-one_outcome : (κs : Lfts 1) (a : ArgsD count-signature κs) (r₁ r₂ : Unit {0}) (s₁ s₂ : AtExit (ended_of 1 count-kinds.ps count-kinds.r) κs)
    → count.Post κs a r₁ s₁ → count.Post κs a r₂ s₂ → s₁.0.now ≡ s₂.0.now
count-one_outcome κs a r₁ r₂ s₁ s₂ p q = p ∙ sym q

pub clear_long-one_outcome : (κs : Lfts 1) (a : ArgsD clear-long-signature κs) (r₁ r₂ : Unit {0}) (s₁ s₂ : AtExit (ended_of 1 clear-long-kinds.ps clear-long-kinds.r) κs)
    → clear-long.Post κs a r₁ s₁ → clear-long.Post κs a r₂ s₂ → s₁.0.now ≡ s₂.0.now
clear_long-one_outcome κs a r₁ r₂ s₁ s₂ p q = p ∙ sym q

pub copy_long-one_outcome : (κs : Lfts 2) (a : ArgsD copy-long-signature κs) (r₁ r₂ : Result (Unit {0}) Refusal) (s₁ s₂ : AtExit (ended_of 2 copy-long-kinds.ps copy-long-kinds.r) κs)
    → copy-long.Post κs a r₁ s₁ → copy-long.Post κs a r₂ s₂ → (r₁ ≡ r₂) × (s₁.1.0.now ≡ s₂.1.0.now)
copy_long-one_outcome κs a r₁ r₂ s₁ s₂ p q =
    let e = p ∙ sym q in
    (reply_of-same r₁ r₂ (ap (λ (x : Left). x.0) e), ap (λ (x : Left). x.1) e)

-- for every type and every length
module _ (T : RattleType) (N : ℕ) (L : Laws T) (F : Fits w64 N) (C : IsCopy T) (G : Clone.Ghosts T.Denot) (D : Dict) where
  pub filled-one_outcome : (κs : Lfts 2) (a : ArgsD (filled-signature T (number N)) κs) (r₁ r₂ : List T.Denot) (s₁ s₂ : AtExit (ended_of 2 (filled-kinds.ps T N L F C) (filled-kinds.r T N L F C)) κs)
      → filled.Post T N L F C G D κs a r₁ s₁ → filled.Post T N L F C G D κs a r₂ s₂ → r₁ ≡ r₂
  filled-one_outcome κs a r₁ r₂ s₁ s₂ p q = p ∙ sym q
