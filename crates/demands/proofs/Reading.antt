-- What a call's effect depends on, and what it leaves alone. Assumes nothing.
use mathlib.Core.Path.{◌≡◌, refl, sym, ap, ◌∙◌, subst}
use mathlib.Core.Bool.{Bool, true, false, true≢false}
use mathlib.Core.List.{List}
use Prim.Native.Nat.{ℕ}
use native.Mathlib.Omega.{arith}
use lib.ListN.{length, take}
use lib.Ieee.{Float}
use Rattle.leaves.specs.Reply.{Reply, answered}
use Rattle.factor.specs.Room.{Room}
use Rattle.leaves.specs.Square.{zeros, cleared}
use Rattle.leaves.specs.Tests.{all_finite}
use Rattle.factor.specs.Solve.{scatter, gather, non_singular_of}
use Rattle.measures.specs.Determined.{determined_of}
use Rattle.eliminate.specs.Eliminate.{Rows, heads, tails}
use Rattle.factor.specs.Held.{held_solved, held_product_of}
use Rattle.measures.specs.Gradient.{gradient as measure, above_limit, jx_norm_of, jx_ranges}
use Rattle.factor.specs.Outcome.{written}
use Rattle.factor.specs.Solves.{damped_numbers}
use Rattle.measures.specs.Measures.{finite_or_8}
use Rattle.measures.specs.Rescale.{rescaled}
use Rattle.demands.specs.Calls.{number, ranged, count, truth, scaled, StoreCall, zero_solve, damped_solve, held_solve, held_product, gradient, above, jx_norm, scaling, determined, non_singular, is_store_solve}
use Rattle.factor.specs.declared.state.Held.{Held}
use Rattle.factor.specs.declared.state.Held.TheVariants as held
use Rattle.factor.specs.declared.state.State.{State}
use Rattle.factor.proofs.Damped.{cleared-same}
use Rattle.demands.proofs.Effects.{Effect, effect, finite_or}
use Rattle.demands.proofs.Leavings.{either}
use Rattle.factor.specs.inner.Rooms.{Shaped}
use Rattle.demands.specs.inner.Helds.{is_store_held}
use Rattle.demands.specs.Eight.{zero_x, damped_l}
use Rattle.demands.specs.Alike.{Alike, HeldAlike}

-- what the caller is told, and what is left for the held calls
pub record SameTold (e f : Effect) : Type 0 where
  pub answer : e.answer ≡ f.answer
  pub held : e.held ≡ f.held
  pub out : e.out ≡ f.out

pub record SameLeft (e f : Effect) : Type 0 where
  pub below : e.below ≡ f.below
  pub ldiag : e.ldiag ≡ f.ldiag

-- nothing but work is changed
pub record Rests (st : State) (r : Room) (e : Effect) : Type 0 where
  pub held : e.held ≡ st.held
  pub below : e.below ≡ r.below
  pub ldiag : e.ldiag ≡ r.ldiag

-- ---- one choice by the same numbers
both : (R : Effect → Effect → Type 0) (x y : List Float) (e f e' f' : Effect) → x ≡ y → R e e' → R f f' → R (finite_or x e f) (finite_or y e' f')
unfolding finite_or
both R x y e f e' f' h p q = subst (λ (z : List Float). R (finite_or x e f) (finite_or z e' f')) h (by (all_finite x))
  where
    by : (b : Bool) → R (elim b [ true ↦ e | false ↦ f ]) (elim b [ true ↦ e' | false ↦ f' ])
    by true = p
    by false = q

-- ---- the held calls read what the latest solve left
solved-same : (h : Held) (bs : List Float) (r t : Room) → Alike r t → HeldAlike r t → held_solved h bs r ≡ held_solved h bs t
unfolding held_solved
solved-same held.Empty bs r t a g = refl
solved-same held.Nothing bs r t a g = refl
solved-same held.Zero bs r t a g = rw a.upper
solved-same held.Damped bs r t a g = rw (g.ldiag, g.below)

product-same : (h : Held) (r t : Room) → Alike r t → HeldAlike r t → held_product_of h r ≡ held_product_of h t
unfolding held_product_of
product-same held.Empty r t a g = refl
product-same held.Nothing r t a g = refl
product-same held.Zero r t a g = rw (a.qtb, a.upper)
product-same held.Damped r t a g = rw (a.qtb, g.ldiag, g.below)

module _ (st : State) (order : List ℕ) (r t : Room) (a : Alike r t) where
  zero_same : zero_x st r ≡ zero_x st t
  zero_same = rw (a.upper, a.qtb)

  damped-same : (diag : List Float) → damped_l st order diag r ≡ damped_l st order diag t
  damped-same diag = rw (a.upper, a.qtb)

  zero_out : (out : List Float) → scatter (take st.n order) (zero_x st r) out ≡ scatter (take st.n order) (zero_x st t) out
  zero_out out = ap (λ (x : List Float). scatter (take st.n order) x out) zero_same

  damped_out : (diag out : List Float)
      → scatter (take st.n order) (damped_numbers (damped_l st order diag r)) out ≡ scatter (take st.n order) (damped_numbers (damped_l st order diag t)) out
  damped_out diag out = ap (λ (l : Rows). scatter (take st.n order) (damped_numbers l) out) (damped-same diag)

  -- LAW: answer, what is held, and output
  pub effect_reads : (c : StoreCall) → (is_store_held c ≡ true → HeldAlike r t) → SameTold (effect c st order r) (effect c st order t)
  unfolding effect
  effect_reads (zero_solve out) h =
      both SameTold _ _ _ _ _ _ zero_same (record { answer = refl; held = refl; out = zero_out out }) (record { answer = refl; held = refl; out = refl })
  effect_reads (damped_solve diag out) h =
      both SameTold _ _ _ _ _ _ (ap (λ (l : Rows). damped_numbers l) (damped-same diag)) (record { answer = refl; held = refl; out = damped_out diag out })
      (record { answer = refl; held = refl; out = refl })
  effect_reads (held_solve rhs out) h =
      let e = solved-same st.held (gather (take st.n order) rhs) r t a (h refl) in
      both SameTold _ _ _ _ _ _ e (record { answer = refl; held = refl; out = ap (λ (x : List Float). written x out) e }) (record { answer = refl; held = refl; out = refl })
  effect_reads (held_product out) h =
      let e = product-same st.held r t a (h refl) in
      both SameTold _ _ _ _ _ _ e (record { answer = refl; held = refl; out = ap (λ (x : List Float). written x out) e }) (record { answer = refl; held = refl; out = refl })
  effect_reads (gradient bnorm) h =
      let e : measure (gather (take st.n order) r.norms) bnorm r.upper r.qtb ≡ measure (gather (take st.n order) t.norms) bnorm t.upper t.qtb =
      rw (a.norms, a.upper, a.qtb) in
      record { answer = ap (λ (x : Reply Float). number x) e; held = refl; out = refl }
  effect_reads (above bnorm limit) h =
      let e : above_limit (gather (take st.n order) r.norms) bnorm limit r.upper r.qtb ≡ above_limit (gather (take st.n order) t.norms) bnorm limit t.upper t.qtb =
      rw (a.norms, a.upper, a.qtb) in
      record { answer = ap (λ (x : Reply Bool). truth x) e; held = refl; out = refl }
  effect_reads (jx_norm x) h =
      let xs = gather (take st.n order) x in
      record { answer = ap (λ (u : List (List Float)). ranged (finite_or_8 (jx_norm_of xs u) (jx_ranges xs u))) a.upper; held = refl; out = refl }
  effect_reads (scaling md diag x bound) h = record {
    answer = ap (λ (l : List Float). scaled (rescaled md st.n l diag x bound).0) a.norms;
    held = refl;
    out = ap (λ (l : List Float). (rescaled md st.n l diag x bound).1) a.norms;
  }
  effect_reads determined h = record { answer = ap (λ (u : List (List Float)). count (answered (determined_of st.m u))) a.upper; held = refl; out = refl }
  effect_reads non_singular h = record { answer = ap (λ (u : List (List Float)). truth (answered (non_singular_of st.m st.n u))) a.upper; held = refl; out = refl }

  module _ (z : Shaped st.n r) (y : Shaped st.n t) where
    below-cleared : cleared r.below ≡ cleared t.below
    below-cleared =
        let w = z.below_wide in
        cleared-same r.below t.below (z.below_wide ∙ sym y.below_wide)
        (λ k h. z.below_tall k (omega arith) ∙ sym (y.below_tall k (omega arith)))

    ldiag_cleared : zeros (length r.ldiag) ≡ zeros (length t.ldiag)
    ldiag_cleared = ap zeros (z.ldiag_long ∙ sym y.ldiag_long)

    damped-left : (diag : List Float)
        → (tails (damped_l st order diag r).0 ≡ tails (damped_l st order diag t).0) × (heads (damped_l st order diag r).0 ≡ heads (damped_l st order diag t).0)
    damped-left diag = (ap (λ (l : Rows). tails l.0) (damped-same diag), ap (λ (l : Rows). heads l.0) (damped-same diag))

    -- LAW: what a solve leaves, whatever stood below the diagonal and in l_diag
    pub effect_settles : (c : StoreCall) → is_store_solve c ≡ true → SameLeft (effect c st order r) (effect c st order t)
    unfolding effect
    effect_settles (zero_solve out) h =
        both SameLeft _ _ _ _ _ _ zero_same (record { below = below-cleared; ldiag = ldiag_cleared }) (record { below = below-cleared; ldiag = ldiag_cleared })
    effect_settles (damped_solve diag out) h =
        both SameLeft _ _ _ _ _ _ (ap (λ (l : Rows). damped_numbers l) (damped-same diag)) (record { below = (damped-left diag).0; ldiag = (damped-left diag).1 })
        (record { below = below-cleared; ldiag = ldiag_cleared })
    effect_settles (held_solve rhs out) h = absurd (true≢false (sym h))
    effect_settles (held_product out) h = absurd (true≢false (sym h))
    effect_settles (gradient bnorm) h = absurd (true≢false (sym h))
    effect_settles (above bnorm limit) h = absurd (true≢false (sym h))
    effect_settles (jx_norm x) h = absurd (true≢false (sym h))
    effect_settles (scaling md diag x bound) h = absurd (true≢false (sym h))
    effect_settles determined h = absurd (true≢false (sym h))
    effect_settles non_singular h = absurd (true≢false (sym h))

-- LAW: every other call rests.
pub effect_rests : (st : State) (order : List ℕ) (r : Room) (c : StoreCall) → is_store_solve c ≡ false → Rests st r (effect c st order r)
unfolding effect
effect_rests st order r (zero_solve out) h = absurd (true≢false h)
effect_rests st order r (damped_solve diag out) h = absurd (true≢false h)
effect_rests st order r (held_solve rhs out) h = either (Rests st r) _ _ _ (record { held = refl; below = refl; ldiag = refl }) (record { held = refl; below = refl; ldiag = refl })
effect_rests st order r (held_product out) h = either (Rests st r) _ _ _ (record { held = refl; below = refl; ldiag = refl }) (record { held = refl; below = refl; ldiag = refl })
effect_rests st order r (gradient bnorm) h = record { held = refl; below = refl; ldiag = refl }
effect_rests st order r (above bnorm limit) h = record { held = refl; below = refl; ldiag = refl }
effect_rests st order r (jx_norm x) h = record { held = refl; below = refl; ldiag = refl }
effect_rests st order r (scaling md diag x bound) h = record { held = refl; below = refl; ldiag = refl }
effect_rests st order r determined h = record { held = refl; below = refl; ldiag = refl }
effect_rests st order r non_singular h = record { held = refl; below = refl; ldiag = refl }
