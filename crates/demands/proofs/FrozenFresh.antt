-- 02, #108: 'every call answers as on the problem without the frozen columns': after a factoring with marks and any run of calls, a call that passes its tests
-- tells what the call without marks tells after a factoring of the Jacobian without the frozen columns and the run of the calls that passed, read back.
-- Assumes nothing.
use mathlib.Core.Path.{◌≡◌, sym, ap, ◌∙◌, subst}
use mathlib.Core.List.{List}
use Prim.Native.Nat.{ℕ, ◌≤◌}
use native.Mathlib.Omega.{arith}
use lib.ListN.{length, take}
use lib.Seq.{take_all}
use lib.Ieee.{Float}
use Rattle.leaves.specs.Refusing.{NoneHold}
use Rattle.leaves.specs.Reply.{answered}
use Rattle.leaves.specs.Square.{zeros}
use Rattle.leaves.specs.declared.norm.Ranges.{Ranges}
use Rattle.frozen.specs.Frozen.{marks_of, free_count, free_columns}
use Rattle.factor.specs.Factoring as plain
use Rattle.factor.specs.State.{store_need, bench_need}
use Rattle.factor.specs.declared.state.Held.TheVariants as held
use Rattle.factor.specs.declared.state.State.{State as Plain}
use Rattle.factor.proofs.Answered.{factoring-flags}
use Rattle.calls.specs.State.{marked, whole, without_frozen}
use Rattle.calls.specs.Factoring.{MarkedFactored, marked_factoring}
use Rattle.calls.specs.Outcome.{narrowed_in}
use Rattle.demands.specs.Calls.{run}
use Rattle.demands.specs.History.{Call, perform}
use Rattle.demands.specs.Alike.{SameContents}
use Rattle.demands.specs.Marked.{perform_marked, tests_marked, reduced_call, ReadAs, perform_under, reduced_run}
use Rattle.demands.proofs.Alikes.{refactored, reordered}
use Rattle.demands.proofs.FrozenBeside.{frozen_run_is_reduced}
use Rattle.demands.proofs.FrozenFactored.{small, is_spread, small_state, order-length, spread-state, spread-store, spread-order, first_order, fewer}

module _ (m n marks : ℕ) (jacobian residuals s : List Float) (o : List ℕ) (b : List Float) (t : List Float) (p : List ℕ) (d : List Float) (some : marks ≡ 0 → ⊥) where
  abbrev free : ℕ
  free = free_count (marks_of n marks)

  abbrev pub one : MarkedFactored
  one = marked_factoring m n marks jacobian residuals s o b

  -- the Jacobian without the frozen columns, factored in slices of its own
  abbrev pub fresh : plain.Factored
  fresh = plain.factor_call m free (free_columns m (marks_of n marks) jacobian) residuals t p d

  module _ {f g : Ranges} (x : one.reply ≡ answered f) (y : fresh.reply ≡ answered g) where
    abbrev inner : plain.Factored
    inner = small m n marks jacobian residuals s o b

    inner_answers : inner.reply ≡ answered f
    inner_answers = (is_spread m n marks jacobian residuals s o b some x).answer

    -- LAW: the factorings answer the same flags
    pub frozen_flags : f ≡ g
    frozen_flags =
        factoring-flags m free (free_columns m (marks_of n marks) jacobian) residuals (zeros (store_need free)) (take free o) (zeros (bench_need m free)) inner_answers
        ∙ sym (factoring-flags m free (free_columns m (marks_of n marks) jacobian) residuals t p d y)

    same : SameContents inner.state inner.store fresh.store × (inner.state ≡ fresh.state)
    same =
        let w = refactored m free (free_columns m (marks_of n marks) jacobian) residuals (zeros (store_need free)) t (take free o) p (zeros (bench_need m free)) d inner_answers y in
        (w.0, w.1)

    ordered : (free ≤ length inner.order) × (free ≤ length fresh.order) × (take free inner.order ≡ take free fresh.order)
    ordered = reordered m free (free_columns m (marks_of n marks) jacobian) residuals (zeros (store_need free)) t (take free o) p (zeros (bench_need m free)) d inner_answers y

    abbrev st : Plain
    st = record { m = m; n = n; held = held.Nothing }

    is_state : whole one.state ≡ st
    is_state = ap whole (spread-state m n marks jacobian residuals s o b some x)

    contents : SameContents (without_frozen (marked marks st)) (narrowed_in (marked marks st) one.store) fresh.store
    contents =
        subst (λ (l : List Float). SameContents (without_frozen (marked marks st)) l fresh.store) (sym (spread-store m n marks jacobian residuals s o b some x))
        (subst (λ (q : Plain). SameContents q inner.store fresh.store) (small_state m n marks jacobian residuals s o b some x) same.0)

    first_places_lem : take free fresh.order ≡ take free one.order
    first_places_lem =
        let l = order-length m n marks jacobian residuals s o b some x in
        sym ordered.2 ∙ take_all free inner.order (omega arith) ∙ sym (spread-order m n marks jacobian residuals s o b some x)

    long : free ≤ length one.order
    long = let a = (first_order m n marks jacobian residuals s o b some x).0 in let l = fewer m n marks jacobian residuals s o b some x in omega arith

    -- LAW
    pub frozen_as_reduced : (cs : List Call) (c : Call)
        → (let v = run (perform_under marks) one.order cs (whole one.state) one.store in
        let w = run perform fresh.order (reduced_run marks one.order cs (whole one.state) one.store) fresh.state fresh.store in
        NoneHold (tests_marked c (marked marks v.0) one.order v.1)
        → ReadAs c (marked marks v.0) (perform (reduced_call (marked marks v.0) c) w.0 fresh.order w.1) (perform_marked c (marked marks v.0) one.order v.1))
    frozen_as_reduced cs c =
        let at : fresh.state ≡ without_frozen (marked marks st) = sym same.1 ∙ small_state m n marks jacobian residuals s o b some x in
        rw (is_state, at) (frozen_run_is_reduced marks some one.order fresh.order st one.store fresh.store long ordered.1 first_places_lem contents cs c)
