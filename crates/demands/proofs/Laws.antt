-- Demand 3, call by call: what the search, and each call of `factor`, keeps and reads, and when it settles what the held calls read. Assumes nothing.
use mathlib.Core.Path.{◌≡◌, refl, sym, ap, ◌∙◌, subst}
use mathlib.Core.Bool.{Bool, true, false, ◌&&◌, ◌||◌, true≢false}
use mathlib.Core.List.{List}
use mathlib.Core.Logic.{◌⊎◌, inl, inr}
use Prim.Native.Nat.{ℕ, ◌≤◌, min}
use native.Mathlib.Omega.{arith}
use lib.Dec.{eqb, ltb}
use lib.ListN.{length, take, length-replicate}
use lib.Ieee.{Float}
use borrow.Author.Tests.{ltb-true, ltb-false, lt-ltb, le-ltb, eqb-true, eqb-false, eq-eqb, ne_eqb}
use Rattle.leaves.specs.Norm.{ranges_of}
use Rattle.leaves.specs.declared.norm.Ranges.{Ranges}
use Rattle.search.specs.Measured.{measured_by}
use Rattle.leaves.specs.Reply.{Reply, answered, refused}
use Rattle.leaves.specs.Number.{plus_zero}
use Rattle.factor.specs.State.{is_empty, store_need, with_held}
use Rattle.factor.specs.Room.{Room, load, lay, emptied}
use Rattle.leaves.specs.Square.{zeros}
use Rattle.leaves.specs.Tests.{first_of, all_finite}
use Rattle.factor.specs.Solve.{zero_solved}
use Rattle.factor.specs.Outcome.{Ended, ended}
use Rattle.factor.specs.Tests.{solve_tests}
use Rattle.factor.specs.Solves.{solved_as, zero_call}
use Rattle.demands.specs.Calls as basic
use Rattle.factor.specs.declared.state.State.{State}
use Rattle.factor.specs.declared.state.Held.{Held}
use Rattle.factor.specs.declared.state.Held.TheVariants as held
use Rattle.leaves.proofs.Refusals.{passed_iff, call-worked}
use Rattle.factor.proofs.Passed.{solve_passed}
use Rattle.demands.proofs.Effects.{tested_of}
use Rattle.demands.proofs.Leavings.{tests_numbered}
use Rattle.demands.proofs.Tabled as table
use Rattle.demands.proofs.Keeping.{Settled, Unsettled, LawsOf}
use Rattle.demands.proofs.Keeping as base
use Rattle.search.specs.Problem.{Problem}
use Rattle.search.specs.Run.{Stop, Place}
use Rattle.search.specs.Search.{Flagged, Answer, answer_of, searched, search_call}
use Rattle.search.specs.inner.Read.{Ready}
use Rattle.demands.specs.History.{Call, search, Outcome, of_base_outcome, of_search, of_base, perform, settling}
use Rattle.demands.specs.History as any
use Rattle.search.proofs.Calling.{ready}
use Rattle.demands.proofs.SearchTable.{tests, tested, asked, given, ends, passed_is, refused_is, answered_otherwise, refused_eight}
use Rattle.leaves.specs.Refusing.{NoneHold}
use Rattle.demands.specs.Refusals.{shortest_of, further_of, store_tests}
use Rattle.demands.specs.Eight.{store_breaks}
use Rattle.demands.specs.Alike.{Alike, Kept, ToldAlike, Long}
use Rattle.demands.specs.inner.Helds.{is_held}

-- ---- got past the checks: answered or refused 8
pub past_checks : (k t : ℕ) → (t ≡ 0 → (k ≡ 0) ⊎ (k ≡ 8)) → (k ≡ 0 → t ≡ 0) → (k ≡ 8 → t ≡ 0) → (eqb k 0 || eqb k 8) ≡ eqb t 0
past_checks k t p q r = by (eqb t 0) refl
  where
    on : (k ≡ 0) ⊎ (k ≡ 8) → (eqb k 0 || eqb k 8) ≡ true
    on (inl e) = rw e
    on (inr e) = rw e

    by : (b : Bool) → eqb t 0 ≡ b → (eqb k 0 || eqb k 8) ≡ b
    by true e = on (p (eqb-true t 0 e))
    by false e = let n = eqb-false t 0 e in rw (ne_eqb k 0 (λ z. n (q z)), ne_eqb k 8 (λ z. n (r z)))

-- ---- the calls of `factor`
module _ (c : basic.StoreCall) where
  abbrev told : State → List ℕ → List Float → ℕ
  told st order s = basic.store_number (basic.perform_store c st order s).answer

  pub base_settling : (st : State) (order : List ℕ) (s : List Float) → settling (any.base c) st order s ≡ base.settling c st order s
  unfolding perform
  base_settling st order s =
      let ts = store_tests c st (length s) order in
      let q = tests_numbered c st (length s) order in
      ap (λ (b : Bool). basic.is_store_solve c && b)
      (past_checks (told st order s) (tested_of c st order s)
      (λ e. by (store_breaks c st order (load st.n s)) refl ((passed_iff ts q).0 e))
      (λ e. (passed_iff ts q).1 ((table.answered_otherwise c st order s).0 e).0)
      (λ e. (passed_iff ts q).1 ((table.refused_eight c st order s).0 e).0))
    where
      by : (b : Bool) → store_breaks c st order (load st.n s) ≡ b → NoneHold (store_tests c st (length s) order) → (told st order s ≡ 0) ⊎ (told st order s ≡ 8)
      by true e n = inr ((table.refused_eight c st order s).1 (n, e))
      by false e n = inl ((table.answered_otherwise c st order s).1 (n, e))

  base_laws : LawsOf (perform (any.base c)) (is_held (any.base c)) (settling (any.base c))
  unfolding perform
  base_laws =
      let l = base.laws c in
      record {
        keeps = l.keeps;
        lasts = l.lasts;
        sizes = l.sizes;
        reads = λ st order s t p q a g. let x = l.reads st order s t p q a g in record { answer = ap of_base x.answer; state = x.state; out = x.out };
        settles = λ st order s t p q a h. l.settles st order s t p q a (sym (base_settling st order s) ∙ h);
        otherwise = λ st order s h. l.otherwise st order s (sym (base_settling st order s) ∙ h);
        apart = λ st order s h. l.apart st order s (sym (base_settling st order s) ∙ h);
        fresh = λ st h order s e g. let x = l.fresh st h order s e (sym (base_settling st order s) ∙ g) in (base_settling (with_held st h) order s ∙ x.0, ap of_base_outcome x.1);
        orders = λ st o p s a b e. ap of_base_outcome (l.orders st o p s a b e);
      }

-- ---- the search
searched-store : (st : State) (s out : List Float) (seen : Ranges) (x : Reply Answer) → (searched st s out seen x).store ≡ s
searched-store st s out seen (answered a) = refl
searched-store st s out seen (refused k) = refl

searched-state : (st : State) (s out : List Float) (seen : Ranges) (x : Reply Answer) → (searched st s out seen x).state ≡ with_held st held.Nothing
searched-state st s out seen (answered a) = refl
searched-state st s out seen (refused k) = refl

searched-held : (st : State) (h : Held) (s out : List Float) (seen : Ranges) (x : Reply Answer) → searched (with_held st h) s out seen x ≡ searched st s out seen x
searched-held st h s out seen (answered a) = refl
searched-held st h s out seen (refused k) = refl

searched-told : (st : State) (s t out : List Float) (seen : Ranges) (x : Reply Answer) → ToldAlike (of_search (searched st s out seen x)) (of_search (searched st t out seen x))
searched-told st s t out seen (answered a) = record { answer = refl; state = refl; out = refl }
searched-told st s t out seen (refused k) = record { answer = refl; state = refl; out = refl }

-- a slice that is long enough does not decide
enough : (n a x : ℕ) → n ≤ a → ltb (min a x) n ≡ ltb x n
enough n a x p = by (ltb x n) refl
  where
    by : (c : Bool) → ltb x n ≡ c → ltb (min a x) n ≡ c
    by true e = let h = ltb-true x n e in lt-ltb (min a x) n (omega arith)
    by false e = let h = ltb-false x n e in le-ltb (min a x) n (omega arith)

-- the zero solve leaves the same store, whether it is answered or refused 8
abbrev pub zero : State → basic.StoreCall
zero st = basic.zero_solve (zeros st.n)

abbrev stored : Ended (Unit {0}) → List Float
stored x = x.store

either_left : (st : State) (order : List ℕ) (r : Room) (xs out : List Float) (b : Bool)
    → stored (elim b [ true ↦ solved_as st order held.Zero (emptied r) xs out | false ↦ ended (refused 8) (with_held st held.Nothing) (lay (emptied r)) out ]) ≡ lay (emptied r)
either_left st order r xs out true = refl
either_left st order r xs out false = refl

zero_left : (st : State) (order : List ℕ) (s out : List Float) → first_of (solve_tests st (length s) order (length out)) ≡ 0 → (zero_call st order s out).store ≡ lay (emptied (load st.n s))
unfolding zero_call
zero_left st order s out e =
    let r = load st.n s in
    let xs = zero_solved st.m r.upper r.qtb in
    ap stored (sym (call-worked _ (λ (k : ℕ). ended (refused k) st s out) _ e)) ∙ either_left st order r xs out (all_finite xs)

module _ (diag : List Float) (radius lambda : Float) (out : List Float) where
  abbrev this : Call
  this = search diag radius lambda out

  abbrev by_tests : State → List ℕ → List Float → ℕ
  by_tests st order s = tested st order diag radius lambda s out

  -- the run's answer, and the store that is left
  abbrev answers : State → List ℕ → List Float → Reply Answer
  answers st order s = answer_of (asked st order diag radius lambda s out) lambda

  -- what its norms saw
  abbrev saw : Problem → Ranges
  saw p = ranges_of (measured_by p lambda)

  abbrev sees : State → List ℕ → List Float → Ranges
  sees st order s = saw (asked st order diag radius lambda s out)

  abbrev left : State → List Float → List Float
  left st s = lay (emptied (load st.n s))

  pub search-settling : (st : State) (order : List ℕ) (s : List Float) → settling this st order s ≡ eqb (by_tests st order s) 0
  unfolding perform
  search-settling st order s =
      past_checks (given st order diag radius lambda s out) (by_tests st order s) (λ e. by (ends st order diag radius lambda s out) refl ((passed_iff (tests st order diag radius lambda s out) refl).0 e))
      (λ e. (passed_iff (tests st order diag radius lambda s out) refl).1 ((answered_otherwise st order diag radius lambda s out).0 e).0)
      (λ e. (passed_iff (tests st order diag radius lambda s out) refl).1 ((refused_eight st order diag radius lambda s out).0 e).0)
    where
      by : (x : Stop ⊎ Place) → ends st order diag radius lambda s out ≡ x → NoneHold (tests st order diag radius lambda s out)
          → (given st order diag radius lambda s out ≡ 0) ⊎ (given st order diag radius lambda s out ≡ 8)
      by (inl x) e n = inl ((answered_otherwise st order diag radius lambda s out).1 (n, (x, e)))
      by (inr x) e n = inr ((refused_eight st order diag radius lambda s out).1 (n, (x, e)))

  module _ (st : State) (order : List ℕ) (s : List Float) (e : by_tests st order s ≡ 0) where
    is_ready : Ready st s order
    is_ready = ready st s order diag radius lambda out refl e

    pub zero-tested : tested_of (zero st) st order s ≡ 0
    unfolding shortest_of further_of
    zero-tested = rw (length-replicate st.n plus_zero) is_ready

    zero-settling : base.settling (zero st) st order s ≡ true
    zero-settling = eq-eqb (tested_of (zero st) st order s) 0 zero-tested

    pub as_zero : (perform this st order s).store ≡ (basic.perform_store (zero st) st order s).store
    unfolding perform basic.perform_store
    as_zero =
        ap (λ (x : Ended Flagged). x.store) (passed_is st order diag radius lambda s out e) ∙ searched-store st (left st s) out (sees st order s) (answers st order s)
        ∙ sym (zero_left st order s (zeros st.n) (rw (length-replicate st.n plus_zero) is_ready))

  -- by the two cases
  cases : (P : Outcome → Type 0) (st : State) (order : List ℕ) (s : List Float)
      → (by_tests st order s ≡ 0 → P (perform this st order s)) → ((by_tests st order s ≡ 0 → ⊥) → P (of_search (ended (refused (by_tests st order s)) st s out))) → P (perform this st order s)
  unfolding perform
  cases P st order s p q = by (eqb (by_tests st order s) 0) refl
    where
      by : (b : Bool) → eqb (by_tests st order s) 0 ≡ b → P (of_search (search_call st order diag radius lambda s out))
      by true e = p (eqb-true (by_tests st order s) 0 e)
      by false e =
          let n = eqb-false (by_tests st order s) 0 e in
          subst (λ (x : Ended Flagged). P (of_search x)) (sym (refused_is st order diag radius lambda s out n)) (q n)

  search_keeps : (st : State) (order : List ℕ) (s : List Float) → Kept (load st.n s) (load st.n (perform this st order s).store)
  search_keeps st order s = cases (λ (o : Outcome). Kept (load st.n s) (load st.n o.store)) st order s
      (λ e. subst (λ (x : List Float). Kept (load st.n s) (load st.n x)) (sym (as_zero st order s e)) ((base.laws (zero st)).keeps st order s))
      (λ h. record { upper = refl; qtb = refl; norms = refl; rest = refl })

  search-lasts : (st : State) (order : List ℕ) (s : List Float) → length (perform this st order s).store ≡ length s
  search-lasts st order s = cases (λ (o : Outcome). length o.store ≡ length s) st order s (λ e. ap length (as_zero st order s e) ∙ (base.laws (zero st)).lasts st order s) (λ h. refl)

  after : (st : State) (order : List ℕ) (s : List Float) → by_tests st order s ≡ 0 → (perform this st order s).state ≡ with_held st held.Nothing
  unfolding perform
  after st order s e = ap (λ (x : Ended Flagged). x.state) (passed_is st order diag radius lambda s out e) ∙ searched-state st (left st s) out (sees st order s) (answers st order s)

  search-sizes : (st : State) (order : List ℕ) (s : List Float) → (perform this st order s).state ≡ with_held st (perform this st order s).state.held
  search-sizes st order s = cases (λ (o : Outcome). o.state ≡ with_held st o.state.held) st order s
      (λ e. rw (after st order s e)) (λ h. refl)

  -- ---- of two stores that are long enough, with the same R and qt_b
  module _ (st : State) (order : List ℕ) (s t : List Float) (p : Long st s) (q : Long st t) where
    tested-same : by_tests st order s ≡ by_tests st order t
    tested-same = rw (le-ltb (length s) (store_need st.n) p, le-ltb (length t) (store_need st.n) q)

    search_reads : Alike (load st.n s) (load st.n t) → ToldAlike (perform this st order s) (perform this st order t)
    unfolding perform
    search_reads a =
        let same : asked st order diag radius lambda s out ≡ asked st order diag radius lambda t out = rw (a.upper, a.qtb) in
        cases (λ (o : Outcome). ToldAlike o (perform this st order t)) st order s
        (λ e. subst (λ (x : Ended Flagged). ToldAlike (of_search x) (of_search (search_call st order diag radius lambda t out))) (sym (passed_is st order diag radius lambda s out e))
        (subst (λ (x : Ended Flagged). ToldAlike (of_search (searched st (left st s) out (sees st order s) (answers st order s))) (of_search x))
        (sym (passed_is st order diag radius lambda t out (sym tested-same ∙ e)))
        (subst (λ (y : Problem). ToldAlike (of_search (searched st (left st s) out (sees st order s) (answers st order s))) (of_search (searched st (left st t) out (saw y) (answer_of y lambda)))) same
        (searched-told st (left st s) (left st t) out (sees st order s) (answers st order s)))))
        (λ h. subst (λ (x : Ended Flagged). ToldAlike (of_search (ended (refused (by_tests st order s)) st s out)) (of_search x)) (sym (refused_is st order diag radius lambda t out (λ e. h (tested-same ∙ e))))
        (record { answer = ap (λ (k : ℕ). any.found (refused k)) tested-same; state = refl; out = refl }))

    search_settles : Alike (load st.n s) (load st.n t) → settling this st order s ≡ true
        → Settled (load st.n (perform this st order s).store) (load st.n (perform this st order t).store)
    search_settles a h =
        let e = eqb-true (by_tests st order s) 0 (sym (search-settling st order s) ∙ h) in
        rw (as_zero st order s e, as_zero st order t (sym tested-same ∙ e)) ((base.laws (zero st)).settles st order s t p q a (zero-settling st order s e))

  search_otherwise : (st : State) (order : List ℕ) (s : List Float) → settling this st order s ≡ false
      → Unsettled st (load st.n s) (perform this st order s).state (load st.n (perform this st order s).store)
  search_otherwise st order s h = cases (λ (o : Outcome). Unsettled st (load st.n s) o.state (load st.n o.store)) st order s
      (λ e. absurd (true≢false (sym (eq-eqb (by_tests st order s) 0 e) ∙ sym (search-settling st order s) ∙ h)))
      (λ n. record { state = refl; below = refl; ldiag = refl })

  search_fresh : (st : State) (h : Held) (order : List ℕ) (s : List Float) → is_empty h ≡ false → settling this st order s ≡ true
      → (settling this (with_held st h) order s ≡ true) × (perform this (with_held st h) order s ≡ perform this st order s)
  unfolding perform
  search_fresh st h order s i g =
      let e = eqb-true (by_tests st order s) 0 (sym (search-settling st order s) ∙ g) in
      let f = (solve_passed st (length s) order st.n (is_ready st order s e)).room.filled in
      let y : by_tests (with_held st h) order s ≡ 0 = rw i (rw f at e) in (
        search-settling (with_held st h) order s ∙ eq-eqb (by_tests (with_held st h) order s) 0 y,
        ap of_search (passed_is (with_held st h) order diag radius lambda s out y ∙ searched-held st h (left st s) out (sees st order s) (answers st order s) ∙ sym (passed_is st order diag radius lambda s out e)),
      )

  abbrev told_by : State → List Float → ℕ → Problem → Ended Flagged
  told_by st s k p = elim (eqb k 0) [ true ↦ searched st (left st s) out (saw p) (answer_of p lambda) | false ↦ ended (refused k) st s out ]

  search_orders : (st : State) (o p : List ℕ) (s : List Float) → st.n ≤ length o → st.n ≤ length p → take st.n o ≡ take st.n p
      → perform this st o s ≡ perform this st p s
  unfolding perform search_call
  search_orders st o p s a b e =
      let k = min (length diag) (length out) in
      let t : by_tests st o s ≡ by_tests st p s = rw (enough st.n (length o) k a, enough st.n (length p) k b, e) in
      let q : asked st o diag radius lambda s out ≡ asked st p diag radius lambda s out = rw e in
      ap of_search (ap (λ (i : ℕ). told_by st s i (asked st o diag radius lambda s out)) t ∙ ap (λ (x : Problem). told_by st s (by_tests st p s) x) q)

  -- LAW
  pub search_laws : LawsOf (perform this) (is_held this) (settling this)
  search_laws = record {
    keeps = search_keeps;
    lasts = search-lasts;
    sizes = search-sizes;
    reads = λ st order s t p q a g. search_reads st order s t p q a;
    settles = λ st order s t p q a h. search_settles st order s t p q a h;
    otherwise = search_otherwise;
    apart = λ st order s h. refl;
    fresh = λ st h order s e g. search_fresh st h order s e g;
    orders = λ st o p s a b e. search_orders st o p s a b e;
  }

-- LAW
pub laws : (c : Call) → LawsOf (perform c) (is_held c) (settling c)
laws (any.base c) = base_laws c
laws (search diag radius lambda out) = search_laws diag radius lambda out
