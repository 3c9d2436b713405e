-- A factoring as its callers see it, by its tests and its marks: the free columns' factoring at the first places of the lent slices is, with no
-- mark, the factoring without marks, and else that of the problem without the frozen columns, once it is spread. Assumes nothing.
use Prim.Native.Nat.{ℕ, ◌+◌, ◌-◌, ◌*◌, ◌≤◌}
use mathlib.Core.Path.{◌≡◌, refl, sym, ap, ◌∙◌}
use mathlib.Core.Bool.{Bool, true, false, ◌||◌}
use mathlib.Core.List.{List, [], ◌∷◌, ◌++◌, append_assoc}
use native.Mathlib.Nat.{zero-add}
use native.Mathlib.Omega.{arith}
use lib.Dec.{eqb, ltb}
use lib.ListN.{length, take, drop, length-append, length-drop, length-replicate}
use lib.Seq.{take_all, take_at, length-take-le}
use lib.Ieee.{Float}
use borrow.Author.Tests.{eqb-true, eqb-false, ne_eqb, le-ltb}
use Rattle.leaves.specs.Loop.{count_from}
use Rattle.leaves.specs.Number.{plus_zero}
use Rattle.leaves.specs.declared.reply.Refusal.{Refusal}
use Rattle.leaves.specs.Reply.{Reply, answered, refused, refusal_number}
use Rattle.leaves.proofs.Replies.{refusal_number-some}
use Rattle.leaves.specs.Square.{zeros}
use Rattle.leaves.specs.Tests.{outside, Test, first_of}
use Rattle.leaves.specs.declared.norm.Ranges.{Ranges}
use Rattle.leaves.proofs.Insides.{inside, within}
use Rattle.leaves.proofs.Overs.{count-length}
use Rattle.leaves.proofs.Refusals.{test_met, passed_iff, call-refused, call-worked}
use Rattle.leaves.proofs.Splices.{drop_front}
use Rattle.frozen.specs.Frozen.{marks_of, mark_past, free_count, free_columns}
use Rattle.frozen.specs.Narrowed.{spread_out}
use Rattle.frozen.proofs.Spreads.{spread_out-length}
use Rattle.frozen.proofs.Unmarked.{none_set, none_past, columns_whole}
use Rattle.factor.specs.State.{store_need, bench_need, empty as none}
use Rattle.factor.specs.Outcome.{written}
use Rattle.factor.specs.Factoring as plain
use Rattle.factor.specs.Filled.{Filled, filled_as, filled_of, filled_tests, factor_filled}
use Rattle.factor.specs.declared.state.Held.TheVariants as held
use Rattle.factor.specs.declared.state.State.{State as Plain}
use Rattle.factor.proofs.Answered.{answered-state}
use Rattle.factor.proofs.Workings.{worked-copied}
use Rattle.calls.specs.declared.state.State.{State}
use Rattle.calls.specs.State.{no_problem, marked}
use Rattle.calls.specs.Factoring.{MarkedFactored, marked_factored, factored_as, factored_if, marked_factor_tests, marked_factoring}
use Rattle.calls.specs.inner.Factorable.{Factorable, state_left, store_left}
use Rattle.calls.proofs.Passed.{by_no_mark, by_refusal, by_working}
use Rattle.calls.proofs.Factors.{Lengths, long_enough, factorable, small_inside, area_within, gathered_long, small_passed}
use Rattle.calls.proofs.Leavings.{all_cleared, count-joined, need_within}
use Rattle.calls.proofs.Surplus.{worked-state, refused-order, worked-bench, worked_larger, worked_front}

-- ---- as it is worked out: the free columns and the residuals in the bench
module _
    (m n marks free : ℕ) (jacobian residuals : List Float) (r : Factorable m n marks free jacobian residuals) (store : List Float) (order : List ℕ) (bench : List Float) (ls : store_need free ≤ length store)
    (lo : free ≤ length order) (lb : bench_need m free ≤ length bench) where
  abbrev columns : List Float
  columns = free_columns m (marks_of n marks) jacobian

  filled_worked : (b : List Float) → b ≡ columns ++ (take m residuals ++ drop (bench_need m free) bench)
      → factor_filled m free store order b ≡ filled_of (plain.factor_worked m free columns residuals store order bench)
  unfolding factor_filled
  filled_worked b eb =
      let lc = gathered_long m n marks free jacobian residuals r in
      let lr : length (take m residuals) ≡ m = length-take-le m residuals r.residuals_long in
      let lt : length (take m residuals ++ drop (bench_need m free) bench) ≡ m + (length bench - bench_need m free) = length-append (take m residuals) (drop (bench_need m free) bench) ∙ simp length-drop (omega arith) in
      let l : length b ≡ length bench = ap length eb ∙ (length-append columns (take m residuals ++ drop (bench_need m free) bench) ∙ omega arith) in
      let three : (ltb (length store) (store_need free) || ltb (length order) free) ≡ false = rw (le-ltb (length store) (store_need free) ls, le-ltb (length order) free lo) refl in
      let more : ltb (length b) (bench_need m free) ≡ false = le-ltb (length b) (bench_need m free) (omega arith) in
      let p : first_of (filled_tests m free (length store) (length order) (length b)) ≡ 0 = (passed_iff (filled_tests m free (length store) (length order) (length b)) refl).1 (within m free (small_inside m n marks free jacobian residuals r), (three, (more, tt))) in
      let e : b ≡ take (m * free) columns ++ (take m residuals ++ drop (m * free + m) bench) = eb ∙ ap (λ (x : List Float). x ++ (take m residuals ++ drop (m * free + m) bench)) (sym (take_all (m * free) columns (omega arith))) in
      sym (call-worked _ (λ k. filled_as (refused k) store order b) _ p) ∙ ap filled_of (worked-copied m free store order columns residuals bench b (omega arith) r.residuals_long e)

-- ---- the problem without the frozen columns
module _
    (m n marks free : ℕ) (jacobian residuals : List Float) (r : Factorable m n marks free jacobian residuals) (store : List Float) (order : List ℕ) (bench : List Float) (ls : store_need n ≤ length store)
    (lo : n ≤ length order) where
  abbrev made : plain.Factored
  made = plain.factor_call m free (free_columns m (marks_of n marks) jacobian) residuals (zeros (store_need free)) (take free order) (zeros (bench_need m free))

  abbrev here : plain.Factored
  here = plain.factor_worked m free (free_columns m (marks_of n marks) jacobian) residuals store order bench

  -- its own tests are passed
  is_worked : plain.factor_worked m free (free_columns m (marks_of n marks) jacobian) residuals (zeros (store_need free)) (take free order) (zeros (bench_need m free)) ≡ made
  unfolding plain.factor_call
  is_worked =
      let f = r.fits in
      call-worked _ (λ k. plain.factored (refused k) none (zeros (store_need free)) (take free order) (zeros (bench_need m free))) _
      (small_passed m n marks free jacobian residuals r (length (zeros (store_need free))) (length (take free order)) (length (zeros (bench_need m free))) (length-replicate (store_need free) plus_zero) (length-take-le free order (omega arith)) (length-replicate (bench_need m free) plus_zero))

  -- at the first places of the lent slices
  reply_made : here.reply ≡ made.reply
  reply_made = (worked_larger m free (free_columns m (marks_of n marks) jacobian) residuals store order bench (zeros (bench_need m free))).same_reply ∙ ap (λ (x : plain.Factored). x.reply) is_worked

  store_made : here.store ≡ made.store ++ drop (store_need free) store
  store_made =
      (worked_larger m free (free_columns m (marks_of n marks) jacobian) residuals store order bench (zeros (bench_need m free))).same_store
      ∙ ap (λ (x : plain.Factored). x.store ++ drop (store_need free) store) is_worked

  order_made : here.order ≡ made.order ++ drop free order
  order_made =
      (worked_larger m free (free_columns m (marks_of n marks) jacobian) residuals store order bench (zeros (bench_need m free))).same_order
      ∙ ap (λ (x : plain.Factored). x.order ++ drop free order) is_worked

  module _ (ks : length here.store ≡ length store) (ko : length here.order ≡ length order) where
    store_long : length made.store ≡ store_need free
    store_long =
        let w = need_within n free r.fits in
        let a = ap length (sym store_made) ∙ ks in
        let b = length-append made.store (drop (store_need free) store) in
        let d = length-drop (store_need free) store in
        omega arith

    order_long : length made.order ≡ free
    order_long =
        let f = r.fits in
        let a = ap length (sym order_made) ∙ ko in
        let b = length-append made.order (drop free order) in
        let d = length-drop free order in
        omega arith

    abbrev counted : List ℕ
    counted = take free here.order ++ (count_from (n - free) free ++ drop n here.order)

    abbrev cleared : List Float
    cleared = take (bench_need m free) here.bench ++ (zeros (bench_need m n - bench_need m free) ++ drop (bench_need m n) here.bench)

    bench-cleared : cleared ≡ written (zeros (bench_need m n)) bench
    bench-cleared =
        let w = area_within m n marks free jacobian residuals r in
        all_cleared (bench_need m free) (bench_need m n) here.bench bench (omega arith) (worked-bench m free (free_columns m (marks_of n marks) jacobian) residuals store order bench)

    -- the surplus of the lent slices
    past-store : drop (store_need n) here.store ≡ drop (store_need n) store
    past-store =
        let w = need_within n free r.fits in
        let e : store_need free + (store_need n - store_need free) ≡ store_need n = omega arith in
        ap (drop (store_need n)) store_made
        ∙ (sym (ap (λ (k : ℕ). drop k (made.store ++ drop (store_need free) store)) e) ∙ (drop_front (store_need free) (store_need n - store_need free) made.store store store_long ∙ ap (λ (k : ℕ). drop k store) e))

    past-order : drop n here.order ≡ drop n order
    past-order =
        let f = r.fits in
        let e : free + (n - free) ≡ n = omega arith in
        ap (drop n) order_made ∙ (sym (ap (λ (k : ℕ). drop k (made.order ++ drop free order)) e) ∙ (drop_front free (n - free) made.order order order_long ∙ ap (λ (k : ℕ). drop k order) e))

    -- answered: spread, and the count goes on
    spread_made : (seen : Ranges) → here.reply ≡ answered seen
        → marked_factored (answered seen) (state_left m n marks (answered seen)) (written (store_left n free (answered seen) here.store) here.store) counted cleared
        ≡ factored_if m n marks free made.reply made store order bench
    spread_made seen e =
        let er : made.reply ≡ answered seen = sym reply_made ∙ e in
        let h : made.state.held ≡ held.Nothing = ap (λ (x : Plain). x.held) (answered-state m free (free_columns m (marks_of n marks) jacobian) residuals (zeros (store_need free)) (take free order) (zeros (bench_need m free)) er) in
        let t : take (store_need free) here.store ≡ made.store = ap (take (store_need free)) store_made ∙ take_at made.store (drop (store_need free) store) (store_need free) store_long in
        let w = store_long in
        let z : length (spread_out n free made.store) ≡ store_need n = spread_out-length n free made.store r.fits (omega arith) in
        let s : written (spread_out n free (take (store_need free) here.store)) here.store ≡ written (spread_out n free made.store) store = rw (t, z, past-store) refl in
        let o : counted ≡ made.order ++ (count_from (n - free) free ++ drop n order) = rw (past-order, ap (take free) order_made ∙ take_at made.order (drop free order) free order_long) refl in
        rw (s, o, bench-cleared, ← h) (sym (ap (λ (x : Reply Ranges). factored_if m n marks free x made store order bench) er))

    -- refused 8: all +0, and the count from 0
    wiped_made : (k : ℕ) → here.reply ≡ refused k
        → marked_factored (refused k) (state_left m n marks (refused k)) (written (store_left n free (refused k) here.store) here.store) counted cleared
        ≡ factored_if m n marks free made.reply made store order bench
    wiped_made k e =
        let f = r.fits in
        let er : made.reply ≡ refused k = sym reply_made ∙ e in
        let z : length (zeros (store_need n)) ≡ store_need n = length-replicate (store_need n) plus_zero in
        let s : written (zeros (store_need n)) here.store ≡ written (zeros (store_need n)) store = rw (z, past-store) refl in
        let q : free + (n - free) ≡ n = omega arith in
        let c : take free here.order ≡ count_from free 0 = ap (take free) (refused-order m free (free_columns m (marks_of n marks) jacobian) residuals store order bench e) ∙ take_at (count_from free 0) (drop free order) free (count-length free 0) in
        let j : count_from free 0 ++ count_from (n - free) free ≡ count_from n 0 = ap (λ (i : ℕ). count_from free 0 ++ count_from (n - free) i) (sym (zero-add free)) ∙ (count-joined free (n - free) 0 ∙ ap (λ (i : ℕ). count_from i 0) q) in
        let o : counted ≡ count_from n 0 ++ drop n order = rw (c, past-order) (sym (append_assoc (count_from free 0) (count_from (n - free) free) (drop n order)) ∙ ap (λ (l : List ℕ). l ++ drop n order) j) in
        rw (s, o, bench-cleared) (sym (ap (λ (x : Reply Ranges). factored_if m n marks free x made store order bench) er))

    left_made : (a : Reply Ranges) → here.reply ≡ a → marked_factored a (state_left m n marks a) (written (store_left n free a here.store) here.store) counted cleared ≡ factored_if m n marks free made.reply made store order bench
    left_made (answered seen) e = spread_made seen e
    left_made (refused k) e = wiped_made k e

  -- as the lent slices are left
  frozen_left : {a : Reply Ranges} {s b store' bench' : List Float} {o order' : List ℕ} {after : State} → filled_as a s o b ≡ filled_of here → length s ≡ length store → length o ≡ length order → after ≡ state_left m n marks a
      → store' ≡ written (store_left n free a s) s → order' ≡ take free o ++ (count_from (n - free) free ++ drop n o)
      → bench' ≡ take (bench_need m free) b ++ (zeros (bench_need m n - bench_need m free) ++ drop (bench_need m n) b)
      → marked_factored a after store' order' bench' ≡ factored_if m n marks free made.reply made store order bench
  frozen_left {a} {s} {b} {store'} {bench'} {o} {order'} {after} e ks ko ea es eo eb =
      let fs = ap (λ (x : Filled). x.store) e in
      let fo = ap (λ (x : Filled). x.order) e in
      let fb = ap (λ (x : Filled). x.bench) e in
      rw (ea, es, eo, eb, fs, fo, fb) (left_made (ap length (sym fs) ∙ ks) (ap length (sym fo) ∙ ko) a (sym (ap (λ (x : Filled). x.reply) e)))

-- ---- the call by its tests and its marks
module _ (m n marks : ℕ) (jacobian residuals store : List Float) (order : List ℕ) (bench : List Float) where
  abbrev tests : List Test
  tests = marked_factor_tests m n marks jacobian residuals (length store) (length order) (length bench)

  abbrev unmarked_tests : List Test
  unmarked_tests = plain.factor_tests m n jacobian residuals (length store) (length order) (length bench)

  abbrev whole : MarkedFactored
  whole = factored_as (plain.factor_call m n jacobian residuals store order bench)

  abbrev reduced_for : ℕ → MarkedFactored
  reduced_for free =
      let e = plain.factor_call m free (free_columns m (marks_of n marks) jacobian) residuals (zeros (store_need free)) (take free order) (zeros (bench_need m free)) in
      factored_if m n marks free e.reply e store order bench

  abbrev refusal : ℕ → MarkedFactored
  refusal k = marked_factored (refused k) no_problem store order bench

  -- with no mark, the tests of the factoring without marks: 9 is not met where a column is
  last_unmet : (ts : List Test) (k : ℕ) → first_of (ts ++ ((false, k) ∷ [])) ≡ first_of ts
  unfolding first_of
  last_unmet [] k = refl
  last_unmet ((true, j) ∷ ts) k = refl
  last_unmet ((false, j) ∷ ts) k = last_unmet ts k

  tests_unmarked : marks ≡ 0 → first_of tests ≡ first_of unmarked_tests
  tests_unmarked z = by (outside m n) refl
    where
      past : mark_past n marks ≡ false
      past = ap (mark_past n) z ∙ none_past n

      all : free_count (marks_of n marks) ≡ n
      all = ap (λ (x : ℕ). free_count (marks_of n x)) z ∙ none_set n

      by : (b : Bool) → outside m n ≡ b → first_of tests ≡ first_of unmarked_tests
      by true h = test_met (outside m n || mark_past n marks, 2) _ (rw h refl) ∙ sym (test_met (outside m n, 2) _ h)
      by false h =
          let i = inside m n h in
          let s = i.cols_some in
          let e : eqb n 0 ≡ false = ne_eqb n 0 (λ (q : n ≡ 0). absurd (omega arith)) in
          rw (past, all, e, h) (last_unmet _ 9)

  pub factor_refused : (r : Refusal) {a : Reply Ranges} {after : State} → a ≡ refused (refusal_number r) → after ≡ no_problem → refusal_number r ≡ first_of tests
      → marked_factored a after store order bench ≡ marked_factoring m n marks jacobian residuals store order bench
  unfolding marked_factoring plain.factor_call
  factor_refused r {a} {after} ea et e = rw (ea, et) (by (eqb marks 0) refl)
    where
      by : (b : Bool) → eqb marks 0 ≡ b → refusal (refusal_number r) ≡ marked_factoring m n marks jacobian residuals store order bench
      by true z =
          let s = tests_unmarked (eqb-true marks 0 z) in
          ap factored_as (call-refused _ (λ (k : ℕ). plain.factored (refused k) none store order bench) unmarked_tests (refusal_number r) (sym s ∙ sym e) (ne_eqb (refusal_number r) 0 (refusal_number-some r))) ∙ by_no_mark marks tests whole (reduced_for (free_count (marks_of n marks))) refusal (eqb-true marks 0 z)
      by false z = by_refusal marks tests whole (reduced_for (free_count (marks_of n marks))) refusal (eqb-false marks 0 z) e (refusal_number-some r)

  module _ {free : ℕ} (e : 0 ≡ first_of tests) (f : free ≡ free_count (marks_of n marks)) where
    abbrev passed : Factorable m n marks free jacobian residuals
    passed = factorable m n marks jacobian residuals (length store) (length order) (length bench) e f

    abbrev long : Lengths m n (length jacobian) (length residuals) (length store) (length order) (length bench)
    long = long_enough m n marks jacobian residuals (length store) (length order) (length bench) e f

    -- the free columns' factoring, in the lent slices
    abbrev lent : plain.Factored
    lent = plain.factor_worked m free (free_columns m (marks_of n marks) jacobian) residuals store order bench

    pub factor_lent : {b : List Float} {x : Filled} → b ≡ free_columns m (marks_of n marks) jacobian ++ (take m residuals ++ drop (bench_need m free) bench) → x ≡ factor_filled m free store order b
        → x ≡ filled_of lent
    factor_lent {b} eb ex =
        let k = passed.fits in
        let w = need_within n free k in
        let v = area_within m n marks free jacobian residuals passed in
        let ls = long.store_long in
        let lo = long.order_long in
        let lb = long.bench_long in
        ex ∙ filled_worked m n marks free jacobian residuals passed store order bench (omega arith) (omega arith) (omega arith) b eb

    pub factor_whole : {a told : Reply Ranges} {after : State} {s b : List Float} {o : List ℕ} → marks ≡ 0 → told ≡ a → after ≡ state_left m n marks a → filled_as a s o b ≡ filled_of lent
        → marked_factored told after s o b ≡ marked_factoring m n marks jacobian residuals store order bench
    unfolding marked_factoring plain.factor_call
    factor_whole {a} {told} {after} {s} {b} {o} z et ea w =
        let all : free ≡ n = f ∙ (ap (λ (x : ℕ). free_count (marks_of n x)) z ∙ none_set n) in
        let t : free_columns m (marks_of n marks) jacobian ≡ take (m * n) jacobian = ap (λ (x : ℕ). free_columns m (marks_of n x) jacobian) z ∙ columns_whole m n jacobian in
        let v : plain.Factored = plain.factor_worked m n jacobian residuals store order bench in
        let p : lent ≡ v = rw (all, t) (worked_front m n jacobian residuals store order bench) in
        let u : filled_as a s o b ≡ filled_of v = w ∙ ap filled_of p in
        let er : a ≡ v.reply = ap (λ (x : Filled). x.reply) u in
        let d : after ≡ marked 0 v.state = ea ∙ (ap (λ (x : ℕ). state_left m n x a) z ∙ (ap (state_left m n 0) er ∙ sym (worked-state m n jacobian residuals store order bench))) in
        let k : v ≡ plain.factor_call m n jacobian residuals store order bench = call-worked v (λ (k : ℕ). plain.factored (refused k) none store order bench) unmarked_tests (sym (tests_unmarked z) ∙ sym e) in
        rw (et, d)
        (ap (λ (x : Filled). marked_factored x.reply (marked 0 v.state) x.store x.order x.bench) u ∙ (ap factored_as k ∙ by_no_mark marks tests whole (reduced_for (free_count (marks_of n marks))) refusal z))

    pub factor_frozen : {a told : Reply Ranges} {after : State} {s b store' bench' : List Float} {o order' : List ℕ} → (marks ≡ 0 → ⊥) → told ≡ a → after ≡ state_left m n marks a → filled_as a s o b ≡ filled_of lent
        → length s ≡ length store → length o ≡ length order → store' ≡ written (store_left n free a s) s → order' ≡ take free o ++ (count_from (n - free) free ++ drop n o)
        → bench' ≡ take (bench_need m free) b ++ (zeros (bench_need m n - bench_need m free) ++ drop (bench_need m n) b)
        → marked_factored told after store' order' bench' ≡ marked_factoring m n marks jacobian residuals store order bench
    unfolding marked_factoring
    factor_frozen z et ea w ks ko es eo eb =
        rw et
        (frozen_left m n marks free jacobian residuals passed store order bench long.store_long long.order_long w ks ko ea es eo eb
        ∙ (ap reduced_for f ∙ by_working marks tests whole (reduced_for (free_count (marks_of n marks))) refusal z e refl))
