-- The search as its callers see it, from its tests and its run. Assumes nothing.
use mathlib.Core.Path.{◌≡◌, refl, sym, ap, ◌∙◌}
use mathlib.Core.Bool.{true, false, not}
use mathlib.Core.List.{List, [], ◌∷◌, ◌++◌, append-nil, append_assoc}
use Prim.Native.Nat.{ℕ, ◌-◌, ◌≤◌, ◌+◌, min}
use native.Mathlib.Omega.{arith}
use lib.Dec.{ltb}
use lib.ListN.{length, take, drop, length-append, length-replicate, take-append-drop, drop_of_length-le}
use lib.Seq.{take_all, drop-drop, length-take-le}
use lib.Ieee.{Float}
use borrow.Author.Tests.{ne_eqb, le-ltb}
use Rattle.std.specs.Prelude.{Result, Ok, Err, is_ok}
use Rattle.leaves.specs.Reply.{Reply, answered, refused, reply_of}
use Rattle.leaves.specs.declared.reply.Refusal.{Refusal}
use Rattle.leaves.specs.Number.{plus_zero}
use Rattle.leaves.specs.Norm.{ranges_of}
use Rattle.leaves.specs.declared.norm.Ranges.{Ranges}
use Rattle.factor.specs.State.{with_held, store_need}
use Rattle.factor.specs.Room.{Room, load, lay, emptied}
use Rattle.leaves.specs.Square.{zeros}
use Rattle.factor.specs.Solve.{scatter}
use Rattle.leaves.specs.Tests.{first_of, none_zero}
use Rattle.factor.specs.Tests.{finite_test, finite_number, not_above, below, solve_tests}
use Rattle.factor.specs.Outcome.{Ended, ended, written}
use Rattle.factor.specs.declared.state.State.{State}
use Rattle.factor.specs.declared.state.Held.TheVariants as held
use Rattle.leaves.proofs.Refusals.{passed_iff, call-refused, call-worked, earlier_passed}
use Rattle.factor.proofs.Passed.{solve_passed}
use Rattle.leaves.proofs.Splices.{drop-take}
use Rattle.leaves.specs.declared.lent.Order.{Order}
use Rattle.search.specs.Problem.{Problem, placed}
use Rattle.search.specs.Measured.{measured_by}
use Rattle.search.specs.Search.{Answer, Flagged, answer_of, problem_of, search_tests, searched, search_call}
use Rattle.search.specs.declared.lent.TrustRegion.{TrustRegion}
use Rattle.search.specs.inner.Read.{Ready, with_step, Saw}
use Rattle.search.specs.inner.Asked.{asked}
use Rattle.search.proofs.Shapes.{placed-length, scatter_fresh}

-- ---- with the step written, on an output of exactly n numbers
into_answered : (xs out : List Float) → length xs ≡ length out → xs ≡ written xs out
into_answered xs out h = sym (ap (λ (z : List Float). xs ++ z) (drop_of_length-le out {i = length xs} (omega arith)) ∙ append-nil xs)

pub step_written : (st : State) (s out : List Float) (r : Result Flagged Refusal) (p : List Float) {x : Reply Answer} (all : Ranges) {s' out' : List Float} → is_ok r ≡ true
    → with_step r p ≡ x → Saw r all → s' ≡ s → out' ≡ p → length p ≡ length out → ended (reply_of r) (with_held st held.Nothing) s' out' ≡ searched st s out all x
step_written st s out (Ok a) p all i h g e f l = rw (← h, g, e, f) (ap (λ (z : List Float). ended (answered (a.0, all)) (with_held st held.Nothing) s z) (into_answered p out l))
step_written st s out (Err k) p all i h g e f l = cc

-- ---- the step of an answer, each number at its column
module _ (t : TrustRegion) (w : List Float) (l : length w ≡ t.st.n) where
  pub placed_long : length (placed (asked t) w) ≡ t.st.n
  unfolding placed
  placed_long = placed-length (take t.st.n t.order.places.now) w ∙ l

  pub step_placed : (o : Order) (w' out : List Float) {out' : List Float} → o ≡ t.order → w' ≡ w → length out ≡ t.st.n → out' ≡ scatter (take o.n o.places.now) w' out → out' ≡ placed (asked t) w
  unfolding placed
  step_placed o w' out e f z h =
      let p = solve_passed t.st (length t.store.now) t.order.places.now t.st.n t.ready in
      h ∙ ap (λ (x : Order). scatter (take x.n x.places.now) w' out) e ∙ ap (λ (x : List Float). scatter (take t.order.n t.order.places.now) x out) f
      ∙ ap (λ (k : ℕ). scatter (take k t.order.places.now) w out) t.order_n
      ∙ scatter_fresh t.st.n t.order.places.now w out (zeros (length w)) p.permuted p.order_long l z (length-replicate (length w) plus_zero ∙ l)

-- ---- an output of which the first n were lent
surplus : (n k : ℕ) (out : List Float) → k ≤ n → drop k (take n out) ++ drop n out ≡ drop k out
surplus n k out h =
    let e : n ≡ k + (n - k) = omega arith in
    let d : drop n out ≡ drop (n - k) (drop k out) = ap (λ (j : ℕ). drop j out) e ∙ sym (drop-drop (n - k) k out) in
    rw (drop-take k n out, d) (take-append-drop (n - k) (drop k out))

pub lent_back : (st : State) (n : ℕ) (s out : List Float) (seen : Ranges) (x : Reply Answer) {a : Reply Flagged} {s' o' : List Float} → length o' ≡ n
    → ended a (with_held st held.Nothing) s' o' ≡ searched st s (take n out) seen x → ended a (with_held st held.Nothing) s' (o' ++ drop n out) ≡ searched st s out seen x
lent_back st n s out seen (answered b) {a} {s'} {o'} l h =
    let p = b.1 in
    let o : o' ≡ p ++ drop (length p) (take n out) = ap (λ (z : Ended Flagged). z.out) h in
    let k : length p ≤ n = omega (arith, l, ap length o ∙ length-append p (drop (length p) (take n out))) in
    let w : o' ++ drop n out ≡ written p out = ap (λ (z : List Float). z ++ drop n out) o ∙ append_assoc p (drop (length p) (take n out)) (drop n out) ∙ ap (λ (z : List Float). p ++ z) (surplus n (length p) out k) in
    let r : a ≡ answered (b.0, seen) = ap (λ (z : Ended Flagged). z.reply) h in
    let t : s' ≡ s = ap (λ (z : Ended Flagged). z.store) h in
    rw (w, r, t)
lent_back st n s out seen (refused k) {a} {s'} {o'} l h =
    let o : o' ≡ take n out = ap (λ (z : Ended Flagged). z.out) h in
    let w : o' ++ drop n out ≡ out = ap (λ (z : List Float). z ++ drop n out) o ∙ take-append-drop n out in
    let r : a ≡ refused k = ap (λ (z : Ended Flagged). z.reply) h in
    let t : s' ≡ s = ap (λ (z : Ended Flagged). z.store) h in
    rw (w, r, t)

-- ---- the tests
module _ (st : State) (store : List Float) (order : List ℕ) (diag : List Float) (radius lambda : Float) (out : List Float) {c : ℕ} (e : c ≡ first_of (search_tests st (length store) order diag radius lambda (length out))) where
  pub call_is_refused : (c ≡ 0 → ⊥) → ended (refused c) st store out ≡ search_call st order diag radius lambda store out
  unfolding search_call
  call_is_refused h = call-refused _ (λ k. ended (refused k) st store out) _ c (sym e) (ne_eqb c 0 h)

  module _ (z : c ≡ 0) where
    abbrev short : ℕ
    short = min (length diag) (length out)

    first_passed : first_of (solve_tests st (length store) order short) ≡ 0
    first_passed =
        earlier_passed (solve_tests st (length store) order short)
        (finite_test st diag ∷ finite_number radius ∷ finite_number lambda ∷ (not_above radius, 7) ∷ (below lambda, 7) ∷ (not (none_zero (take st.n diag)), 7) ∷ [])
        refl refl (sym e ∙ z)

    pub few : st.n ≤ 16
    few = (solve_passed st (length store) order short first_passed).room.sizes.cols_few

    pub diag_long : st.n ≤ length diag
    diag_long = omega (arith, (solve_passed st (length store) order short first_passed).room.each_long)

    pub out_long : st.n ≤ length out
    out_long = omega (arith, (solve_passed st (length store) order short first_passed).room.each_long)

    pub ready : Ready st store order
    ready =
        let h = (passed_iff (solve_tests st (length store) order short) refl).0 first_passed in
        let o = solve_passed st (length store) order short first_passed in
        let l : ltb (length store) (store_need st.n) ≡ false = le-ltb (length store) (store_need st.n) o.room.store_long in
        let k : ltb (min (length order) st.n) st.n ≡ false = le-ltb (min (length order) st.n) st.n (omega (arith, o.order_long)) in
        (passed_iff (solve_tests st (length store) order st.n) refl).1 (h.0, (h.1.0, (rw (l, k), (h.1.1.1.0, tt))))

    abbrev searched_of : Problem → Ended Flagged
    searched_of p = searched st (lay (emptied (load st.n store))) out (ranges_of (measured_by p lambda)) (answer_of p lambda)

    pub call_is_run : {x : Ended Flagged} → x ≡ searched_of (problem_of st order (take st.n diag) radius (load st.n store)) → x ≡ search_call st order diag radius lambda store out
    unfolding search_call
    call_is_run h =
        let t : problem_of st order (take st.n diag) radius (load st.n store) ≡ problem_of st order diag radius (load st.n store) =
        rw (take_all st.n (take st.n diag) (omega (arith, length-take-le st.n diag diag_long))) in
        h ∙ ap searched_of t ∙ call-worked _ (λ k. ended (refused k) st store out) _ (sym e ∙ z)
