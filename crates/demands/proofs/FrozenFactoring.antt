-- 01, 'Refusal numbers', with what 02, #108, adds, as a table of factoring with marks: each number but 8 exactly when its condition holds and none that is
-- tested before it, the lent slices then as they came; 8 and an answer exactly when none holds and the factoring of the Jacobian without the frozen columns
-- is refused 8, or answered. Assumes nothing.
use mathlib.Core.Path.{◌≡◌, refl, sym, ap, ◌∙◌, subst}
use mathlib.Core.Bool.{Bool, true, false, not, ◌||◌}
use mathlib.Core.List.{List, ◌++◌}
use mathlib.Core.Logic.{◌↔◌, ◌⊎◌, inl, inr}
use Prim.Native.Nat.{ℕ, ◌*◌, ◌<◌, ◌≤◌}
use native.Mathlib.Nat.{le_refl}
use native.Mathlib.Omega.{arith}
use lib.Dec.{eqb, ltb}
use lib.ListN.{length, take, drop, length-replicate}
use lib.Seq.{length-take-le, take_all}
use lib.Ieee.{Float}
use borrow.Author.Tests.{eqb-true, eqb-false, ltb-false, le-ltb, not-false, not-true}
use Rattle.leaves.specs.Loop.{count_from}
use Rattle.leaves.specs.Number.{plus_zero}
use Rattle.leaves.specs.Refusing.{NoneHold, RefusedBy}
use Rattle.leaves.specs.Reply.{Reply, answered, refused}
use Rattle.leaves.specs.Square.{zeros}
use Rattle.leaves.specs.Tests.{Test, outside, first_of, all_finite}
use Rattle.leaves.specs.declared.norm.Ranges.{Ranges}
use Rattle.leaves.proofs.Folds.{nonzero}
use Rattle.leaves.proofs.Insides.{neither, inside, within}
use Rattle.leaves.proofs.Refusals.{refused_iff, passed_iff}
use Rattle.leaves.proofs.Replies.{answered-refused}
use Rattle.frozen.specs.Frozen.{marks_of, mark_past}
use Rattle.frozen.proofs.Reduces.{marks-length, free_columns-length, free_columns-finite}
use Rattle.factor.specs.Factoring as plain
use Rattle.factor.specs.Factoring.{finite_room}
use Rattle.factor.specs.Outcome.{written}
use Rattle.factor.specs.State.{store_need, bench_need}
use Rattle.factor.specs.State as state
use Rattle.factor.specs.declared.state.State.{State as Plain}
use Rattle.calls.specs.declared.state.State.{State}
use Rattle.calls.specs.State.{no_problem, marked}
use Rattle.calls.specs.Factoring.{MarkedFactored, marked_factored, factored_as, factored_if, marked_factoring}
use Rattle.calls.proofs.Passed.{free_count-fits}
use Rattle.demands.specs.Calls.{reply_number}
use Rattle.demands.specs.Factorings.{room_made}
use Rattle.demands.specs.History.{Call, Outcome}
use Rattle.demands.specs.Marked.{perform_marked, with_marks, refusal_marked}
use Rattle.demands.proofs.AsFresh.{empty-call, refused_empties}
use Rattle.demands.proofs.MarkedForms.{no_marks, factoring_no_marks}
use Rattle.demands.proofs.FactoringTable as table
use Rattle.demands.proofs.TestNumbers.{first_of_lem}
use Rattle.demands.proofs.FrozenFactored.{free, free_jacobian, one, small, tests, factoring-worked, factoring-stopped, factoring_cases}

module _ (m n marks : ℕ) (jacobian residuals s : List Float) (order : List ℕ) (bench : List Float) where
  abbrev few : ℕ
  few = free m n marks jacobian residuals

  abbrev smaller : List Float
  smaller = free_jacobian m n marks jacobian residuals

  abbrev all_tests : List Test
  all_tests = tests m n marks jacobian residuals s order bench

  abbrev small_tests : List Test
  small_tests = plain.factor_tests m few smaller residuals (length (zeros (store_need few))) (length (take few order)) (length (zeros (bench_need m few)))

  -- LAW: a factoring with marks that passes its tests passes those of the one without the frozen columns
  pub small_passes : NoneHold all_tests → NoneHold small_tests
  small_passes h =
      let two = neither (outside m n) (mark_past n marks) h.0 in
      let i = inside m n two.0 in
      let a = neither (ltb (length jacobian) (m * n) || ltb (length residuals) m || ltb (length s) (store_need n) || ltb (length order) n) (ltb (length bench) (bench_need m n)) h.1.0 in
      let b = neither (ltb (length jacobian) (m * n) || ltb (length residuals) m || ltb (length s) (store_need n)) (ltb (length order) n) a.0 in
      let c = neither (ltb (length jacobian) (m * n) || ltb (length residuals) m) (ltb (length s) (store_need n)) b.0 in
      let d = neither (ltb (length jacobian) (m * n)) (ltb (length residuals) m) c.0 in
      let fits = free_count-fits n marks in
      let count = marks-length n marks in
      let some = nonzero few (eqb-false few 0 h.1.1.1.1.0) in
      let ol = ltb-false (length order) n b.1 in
      let jl = ltb-false (length jacobian) (m * n) d.0 in
      let wide : m * length (marks_of n marks) ≤ length jacobian = rw count jl in
      let cl : length smaller ≡ m * few = free_columns-length m (marks_of n marks) jacobian wide in
      let e₁ = le-ltb (length smaller) (m * few) (rw cl (le_refl (m * few))) in
      let e₂ = d.1 in
      let e₃ = le-ltb (length (zeros (store_need few))) (store_need few) (rw (length-replicate (store_need few) plus_zero) (le_refl (store_need few))) in
      let tl : length (take few order) ≡ few = length-take-le few order (omega arith) in
      let e₄ = le-ltb (length (take few order)) few (rw tl (le_refl few)) in
      let e₅ = le-ltb (length (zeros (bench_need m few))) (bench_need m few) (rw (length-replicate (bench_need m few) plus_zero) (le_refl (bench_need m few))) in
      let cf = i.cols_few in
      let f : all_finite (take (m * length (marks_of n marks)) jacobian) ≡ true = rw count (not-false (all_finite (take (m * n) jacobian)) h.1.1.0) in
      let g : take (m * few) smaller ≡ smaller = take_all (m * few) smaller (omega arith) in (
        within m few (record { rows_some = i.rows_some; rows_few = i.rows_few; cols_some = some; cols_few = omega arith }),
        (rw (e₁, e₂, e₃, e₄, e₅), (rw (g, free_columns-finite m (marks_of n marks) jacobian f), (h.1.1.1.0, tt))),
      )

  abbrev given : ℕ
  given = reply_number (one m n marks jacobian residuals s order bench).reply

  abbrev made : plain.Factored
  made = small m n marks jacobian residuals s order bench

  -- R, norms and qt_b of the factoring without the frozen columns are finite
  abbrev stands : Bool
  stands = finite_room (room_made m few smaller residuals (zeros (store_need few)))

  -- ---- with marks
  module _ (some : marks ≡ 0 → ⊥) where
    met_none : NoneHold all_tests → first_of all_tests ≡ 0
    met_none h = (passed_iff all_tests refl).1 h

    none_met : first_of all_tests ≡ 0 → NoneHold all_tests
    none_met e = (passed_iff all_tests refl).0 e

    read_number : (x : Reply Ranges) → reply_number (factored_if m n marks few x made s order bench).reply ≡ reply_number x
    read_number (answered f) = refl
    read_number (refused k) = refl

    worked_number : first_of all_tests ≡ 0 → given ≡ reply_number made.reply
    worked_number e = ap (λ (x : MarkedFactored). reply_number x.reply) (factoring-worked m n marks jacobian residuals s order bench some e) ∙ read_number made.reply

    stopped_number : (first_of all_tests ≡ 0 → ⊥) → given ≡ first_of all_tests
    stopped_number h = ap (λ (x : MarkedFactored). reply_number x.reply) (factoring-stopped m n marks jacobian residuals s order bench some h)

    made_number : first_of all_tests ≡ 0 → (reply_number made.reply ≡ 0) ⊎ (reply_number made.reply ≡ 8)
    made_number e = by stands refl
      where
        h : NoneHold small_tests
        h = small_passes (none_met e)

        by : (b : Bool) → stands ≡ b → (reply_number made.reply ≡ 0) ⊎ (reply_number made.reply ≡ 8)
        by true z = inl ((table.answered_otherwise m few smaller residuals (zeros (store_need few)) (take few order) (zeros (bench_need m few))).1 (h, z))
        by false z = inr ((table.refused_eight m few smaller residuals (zeros (store_need few)) (take few order) (zeros (bench_need m few))).1 (h, z))

    by_number : (P : ℕ → Type 0) → (first_of all_tests ≡ 0 → P (reply_number made.reply)) → ((first_of all_tests ≡ 0 → ⊥) → P (first_of all_tests)) → P given
    by_number P p q = by (eqb (first_of all_tests) 0) refl
      where
        by : (b : Bool) → eqb (first_of all_tests) 0 ≡ b → P given
        by true e = let z = eqb-true (first_of all_tests) 0 e in subst P (sym (worked_number z)) (p z)
        by false e = let z = eqb-false (first_of all_tests) 0 e in subst P (sym (stopped_number z)) (q z)

    tested_other : first_of all_tests ≡ 8 → ⊥
    tested_other = eqb-false (first_of all_tests) 8 (not-true (eqb (first_of all_tests) 8) (first_of_lem (λ (k : ℕ). not (eqb k 8)) refl all_tests refl))

    -- LAW: every number but 8, in the order of the tests; 9 where no column is free
    pub factoring-refused : (k : ℕ) → 0 < k → (k ≡ 8 → ⊥) → (given ≡ k) ↔ RefusedBy all_tests k
    factoring-refused k p q = (
      by_number (λ (g : ℕ). g ≡ k → RefusedBy all_tests k) (λ z e. absurd (apart (made_number z) e)) (λ h e. (refused_iff all_tests k p).0 e),
      λ r. let e = (refused_iff all_tests k p).1 r in stopped_number (λ z. let j = sym e ∙ z in omega arith) ∙ e,
    )
      where
        apart : (reply_number made.reply ≡ 0) ⊎ (reply_number made.reply ≡ 8) → reply_number made.reply ≡ k → ⊥
        apart (inl z) e = let j = sym z ∙ e in omega arith
        apart (inr z) e = q (sym e ∙ z)

    -- LAW: and then the lent slices are as they came, the state empty
    pub factoring_unchanged : (k : ℕ) → 0 < k → RefusedBy all_tests k → one m n marks jacobian residuals s order bench ≡ marked_factored (refused k) no_problem s order bench
    factoring_unchanged k p r =
        let e = (refused_iff all_tests k p).1 r in
        factoring-stopped m n marks jacobian residuals s order bench some (λ z. let j = sym e ∙ z in omega arith) ∙ ap (λ (i : ℕ). marked_factored (refused i) no_problem s order bench) e

    -- LAW: 8, by the factoring without the frozen columns
    pub factoring_eight : (given ≡ 8) ↔ (NoneHold all_tests × (stands ≡ false))
    factoring_eight =
        let t = table.refused_eight m few smaller residuals (zeros (store_need few)) (take few order) (zeros (bench_need m few)) in (
          by_number (λ (g : ℕ). g ≡ 8 → NoneHold all_tests × (stands ≡ false)) (λ z e. (none_met z, (t.0 e).1)) (λ h e. absurd (tested_other e)),
          λ w. worked_number (met_none w.0) ∙ t.1 (small_passes w.0, w.1),
        )

    -- LAW: and then all is as after a factoring without marks that is refused 8
    pub factoring_eight_left : given ≡ 8
        → one m n marks jacobian residuals s order bench ≡ marked_factored (refused 8) no_problem (written (zeros (store_need n)) s) (count_from n 0 ++ drop n order) (written (zeros (bench_need m n)) bench)
    factoring_eight_left h =
        let e = met_none (factoring_eight.0 h).0 in
        factoring-worked m n marks jacobian residuals s order bench some e ∙ ap (λ (x : Reply Ranges). factored_if m n marks few x made s order bench) (by made.reply (sym (worked_number e) ∙ h))
      where
        by : (x : Reply Ranges) → reply_number x ≡ 8 → x ≡ refused 8
        by (answered f) z = absurd (omega arith)
        by (refused k) z = ap refused z

    -- LAW: answered
    pub factoring-answered : (given ≡ 0) ↔ (NoneHold all_tests × (stands ≡ true))
    factoring-answered =
        let t = table.answered_otherwise m few smaller residuals (zeros (store_need few)) (take few order) (zeros (bench_need m few)) in (
          by_number (λ (g : ℕ). g ≡ 0 → NoneHold all_tests × (stands ≡ true)) (λ z e. (none_met z, (t.0 e).1)) (λ h e. absurd (h e)),
          λ w. worked_number (met_none w.0) ∙ t.1 (small_passes w.0, w.1),
        )

  -- ---- a factoring that is refused hands back the empty state, which has no mark
  some-empty : (marks ≡ 0 → ⊥) → (k : ℕ) → (one m n marks jacobian residuals s order bench).reply ≡ refused k → (one m n marks jacobian residuals s order bench).state ≡ no_problem
  some-empty some k = factoring_cases m n marks jacobian residuals s order bench some (λ (o : MarkedFactored). o.reply ≡ refused k → o.state ≡ no_problem) (λ z. by made.reply) (λ h e. refl)
    where
      by : (x : Reply Ranges) → (let o = factored_if m n marks few x made s order bench in o.reply ≡ refused k → o.state ≡ no_problem)
      by (answered f) e = answered-refused e
      by (refused j) e = refl

  none_empty : marks ≡ 0 → (k : ℕ) → (one m n marks jacobian residuals s order bench).reply ≡ refused k → (one m n marks jacobian residuals s order bench).state ≡ no_problem
  none_empty z k h =
      let e : one m n marks jacobian residuals s order bench ≡ factored_as (plain.factor_call m n jacobian residuals s order bench) =
      ap (λ (i : ℕ). marked_factoring m n i jacobian residuals s order bench) z ∙ factoring_no_marks m n jacobian residuals s order bench in
      ap (λ (x : MarkedFactored). x.state) e ∙ ap (λ (x : Plain). marked 0 x) (refused_empties m n jacobian residuals s order bench k (ap (λ (x : MarkedFactored). x.reply) (sym e) ∙ h))

  pub refused-state : (k : ℕ) → (one m n marks jacobian residuals s order bench).reply ≡ refused k → (one m n marks jacobian residuals s order bench).state ≡ no_problem
  refused-state k h = by (eqb marks 0) refl
    where
      by : (b : Bool) → eqb marks 0 ≡ b → (one m n marks jacobian residuals s order bench).state ≡ no_problem
      by true e = none_empty (eqb-true marks 0 e) k h
      by false e = some-empty (eqb-false marks 0 e) k h

  -- LAW: then every call answers 5 and changes nothing
  pub frozen_after_refused : (k : ℕ) → (one m n marks jacobian residuals s order bench).reply ≡ refused k → (c : Call) (o : List ℕ) (t : List Float)
      → perform_marked c (one m n marks jacobian residuals s order bench).state o t ≡ refusal_marked c 5 no_problem t
  frozen_after_refused k h c o t =
      ap (λ (st : State). perform_marked c st o t) (refused-state k h) ∙ no_marks no_problem o t c refl ∙ ap (λ (x : Outcome). with_marks 0 x) (empty-call c state.empty o t refl)
