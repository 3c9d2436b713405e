-- The damped solve: what its tests tell, and the call by its marks and its tests. Assumes nothing.
use mathlib.Core.Path.{◌≡◌, refl, sym, ap, ◌∙◌}
use mathlib.Core.Bool.{true, false}
use mathlib.Core.List.{List, [], ◌∷◌, ◌++◌}
use Prim.Native.Nat.{ℕ, ◌≤◌, min}
use native.Mathlib.Omega.{arith}
use lib.Dec.{ltb}
use lib.ListN.{length, take}
use lib.Ieee.{Float}
use borrow.Author.Tests.{ltb-false}
use Rattle.leaves.specs.declared.reply.Refusal.{Refusal}
use Rattle.leaves.specs.Reply.{refused, refusal_number}
use Rattle.leaves.proofs.Replies.{refusal_number-some}
use Rattle.leaves.specs.Square.{zeros}
use Rattle.leaves.specs.Tests.{Test, first_of, all_finite}
use Rattle.leaves.proofs.Refusals.{went_to, past, test_met, passed_iff}
use Rattle.leaves.proofs.Insides.{neither}
use Rattle.frozen.specs.Frozen.{free_of}
use Rattle.factor.specs.State.{store_need}
use Rattle.factor.specs.Room.{load, lay, leaving}
use Rattle.factor.specs.Solve.{padded}
use Rattle.factor.specs.Solves as unmarked
use Rattle.factor.specs.Tests.{finite_test}
use Rattle.calls.specs.declared.state.State.{State}
use Rattle.calls.specs.State.{marks_in, cols, whole, without_frozen}
use Rattle.calls.specs.Tests.{form_test, marked_solve_tests, free_test}
use Rattle.calls.specs.Outcome.{MarkedEnded, marked_ended, ended_as, narrowed_in, widened, widened_store, widened_by}
use Rattle.calls.specs.Solves.{marked_damped}
use Rattle.calls.proofs.Passed.{Ready, room_ready, by_no_mark, by_refusal, by_working}

-- ---- 6 for the diagonal, then 9, after the tests of every solve
module _ (st : State) (diag : List Float) (order : List ℕ) (s o : ℕ) {j : ℕ} (m : j ≡ min (length diag) o) where
  abbrev pub tests : List Test
  tests = marked_solve_tests st s order (min (length diag) o)

  abbrev pub further : List Test
  further = finite_test (whole st) diag ∷ free_test st ∷ []

  pub tested : {c : ℕ} → c ≡ first_of (marked_solve_tests st s order j) → c ≡ first_of tests
  tested e = e ∙ ap (λ (k : ℕ). first_of (marked_solve_tests st s order k)) m

  pub diag_long : 0 ≡ first_of (marked_solve_tests st s order j) → st.n ≤ length diag
  diag_long e =
      let h = (passed_iff tests refl).0 (sym (tested e)) in
      let k : ℕ = min (length order) (min (length diag) o) in
      let l : st.n ≤ k = ltb-false k st.n (neither (ltb s (store_need st.n)) (ltb k st.n) h.1.1.0).1 in
      omega arith

  pub damped_unfit : 0 ≡ first_of (marked_solve_tests st s order j) → all_finite (take st.n diag) ≡ false → 6 ≡ first_of (tests ++ further)
  damped_unfit e b = went_to tests further refl (tested e) refl (sym (test_met (finite_test (whole st) diag) (free_test st ∷ []) (rw b)))

  pub damped_passed : {k : ℕ} → 0 ≡ first_of (marked_solve_tests st s order j) → all_finite (take st.n diag) ≡ true → k ≡ first_of (free_test st ∷ []) → k ≡ first_of (tests ++ further)
  damped_passed e b h = went_to tests further refl (tested e) refl (past (finite_test (whole st) diag) (free_test st ∷ []) (rw b) h)

-- ---- a lent problem whose tests are passed, its free columns counted
pub record Lent (st : State) (diag : List Float) (order : List ℕ) (store out : List Float) (free : ℕ) : Type 0 where
  pub ready : Ready st store (min (length order) (min (length diag) (length out)))
  pub counted : free ≡ cols st
  pub order_fits : st.n ≤ length order
  pub diag_fits : st.n ≤ length diag
  pub out_fits : st.n ≤ length out

-- ---- the call by its marks and its tests
module _ (st : State) (diag : List Float) (order : List ℕ) (store out : List Float) where
  abbrev shortest : ℕ
  shortest = min (length order) (min (length diag) (length out))

  abbrev all_tests : List Test
  all_tests = marked_solve_tests st (length store) order (min (length diag) (length out)) ++ (finite_test (whole st) diag ∷ free_test st ∷ [])

  abbrev without : MarkedEnded (Unit {0})
  without = ended_as st (unmarked.damped_call (whole st) diag order store out)

  abbrev working : List Float → List ℕ → List Float → MarkedEnded (Unit {0})
  working ds o x = widened_by st store out (unmarked.damped_call (without_frozen st) ds o (narrowed_in st store) x)

  abbrev worked : MarkedEnded (Unit {0})
  worked = working (free_of (marks_in st) diag) (take (cols st) order) (zeros (cols st))

  abbrev refusal : ℕ → MarkedEnded (Unit {0})
  refusal k = marked_ended (refused k) st store out

  pub call-unmarked : {t : MarkedEnded (Unit {0})} → st.marks ≡ 0 → t ≡ without → t ≡ marked_damped st diag order store out
  unfolding marked_damped
  call-unmarked m h = h ∙ by_no_mark st.marks all_tests without worked refusal m

  pub call-stopped : (r : Refusal) → (st.marks ≡ 0 → ⊥) → refusal_number r ≡ first_of all_tests → refusal (refusal_number r) ≡ marked_damped st diag order store out
  unfolding marked_damped
  call-stopped r m e = by_refusal st.marks all_tests without worked refusal m e (refusal_number-some r)

  module _ (e : 0 ≡ first_of all_tests) where
    ready : Ready st store shortest
    ready = room_ready st store shortest (form_test st order ∷ finite_test (whole st) diag ∷ []) refl (sym e)

    pub passed : {free : ℕ} → free ≡ cols st → Lent st diag order store out free
    passed f =
        let l = ready.each_long in
        record { ready = ready; counted = f; order_fits = omega arith; diag_fits = omega arith; out_fits = omega arith }

    pub call-worked : {free : ℕ} {ds : List Float} {t : MarkedEnded (Unit {0})} → (st.marks ≡ 0 → ⊥) → free ≡ cols st → ds ≡ free_of (marks_in st) diag
        → t ≡ working ds (take free order) (zeros (cols st)) → t ≡ marked_damped st diag order store out
    unfolding marked_damped
    call-worked {free} m f g h =
        h ∙ ap (λ (l : List Float). working l (take free order) (zeros (cols st))) g
        ∙ ap (λ (k : ℕ). working (free_of (marks_in st) diag) (take k order) (zeros (cols st))) f
        ∙ by_working st.marks all_tests without worked refusal m e refl

-- the store after the widening of the first need numbers of a room
pub widened-first : (st : State) (small store : List Float) {free need : ℕ} {s : List Float} → free ≡ cols st → need ≡ store_need free
    → s ≡ lay (leaving (widened st.n (load free (take need small)).below) (padded st.n (load free (take need small)).ldiag) (load st.n store))
    → s ≡ widened_store st (take (store_need free) small) store
widened-first st small store {need = need} f e h =
    h ∙ ap (λ (k : ℕ). lay (leaving (widened st.n (load k (take need small)).below) (padded st.n (load k (take need small)).ldiag) (load st.n store))) f
    ∙ ap (λ (k : ℕ). widened_store st (take k small) store) e
