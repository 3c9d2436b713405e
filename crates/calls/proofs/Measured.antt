-- The tests of the calls of module 6, and what is known once they are passed. Assumes nothing.
use mathlib.Core.Path.{◌≡◌, refl, sym, ap, ◌∙◌}
use mathlib.Core.Bool.{Bool, true}
use mathlib.Core.List.{List, [], ◌∷◌, ◌++◌}
use Prim.Native.Nat.{ℕ, ◌≤◌, min}
use native.Mathlib.Nat.{min-eq_left, le_refl}
use native.Mathlib.Omega.{arith}
use lib.Dec.{ltb}
use lib.ListN.{length, take}
use lib.Ieee.{Float}
use borrow.Author.Tests.{ltb-false}
use Rattle.leaves.specs.Reply.{Reply}
use Rattle.leaves.specs.Tests.{Test, first_of}
use Rattle.leaves.specs.declared.norm.Ranges.{Ranges}
use Rattle.leaves.proofs.Refusals.{numbered, passed_iff, went_to}
use Rattle.leaves.proofs.Insides.{neither}
use Rattle.frozen.specs.Frozen.{free_of}
use Rattle.factor.specs.State.{store_need}
use Rattle.factor.specs.Tests.{finite_test, finite_number, not_above, below}
use Rattle.measures.specs.Measures as plain
use Rattle.calls.specs.declared.state.State.{State}
use Rattle.calls.specs.State.{marks_in, cols, whole, without_frozen}
use Rattle.calls.specs.Tests.{marked_room_tests, form_test, marked_solve_tests, free_test}
use Rattle.calls.specs.Outcome.{narrowed_in}
use Rattle.calls.specs.Measures.{marked_above_tests}
use Rattle.calls.proofs.Passed.{Ready, room_ready}

-- ---- a slice is read before it is known whether a column is free
pub room_long : (st : State) (store k : ℕ) (us : List Test) → numbered us ≡ true → first_of (marked_room_tests st store k ++ us) ≡ 0 → st.n ≤ k
room_long st store k us q e =
    let h = (passed_iff (marked_room_tests st store k ++ us) q).0 e in
    ltb-false k st.n (neither (ltb store (store_need st.n)) (ltb k st.n) h.1.1.0).1

-- ---- determined and the rank
abbrev pub rank_tests : State → ℕ → List Test
rank_tests st store = marked_room_tests st store st.n ++ (free_test st ∷ [])

pub rank_ready : (st : State) (store : List Float) → 0 ≡ first_of (rank_tests st (length store)) → Ready st store st.n
rank_ready st store e = room_ready st store st.n [] refl (sym e)

-- ---- the gradient: the order list is the one slice that holds a number for each column
abbrev pub gradient_tests : State → ℕ → List ℕ → Float → List Test
gradient_tests st store order bnorm =
    marked_room_tests st store (length order) ++ (form_test st order ∷ finite_number bnorm ∷ (not_above bnorm, 7) ∷ free_test st ∷ [])

pub gradient_first : (st : State) (store : ℕ) (order : List ℕ) {c : ℕ} → c ≡ first_of (marked_solve_tests st store order (length order))
    → c ≡ first_of (marked_room_tests st store (length order) ++ (form_test st order ∷ []))
gradient_first st store order e = e ∙ rw (min-eq_left (le_refl (length order)))

pub gradient_ready : (st : State) (store : List Float) (order : List ℕ) (bnorm : Float) → 0 ≡ first_of (gradient_tests st (length store) order bnorm) → Ready st store (length order)
gradient_ready st store order bnorm e = room_ready st store (length order) (form_test st order ∷ finite_number bnorm ∷ (not_above bnorm, 7) ∷ []) refl (sym e)

-- ---- the question beside it (02, #105): its own tests, after the order list's
abbrev pub limit_tests : State → Float → Float → List Test
limit_tests st bnorm limit = finite_number bnorm ∷ finite_number limit ∷ (not_above bnorm, 7) ∷ (below limit, 7) ∷ free_test st ∷ []

module _ (st : State) (store : ℕ) (order : List ℕ) (bnorm limit : Float) where
  abbrev pub ordered : List Test
  ordered = marked_room_tests st store (length order) ++ (form_test st order ∷ [])

  pub above_went : {k : ℕ} → 0 ≡ first_of (marked_solve_tests st store order (length order)) → k ≡ first_of (limit_tests st bnorm limit)
      → k ≡ first_of (marked_above_tests st store order bnorm limit)
  above_went e h = went_to ordered (limit_tests st bnorm limit) refl (gradient_first st store order e) refl h

pub above_ready : (st : State) (store : List Float) (order : List ℕ) (bnorm limit : Float) → 0 ≡ first_of (marked_above_tests st (length store) order bnorm limit) → Ready st store (length order)
above_ready st store order bnorm limit e =
    room_ready st store (length order) (form_test st order ∷ finite_number bnorm ∷ finite_number limit ∷ (not_above bnorm, 7) ∷ (below limit, 7) ∷ []) refl (sym e)

-- ---- the norm of Jx
abbrev pub jx_tests : State → ℕ → List ℕ → List Float → List Test
jx_tests st store order x = marked_solve_tests st store order (length x) ++ (finite_test (whole st) x ∷ free_test st ∷ [])

pub jx_ready : (st : State) (store : List Float) (order : List ℕ) (x : List Float) → 0 ≡ first_of (jx_tests st (length store) order x) → Ready st store (min (length order) (length x))
jx_ready st store order x e = room_ready st store (min (length order) (length x)) (form_test st order ∷ finite_test (whole st) x ∷ []) refl (sym e)

pub solve_long : (st : State) (store : ℕ) (order : List ℕ) (k : ℕ) → 0 ≡ first_of (marked_solve_tests st store order k) → st.n ≤ k
solve_long st store order k e = let l = room_long st store (min (length order) k) (form_test st order ∷ []) refl (sym e) in omega arith

-- the working's order list and parameters, as the definition has them
pub gradient_read : (st : State) (store : List Float) (order : List ℕ) (bnorm : Float) {free : ℕ} {r : Reply Float} → free ≡ cols st
    → r ≡ (plain.gradient_call (without_frozen st) (take free order) bnorm (narrowed_in st store)).reply
    → r ≡ (plain.gradient_call (without_frozen st) (take (cols st) order) bnorm (narrowed_in st store)).reply
gradient_read st store order bnorm f h = h ∙ ap (λ (k : ℕ). (plain.gradient_call (without_frozen st) (take k order) bnorm (narrowed_in st store)).reply) f

pub above_read : (st : State) (store : List Float) (order : List ℕ) (bnorm limit : Float) {free : ℕ} {r : Reply Bool} → free ≡ cols st
    → r ≡ (plain.above_call (without_frozen st) (take free order) bnorm limit (narrowed_in st store)).reply
    → r ≡ (plain.above_call (without_frozen st) (take (cols st) order) bnorm limit (narrowed_in st store)).reply
above_read st store order bnorm limit f h = h ∙ ap (λ (k : ℕ). (plain.above_call (without_frozen st) (take k order) bnorm limit (narrowed_in st store)).reply) f

pub jx_read : (st : State) (store : List Float) (order : List ℕ) (x : List Float) {free : ℕ} {xs : List Float} {r : Reply (Float × Ranges)} → free ≡ cols st → xs ≡ free_of (marks_in st) x
    → r ≡ (plain.jx_call (without_frozen st) (take free order) xs (narrowed_in st store)).reply
    → r ≡ (plain.jx_call (without_frozen st) (take (cols st) order) (free_of (marks_in st) x) (narrowed_in st store)).reply
jx_read st store order x {free} f g h =
    h
    ∙ ap (λ (l : List Float). (plain.jx_call (without_frozen st) (take free order) l (narrowed_in st store)).reply) g
    ∙ ap (λ (k : ℕ). (plain.jx_call (without_frozen st) (take k order) (free_of (marks_in st) x) (narrowed_in st store)).reply) f
