-- What is known once the tests are passed, and the form of a list of places among them. Assumes nothing.
use Prim.Native.Nat.{ℕ, ◌≤◌}
use mathlib.Core.Path.{◌≡◌, refl, sym, ◌∙◌}
use mathlib.Core.Bool.{Bool, true, false, not}
use mathlib.Core.List.{List, [], ◌∷◌, ◌++◌}
use native.Mathlib.Omega.{arith}
use lib.Dec.{ltb}
use lib.ListN.{length, take}
use lib.Ieee.{Float}
use borrow.Author.Tests.{ltb-false, le-ltb}
use Rattle.leaves.specs.Tests.{outside, Test, first_of, all_finite}
use Rattle.leaves.proofs.Insides.{neither, Inside, inside, within}
use Rattle.leaves.proofs.Refusals.{numbered, passed_iff, earlier_passed}
use Rattle.frozen.specs.Frozen.{marks_of, mark_past, free_count}
use Rattle.factor.specs.State.{is_empty, store_need}
use Rattle.calls.specs.declared.state.State.{State}
use Rattle.calls.specs.Tests.{marked_room_tests, is_order, form_tests}
use Rattle.packing.specs.Packing.{pack_need}

-- ---- 5, 2 and 3, which both calls test first

abbrev pub lent_tests : State → ℕ → ℕ → ℕ → List Test
lent_tests st store shortest room = marked_room_tests st store shortest ++ ((ltb room (pack_need st.n), 3) ∷ [])

pub record Lent (st : State) (store shortest room : ℕ) : Type 0 where
  pub filled : is_empty st.held ≡ false
  pub sizes : Inside st.m st.n
  pub none_past : mark_past st.n st.marks ≡ false
  pub store_long : store_need st.n ≤ store
  pub each_long : st.n ≤ shortest
  pub room_long : pack_need st.n ≤ room

module _ (st : State) (store shortest room : ℕ) where
  pub lent : first_of (lent_tests st store shortest room) ≡ 0 → Lent st store shortest room
  lent e =
      let h = (passed_iff (lent_tests st store shortest room) refl).0 e in
      let two = neither (outside st.m st.n) (mark_past st.n st.marks) h.1.0 in
      let three = neither (ltb store (store_need st.n)) (ltb shortest st.n) h.1.1.0 in
      record {
        filled = h.0;
        sizes = inside st.m st.n two.0;
        none_past = two.1;
        store_long = ltb-false store (store_need st.n) three.0;
        each_long = ltb-false shortest st.n three.1;
        room_long = ltb-false room (pack_need st.n) h.1.1.1.0;
      }

  -- with later tests
  pub lent_by : (us : List Test) → numbered us ≡ true → first_of (lent_tests st store shortest room ++ us) ≡ 0 → Lent st store shortest room
  lent_by us q e = lent (earlier_passed (lent_tests st store shortest room) us refl q e)

-- 6, of what was packed
abbrev pub finite_test : State → List Float → Test
finite_test st room = (not (all_finite (take (pack_need st.n) room)), 6)

-- ---- 4, once 2 and 3 are passed

-- the last of a list of tests
met_last : (b : Bool) → (first_of ((b, 4) ∷ []) ≡ 0 → ⊥) → b ≡ true
unfolding first_of
met_last true h = refl
met_last false h = absurd (h refl)

passed_last : (b : Bool) → first_of ((b, 4) ∷ []) ≡ 0 → b ≡ false
unfolding first_of
passed_last true h = absurd (omega arith)
passed_last false h = refl

module _ (n marks : ℕ) (order : List ℕ) (i : Inside 1 n) (p : mark_past n marks ≡ false) (l : n ≤ length order) where
  abbrev ordered : Bool
  ordered = is_order (free_count (marks_of n marks)) n order

  form_last : first_of (form_tests n marks order) ≡ first_of ((not ordered, 4) ∷ [])
  unfolding first_of
  form_last = rw (within 1 n i, p, le-ltb (length order) n l)

  pub form_met : (first_of (form_tests n marks order) ≡ 0 → ⊥) → not ordered ≡ true
  form_met h = met_last (not ordered) (λ e. h (form_last ∙ e))

  pub form_passed : first_of (form_tests n marks order) ≡ 0 → not ordered ≡ false
  form_passed e = passed_last (not ordered) (sym form_last ∙ e)
