-- 02, #107: a factored problem put away in a small room, and brought back as after factoring. The room holds no state: its owner keeps that beside it.
use Rattle.std.specs.Prelude.{ℕ, zero, suc, ◌+◌, ◌*◌, ◌/◌, min, true, false, not, List, [], ◌∷◌, ◌++◌, eqb, ltb, length, take, drop, Float}
use Rattle.leaves.specs.Reply.{Reply, answered, refused}
use Rattle.leaves.specs.Square.{zeros}
use Rattle.leaves.specs.Tests.{Test, first_of, all_finite}
use Rattle.reduce.specs.Reduced.{flat}
use Rattle.factor.specs.State.{store_need}
use Rattle.factor.specs.Room.{Room, load, lay}
use Rattle.factor.specs.Factoring.{no_lower}
use Rattle.factor.specs.Outcome.{written}
use Rattle.factor.specs.declared.state.Held.TheVariants as held
use Rattle.calls.specs.declared.state.State.{State}
use Rattle.calls.specs.State.{marked_held}
use Rattle.calls.specs.Tests.{marked_room_tests, form_test, free_test}

-- 'the upper triangle, qt_b, column norms go into n(n+1)/2 + 2n doubles'
abbrev pub pack_need : ℕ → ℕ
pack_need n = n * (n + 1) / 2 + 2 * n

-- in that order, the triangle column by column
unfoldable pub packed_of : Room → List Float
packed_of r = flat r.upper ++ (r.qtb ++ r.norms)

-- back: the next k + 1 numbers are a column of R, the k + 2 after them the one that follows it, ..
unfoldable pub triangle_from : ℕ → ℕ → List Float → List (List Float)
triangle_from k zero xs = []
triangle_from k (suc left) xs = take (suc k) xs ∷ triangle_from (suc k) left (drop (suc k) xs)

-- 'leaves the store as after factoring': +0 below R, in l_diag and in work; rest: the surplus of the lent store
unfoldable pub unpacked_room : ℕ → List Float → List Float → Room
unpacked_room n xs rest =
    let after = drop (n * (n + 1) / 2) xs in
    record {
      upper = triangle_from 0 n xs;
      below = no_lower n;
      qtb = take n after;
      norms = take n (drop n after);
      ldiag = zeros n;
      work = zeros n;
      rest = rest;
    }

-- what either call leaves: its answer, its state, and the two slices that it writes
pub record PutAway : Type 0 where
  pub reply : Reply (Unit {0})
  pub state : State
  pub numbers : List Float
  pub places : List ℕ

abbrev pub put_away : Reply (Unit {0}) → State → List Float → List ℕ → PutAway
put_away a st s o = record { reply = a; state = st; numbers = s; places = o }

-- the first n of one list, and the surplus of the other
abbrev pub first_places : ℕ → List ℕ → List ℕ → List ℕ
first_places n from to = take n from ++ drop n to

-- 5, 2, 3 of every slice, 4 of the order list, 9. Packing reads the store alone, of which 01 makes no test 6.
abbrev pub pack_tests : State → ℕ → List ℕ → ℕ → ℕ → List Test
pack_tests st store order room places =
    marked_room_tests st store (min (length order) places)
    ++ ((ltb room (pack_need st.n), 3) ∷ form_test st order ∷ free_test st ∷ [])

unfoldable pub pack_call : State → List Float → List ℕ → List Float → List ℕ → PutAway
pack_call st store order room places =
    let c = first_of (pack_tests st (length store) order (length room) (length places)) in
    elim (eqb c 0) [
      | true ↦ put_away (answered tt) st (written (packed_of (load st.n store)) room) (first_places st.n order places)
      | false ↦ put_away (refused c) st room places
    ]

-- the same of the places that were packed, and 6 for what was packed of numbers; the lent order list is not read
abbrev pub unpack_tests : State → List Float → List ℕ → ℕ → ℕ → List Test
unpack_tests st room places store order =
    marked_room_tests st store (min order (length places))
    ++ ((ltb (length room) (pack_need st.n), 3)
    ∷ form_test st places
    ∷ (not (all_finite (take (pack_need st.n) room)), 6)
    ∷ free_test st
    ∷ [])

-- Held nothing, as after factoring; its marks stay.
unfoldable pub unpack_call : State → List Float → List ℕ → List Float → List ℕ → PutAway
unpack_call st room places store order =
    let c = first_of (unpack_tests st room places (length store) (length order)) in
    elim (eqb c 0) [
      | true ↦ put_away (answered tt) (marked_held st held.Nothing) (lay (unpacked_room st.n room (drop (store_need st.n) store))) (first_places st.n places order)
      | false ↦ put_away (refused c) st store order
    ]
