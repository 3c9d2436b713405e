-- Packing and unpacking as their callers see them, by their tests and by what is worked on the slices. Assumes nothing.
use Prim.Native.Nat.{ℕ, ◌≤◌, ◌<◌, min}
use mathlib.Core.Path.{◌≡◌, refl, sym, ap, ◌∙◌}
use mathlib.Core.List.{List, [], ◌∷◌, ◌++◌}
use native.Mathlib.Omega.{arith}
use lib.ListN.{length, take, drop}
use lib.Seq.{length-take-le}
use lib.Ieee.{Float}
use Rattle.leaves.specs.declared.reply.Refusal.{Refusal}
use Rattle.leaves.specs.Reply.{answered, refused, refusal_number}
use Rattle.leaves.specs.Tests.{Test, first_of}
use Rattle.leaves.proofs.Refusals.{call-worked}
use Rattle.factor.specs.State.{store_need}
use Rattle.factor.specs.Room.{load, lay}
use Rattle.factor.specs.Outcome.{written}
use Rattle.factor.specs.declared.state.Held.TheVariants as held
use Rattle.factor.specs.inner.Rooms.{Sized}
use Rattle.factor.proofs.Answers.{refused_by}
use Rattle.factor.proofs.Lends.{written_first}
use Rattle.calls.specs.declared.state.State.{State}
use Rattle.calls.specs.State.{marked_held}
use Rattle.calls.specs.Tests.{form_test, free_test}
use Rattle.packing.specs.Packing.{pack_need, packed_of, unpacked_room, PutAway, put_away, first_places, pack_tests, pack_call, unpack_tests, unpack_call}
use Rattle.packing.proofs.Lents.{Lent, lent_by, finite_test}
use Rattle.packing.proofs.Layings.{unpacked_front}

-- what is written on is long enough
pub lent_sized : (st : State) (store : List Float) (shortest room : ℕ) → Lent st (length store) shortest room → (0 < st.n) × Sized st.n store
lent_sized st store shortest room p = (p.sizes.cols_some, record { small = p.sizes.cols_few; fits = p.store_long })

pub need_long : (n need : ℕ) (room : List Float) → need ≡ pack_need n → pack_need n ≤ length room → length (take need room) ≡ pack_need n
need_long n need room e h = length-take-le need room (omega arith) ∙ e

-- ---- packing
module _ (st : State) (store : List Float) (order : List ℕ) (room : List Float) (places : List ℕ) where
  abbrev pack_tests_lem : List Test
  pack_tests_lem = pack_tests st (length store) order (length room) (length places)

  abbrev pack-worked : PutAway
  pack-worked = put_away (answered tt) st (written (packed_of (load st.n store)) room) (first_places st.n order places)

  abbrev pack-refusal : ℕ → PutAway
  pack-refusal k = put_away (refused k) st room places

  pub pack-lent : first_of pack_tests_lem ≡ 0 → Lent st (length store) (min (length order) (length places)) (length room)
  pack-lent e = lent_by st (length store) (min (length order) (length places)) (length room) (form_test st order ∷ free_test st ∷ []) refl e

  pub pack-refused : (r : Refusal) → refusal_number r ≡ first_of pack_tests_lem → put_away (refused (refusal_number r)) st room places ≡ pack_call st store order room places
  unfolding pack_call
  pack-refused r e = refused_by pack-worked pack-refusal pack_tests_lem r e

  pub pack_is : first_of pack_tests_lem ≡ 0 → pack-worked ≡ pack_call st store order room places
  unfolding pack_call
  pack_is e = call-worked pack-worked pack-refusal pack_tests_lem e

  pub pack_done : (need : ℕ) (y : List Float) (o : List ℕ) → first_of pack_tests_lem ≡ 0 → need ≡ pack_need st.n → y ≡ packed_of (load st.n store) → length y ≡ length (take need room)
      → o ≡ first_places st.n order places → put_away (answered tt) st (y ++ drop need room) o ≡ pack_call st store order room places
  pack_done need y o e h w l q =
      let p = pack-lent e in
      let k : length y ≡ need = l ∙ (need_long st.n need room h p.room_long ∙ sym h) in
      ap (λ (x : List Float). put_away (answered tt) st x o) (written_first need (packed_of (load st.n store)) room w k)
      ∙ ap (λ (x : List ℕ). put_away (answered tt) st (written (packed_of (load st.n store)) room) x) q
      ∙ pack_is e

-- ---- unpacking
module _ (st : State) (room : List Float) (places : List ℕ) (store : List Float) (order : List ℕ) where
  abbrev unpack_tests_lem : List Test
  unpack_tests_lem = unpack_tests st room places (length store) (length order)

  abbrev unpack-worked : PutAway
  unpack-worked = put_away (answered tt) (marked_held st held.Nothing) (lay (unpacked_room st.n room (drop (store_need st.n) store))) (first_places st.n places order)

  abbrev unpack-refusal : ℕ → PutAway
  unpack-refusal k = put_away (refused k) st store order

  pub unpack-lent : first_of unpack_tests_lem ≡ 0 → Lent st (length store) (min (length order) (length places)) (length room)
  unpack-lent e =
      lent_by st (length store) (min (length order) (length places)) (length room)
      (form_test st places ∷ finite_test st room ∷ free_test st ∷ []) refl e

  pub unpack-refused : (r : Refusal) → refusal_number r ≡ first_of unpack_tests_lem → put_away (refused (refusal_number r)) st store order ≡ unpack_call st room places store order
  unfolding unpack_call
  unpack-refused r e = refused_by unpack-worked unpack-refusal unpack_tests_lem r e

  pub unpack_is : first_of unpack_tests_lem ≡ 0 → unpack-worked ≡ unpack_call st room places store order
  unfolding unpack_call
  unpack_is e = call-worked unpack-worked unpack-refusal unpack_tests_lem e

  pub unpack_done : (need : ℕ) (s : List Float) (o : List ℕ) → first_of unpack_tests_lem ≡ 0 → need ≡ pack_need st.n
      → s ≡ lay (unpacked_room st.n (take need room) (drop (store_need st.n) store)) → o ≡ first_places st.n places order
      → put_away (answered tt) (marked_held st held.Nothing) s o ≡ unpack_call st room places store order
  unpack_done need s o e h w q =
      let u = w ∙ ap lay (unpacked_front st.n room (drop (store_need st.n) store) need (omega arith)) in
      ap (λ (x : List Float). put_away (answered tt) (marked_held st held.Nothing) x o) u
      ∙ ap (λ (x : List ℕ). put_away (answered tt) (marked_held st held.Nothing) (lay (unpacked_room st.n room (drop (store_need st.n) store))) x) q
      ∙ unpack_is e
