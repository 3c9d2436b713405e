-- 02, #107, demand 3: an unpacking that is answered is a factoring of the packed problem's Jacobian and residuals; and two unpackings of one room are alike,
-- whatever room. Assumes nothing.
use Prim.Native.Nat.{ℕ, ◌≤◌}
use mathlib.Core.Path.{◌≡◌, refl, sym, ap, ◌∙◌, subst}
use mathlib.Core.Bool.{true, false, ◌&&◌, and-eq-true_iff}
use mathlib.Core.List.{List, [], ◌∷◌, ◌++◌}
use native.Mathlib.Omega.{arith}
use lib.ListN.{length, take, drop}
use lib.Ieee.{Float}
use borrow.Author.Tests.{not-false}
use Rattle.leaves.specs.Reply.{answered}
use Rattle.leaves.specs.Tests.{all_finite}
use Rattle.leaves.specs.declared.norm.Ranges.{Ranges}
use Rattle.leaves.proofs.Refusals.{passed_iff}
use Rattle.reduce.specs.Reduced.{flat}
use Rattle.factor.specs.AsFactored.{AsFactored}
use Rattle.factor.specs.Factoring.{all_finite_in}
use Rattle.factor.specs.Room.{Room, load, lay}
use Rattle.factor.specs.State.{is_empty, state_of, store_need}
use Rattle.factor.specs.declared.state.Held.{Held}
use Rattle.factor.specs.declared.state.Held.TheVariants as held
use Rattle.factor.specs.declared.state.State.{State as Plain}
use Rattle.factor.specs.inner.Rooms.{Shaped}
use Rattle.factor.proofs.Layouts.{load-lay, load_shaped}
use Rattle.factor.proofs.Lays.{finite-append}
use Rattle.calls.specs.declared.state.State.{State}
use Rattle.calls.specs.State.{marked, whole}
use Rattle.calls.specs.Factoring.{MarkedFactored, marked_factoring}
use Rattle.packing.specs.Packing.{pack_need, packed_of, unpacked_room, PutAway, put_away, first_places, pack_call, unpack_tests, unpack_call}
use Rattle.packing.proofs.Called.{lent_sized, pack-lent, unpack-lent}
use Rattle.packing.proofs.Packed.{fresh, packed_long, unpacked_packed, laid_long, pack-unpack, unpacked_shaped, placed_first, placed_long, unpack_passed, unpack-left, pack_passed, unpack-pack-same}
use Rattle.demands.specs.Calls.{run, latest}
use Rattle.demands.specs.History.{Call, Outcome}
use Rattle.demands.specs.Alike.{Kept, ToldAlike, SameContents}
use Rattle.demands.specs.Marked.{perform_under, settling_under}
use Rattle.demands.proofs.FrozenHistories.{frozen_never_changed, frozen_any-lent}
use Rattle.demands.proofs.FrozenBoth.{frozen_same-run}
use Rattle.demands.proofs.FrozenAsFresh.{common}
use Rattle.demands.proofs.MadeRooms.{made}

-- ---- finite, all that is packed
flat-finite : (us : List (List Float)) → all_finite (flat us) ≡ all_finite_in us
unfolding flat all_finite_in all_finite
flat-finite [] = refl
flat-finite (u ∷ us) = finite-append u (flat us) ∙ rw (flat-finite us)

packed-finite : (r : Room) → all_finite (packed_of r) ≡ (all_finite_in r.upper && (all_finite r.qtb && all_finite r.norms))
unfolding packed_of
packed-finite r = finite-append (flat r.upper) (r.qtb ++ r.norms) ∙ rw (flat-finite r.upper, finite-append r.qtb r.norms)

-- ---- a factoring, any run of calls, a packing, an unpacking
module _ (m n marks : ℕ) (jacobian residuals store : List Float) (order : List ℕ) (bench : List Float) (cs : List Call) (k : Held) (room : List Float) (places : List ℕ) where
  abbrev one : MarkedFactored
  one = marked_factoring m n marks jacobian residuals store order bench

  abbrev x : Plain × List Float
  x = run (perform_under marks) one.order cs (whole one.state) one.store

  abbrev away : PutAway
  away = pack_call (marked marks (state_of m n k)) x.1 one.order room places

  abbrev kept : Room
  kept = load n x.1

  module _ {f : Ranges} (a : one.reply ≡ answered f) (p : away.reply ≡ answered tt) where
    never : Kept (load n one.store) kept
    never =
        let e : one.state.n ≡ n = ap (λ (z : State). z.n) (made m n marks jacobian residuals store order bench a).state in
        subst (λ (i : ℕ). Kept (load i one.store) (load i x.1)) e (frozen_never_changed marks one.order cs (whole one.state) one.store)

    kept-finite : all_finite (packed_of kept) ≡ true
    kept-finite =
        let w = (made m n marks jacobian residuals store order bench a).as_factored in
        let q = (and-eq-true_iff (all_finite kept.qtb) (all_finite kept.norms)).1 (ap all_finite never.qtb ∙ w.qtb_finite, ap all_finite never.norms ∙ w.norms_finite) in
        packed-finite kept ∙ (and-eq-true_iff (all_finite_in kept.upper) (all_finite kept.qtb && all_finite kept.norms)).1 (ap all_finite_in never.upper ∙ w.upper_finite, q)

    kept_shaped : Shaped n kept
    kept_shaped =
        let st = marked marks (state_of m n k) in
        load_shaped n x.1 (lent_sized st x.1 _ _ (pack-lent st x.1 one.order room places (pack_passed st x.1 one.order room places p))).1

    module _ (j : Held) (lent : List Float) (list : List ℕ) (full : is_empty j ≡ false) (long : store_need n ≤ length lent) (many : n ≤ length list) where
      abbrev back : PutAway
      back = unpack_call (marked marks (state_of m n j)) away.numbers away.places lent list

      abbrev again : Room
      again = fresh n kept (drop (store_need n) lent)

      back_is : back ≡ put_away (answered tt) (marked marks (state_of m n held.Nothing)) (lay again) (first_places n one.order list)
      back_is = unpack-pack-same (marked marks (state_of m n k)) x.1 one.order room places p j lent list full kept-finite long many

      -- LAW
      pub unpacked_answered : back.reply ≡ answered tt
      unpacked_answered = ap (λ (b : PutAway). b.reply) back_is

      again_shaped : Shaped n again
      again_shaped =
          let l = packed_long n kept kept_shaped in
          subst (λ (r : Room). Shaped n r) (unpacked_packed n kept kept_shaped (drop (store_need n) lent)) (unpacked_shaped n (packed_of kept) (drop (store_need n) lent) (omega arith))

      module _ (store' : List Float) (order' : List ℕ) (bench' : List Float) where
        abbrev other : MarkedFactored
        other = marked_factoring m n marks jacobian residuals store' order' bench'

        same_contents : {g : Ranges} → other.reply ≡ answered g → SameContents (state_of m n held.Nothing) (lay again) other.store
        same_contents e =
            let y = (made m n marks jacobian residuals store' order' bench' e).as_factored in
            let s = (made m n marks jacobian residuals store order bench a).state in
            let c = subst (λ (z : Plain). SameContents z one.store other.store) (ap whole s) (common m n marks jacobian residuals store store' order order' bench bench' a e).contents in
            let l = laid_long n again again_shaped in
            let i = load-lay n again again_shaped in
            record {
              long_left = omega arith;
              long_right = c.long_right;
              alike = rw i (record { upper = never.upper ∙ c.alike.upper; qtb = never.qtb ∙ c.alike.qtb; norms = never.norms ∙ c.alike.norms });
              held_alike = rw i (record { below = sym y.below_zero; ldiag = sym y.ldiag_zero });
            }

        -- LAW
        pub unpacked_as_fresh : {g : Ranges} → other.reply ≡ answered g → (ds : List Call) (c : Call)
            → (let y = run (perform_under marks) back.places ds (whole back.state) back.numbers in
            let z = run (perform_under marks) other.order (latest (perform_under marks) back.places (settling_under marks) [] ds (whole back.state) back.numbers) (whole other.state) other.store in
            ToldAlike (perform_under marks c y.0 back.places y.1) (perform_under marks c z.0 other.order z.1))
        unpacked_as_fresh e ds c =
            let w = common m n marks jacobian residuals store store' order order' bench bench' a e in
            let l = w.left_long in
            let o = first_places n one.order list in
            let st = state_of m n held.Nothing in
            let h = frozen_any-lent marks o other.order st (lay again) other.store refl (same_contents e) (placed_long n one.order list l) w.right_long (placed_first n one.order list l ∙ w.same_order) ds c in
            let y = run (perform_under marks) o ds st (lay again) in
            let last = latest (perform_under marks) o (settling_under marks) [] ds st (lay again) in
            let s = (made m n marks jacobian residuals store' order' bench' e).state in
            let there = subst (λ (q : Plain). (let z = run (perform_under marks) other.order last q other.store in
            ToldAlike (perform_under marks c y.0 o y.1) (perform_under marks c z.0 other.order z.1))) (sym (ap whole s)) h in
            subst (λ (b : PutAway). (let y = run (perform_under marks) b.places ds (whole b.state) b.numbers in
            let z = run (perform_under marks) other.order (latest (perform_under marks) b.places (settling_under marks) [] ds (whole b.state) b.numbers) (whole other.state) other.store in
            ToldAlike (perform_under marks c y.0 b.places y.1) (perform_under marks c z.0 other.order z.1))) (sym back_is) there

-- ---- any room: an answered unpacking
module _ (st : State) (room : List Float) (places : List ℕ) (store : List Float) (order : List ℕ) (h : (unpack_call st room places store order).reply ≡ answered tt) where
  abbrev left : Room
  left = unpacked_room st.n room (drop (store_need st.n) store)

  left_shaped : Shaped st.n left
  left_shaped = unpacked_shaped st.n room (drop (store_need st.n) store) (unpack-lent st room places store order (unpack_passed st room places store order h)).room_long

  left_loaded : load st.n (unpack_call st room places store order).numbers ≡ left
  left_loaded = ap (λ (b : PutAway). load st.n b.numbers) (unpack-left st room places store order h) ∙ load-lay st.n left left_shaped

  -- LAW
  pub unpacked_as_factored : AsFactored st.n (load st.n (unpack_call st room places store order).numbers)
  unfolding unpacked_room
  unpacked_as_factored =
      let n = st.n in
      let t = (passed_iff (unpack_tests st room places (length store) (length order)) refl).0 (unpack_passed st room places store order h) in
      let f : all_finite (take (pack_need n) room) ≡ true = not-false (all_finite (take (pack_need n) room)) t.1.1.1.1.1.0 in
      let g = sym (packed-finite left) ∙ (ap all_finite (pack-unpack n room (drop (store_need n) store)) ∙ f) in
      let a = (and-eq-true_iff (all_finite_in left.upper) (all_finite left.qtb && all_finite left.norms)).0 g in
      let b = (and-eq-true_iff (all_finite left.qtb) (all_finite left.norms)).0 a.1 in
      rw left_loaded (record { below_zero = refl; ldiag_zero = refl; work_zero = refl; upper_finite = a.0; qtb_finite = b.0; norms_finite = b.1 })

-- ---- two of one room and its places, with one state
module _ (st : State) (room : List Float) (places : List ℕ) (s t : List Float) (o p : List ℕ) (a : (unpack_call st room places s o).reply ≡ answered tt) (b : (unpack_call st room places t p).reply ≡ answered tt) where
  abbrev first : PutAway
  first = unpack_call st room places s o

  abbrev second : PutAway
  second = unpack_call st room places t p

  abbrev started : Plain
  started = state_of st.m st.n held.Nothing

  numbers_long : (s : List Float) (o : List ℕ) → (unpack_call st room places s o).reply ≡ answered tt → store_need st.n ≤ length (unpack_call st room places s o).numbers
  numbers_long s o h =
      let l = laid_long st.n (left st room places s o h) (left_shaped st room places s o h) in
      subst (λ (z : PutAway). store_need st.n ≤ length z.numbers) (sym (unpack-left st room places s o h)) (omega arith)

  both_unpacked : SameContents started first.numbers second.numbers
  unfolding unpacked_room
  both_unpacked =
      let i = left_loaded st room places s o a in
      let j = left_loaded st room places t p b in
      record {
        long_left = numbers_long s o a;
        long_right = numbers_long t p b;
        alike = rw (i, j) (record { upper = refl; qtb = refl; norms = refl });
        held_alike = rw (i, j) (record { below = refl; ldiag = refl });
      }

  left-state : (s : List Float) (o : List ℕ) → (unpack_call st room places s o).reply ≡ answered tt → whole (unpack_call st room places s o).state ≡ started
  left-state s o h = ap (λ (z : PutAway). whole z.state) (unpack-left st room places s o h)

  left-places : (s : List Float) (o : List ℕ) → (unpack_call st room places s o).reply ≡ answered tt
      → (st.n ≤ length (unpack_call st room places s o).places) × (take st.n (unpack_call st room places s o).places ≡ take st.n places)
  left-places s o h =
      let l = (unpack-lent st room places s o (unpack_passed st room places s o h)).each_long in
      let m : st.n ≤ length places = omega arith in
      subst (λ (z : PutAway). (st.n ≤ length z.places) × (take st.n z.places ≡ take st.n places)) (sym (unpack-left st room places s o h)) (placed_long st.n places o m, placed_first st.n places o m)

  abbrev f : Call → Plain → List ℕ → List Float → Outcome
  f = perform_under st.marks

  -- LAW: a run after the one, and the same after the other
  pub unpacked_same-run : (cs : List Call) (c : Call)
      → (let x = run f first.places cs (whole first.state) first.numbers in
      let y = run f second.places cs (whole second.state) second.numbers in
      ToldAlike (f c x.0 first.places x.1) (f c y.0 second.places y.1))
  unpacked_same-run cs c =
      let lo = left-places s o a in
      let lp = left-places t p b in
      rw (left-state s o a, left-state t p b) (frozen_same-run st.marks first.places second.places cs started first.numbers second.numbers both_unpacked lo.0 lp.0 (lo.1 ∙ sym lp.1) c)

  -- LAW: and the latest of the run that settled
  pub unpacked_any : (cs : List Call) (c : Call)
      → (let x = run f first.places cs (whole first.state) first.numbers in
      let y = run f second.places (latest f first.places (settling_under st.marks) [] cs (whole first.state) first.numbers) (whole second.state) second.numbers in
      ToldAlike (f c x.0 first.places x.1) (f c y.0 second.places y.1))
  unpacked_any cs c =
      let lo = left-places s o a in
      let lp = left-places t p b in
      rw (left-state s o a, left-state t p b) (frozen_any-lent st.marks first.places second.places started first.numbers second.numbers refl both_unpacked lo.0 lp.0 (lo.1 ∙ sym lp.1) cs c)
