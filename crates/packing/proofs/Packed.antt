-- There and back: what is packed comes back as it was, and what is unpacked packs as it came. Assumes nothing.
use Prim.Native.Nat.{ℕ, ◌+◌, ◌*◌, ◌≤◌, min}
use mathlib.Core.Path.{◌≡◌, refl, sym, ap, ◌∙◌}
use mathlib.Core.Bool.{Bool, true, false, not, ◌||◌}
use mathlib.Core.List.{List, [], ◌++◌, append_assoc}
use native.Mathlib.Omega.{arith}
use lib.Dec.{eqb, ltb}
use lib.ListN.{length, take, drop, length-append, length-drop, length-replicate}
use lib.Seq.{length-take-le, take_at, drop_at, take-add, take-take, take-append-le}
use lib.Ieee.{Float}
use borrow.Author.Tests.{eqb-true, le-ltb}
use Rattle.leaves.specs.Number.{plus_zero}
use Rattle.leaves.specs.Reply.{answered, refused}
use Rattle.leaves.specs.Refusing.{NoneHold}
use Rattle.leaves.specs.Square.{joined, zeros}
use Rattle.leaves.specs.Tests.{first_of, all_finite}
use Rattle.leaves.proofs.Joined.{Tall, joined_long}
use Rattle.leaves.proofs.Refusals.{passed_iff}
use Rattle.leaves.proofs.Replies.{refused-answered}
use Rattle.leaves.proofs.Splices.{part_long}
use Rattle.reduce.specs.Reduced.{flat}
use Rattle.factor.specs.State.{is_empty, store_need}
use Rattle.factor.specs.Room.{Room, load, lay}
use Rattle.factor.specs.Factoring.{no_lower}
use Rattle.factor.specs.Outcome.{written}
use Rattle.factor.specs.declared.state.Held.{Held}
use Rattle.factor.specs.declared.state.Held.TheVariants as held
use Rattle.factor.specs.inner.Rooms.{Shaped}
use Rattle.factor.proofs.Layouts.{load-lay, load_shaped}
use Rattle.factor.proofs.Shapes.{lower-wide, lower_tall}
use Rattle.calls.specs.declared.state.State.{State}
use Rattle.calls.specs.State.{marked_held, cols}
use Rattle.calls.specs.Tests.{is_order}
use Rattle.calls.proofs.Passed.{free_count-fits}
use Rattle.packing.specs.Packing.{pack_need, packed_of, unpacked_room, PutAway, put_away, first_places, pack_tests, pack_call, unpack_tests, unpack_call}
use Rattle.packing.proofs.Corners.{triangle, climb_is, flat_triangle, triangle_flat, triangle_stairs}
use Rattle.packing.proofs.Called.{lent_sized, pack-lent, pack_is, unpack-lent, unpack_is}
use Rattle.packing.proofs.Layings.{upper_stairs, upper_long, unpacked_front}

-- ---- of a room

-- R, qt_b and the column norms of r, all else as after factoring
abbrev pub fresh : ℕ → Room → List Float → Room
fresh n r rest = record {
  upper = r.upper;
  below = no_lower n;
  qtb = r.qtb;
  norms = r.norms;
  ldiag = zeros n;
  work = zeros n;
  rest = rest;
}

module _ (n : ℕ) (r : Room) (z : Shaped n r) where
  -- LAW
  pub packed_long : length (packed_of r) ≡ pack_need n
  unfolding packed_of
  packed_long =
      let u = upper_long n r z in
      let q = z.qtb_long in
      let o = z.norms_long in
      let e = length-append r.qtb r.norms in
      length-append (flat r.upper) (r.qtb ++ r.norms) ∙ omega arith

  -- LAW: with anything after the packed numbers
  pub unpacked_packed-more : (more rest : List Float) → unpacked_room n (packed_of r ++ more) rest ≡ fresh n r rest
  unfolding packed_of unpacked_room
  unpacked_packed-more more rest =
      let f = flat r.upper in
      let q = r.qtb in
      let o = r.norms in
      rw (
        append_assoc f (q ++ o) more,
        append_assoc q o more,
        triangle_flat 0 n r.upper (q ++ (o ++ more)) (upper_stairs n r z),
        drop_at f (q ++ (o ++ more)) (triangle n) (upper_long n r z),
        take_at q (o ++ more) n z.qtb_long,
        drop_at q (o ++ more) n z.qtb_long,
        take_at o more n z.norms_long,
      )

  -- LAW
  pub unpacked_packed : (rest : List Float) → unpacked_room n (packed_of r) rest ≡ fresh n r rest
  unpacked_packed rest =
      sym (ap (λ (xs : List Float). unpacked_room n xs rest) (take_at (packed_of r) [] (pack_need n) packed_long))
      ∙ (unpacked_front n (packed_of r ++ []) rest (pack_need n) (omega arith) ∙ unpacked_packed-more [] rest)

  fresh_tall : Tall n 0 r.upper r.below
  fresh_tall =
      let w = z.upper_wide in
      record {
        fits = omega arith;
        wide = z.upper_wide ∙ sym z.below_wide;
        uppers = λ k h. z.upper_tall k (omega arith) ∙ omega arith;
        belows = λ k h. z.below_tall k (omega arith) ∙ omega arith;
      }

  pub laid_long : length (lay r) ≡ store_need n + length r.rest
  unfolding lay
  laid_long =
      let w = z.upper_wide in
      let s : length (joined r.upper r.below) ≡ n * n = joined_long n 0 r.upper r.below fresh_tall ∙ rw w in
      let a = z.qtb_long in
      let b = z.norms_long in
      let c = z.ldiag_long in
      let d = z.work_long in
      simp length-append (omega arith)

module _ (n : ℕ) (xs rest : List Float) where
  -- LAW: whatever the numbers, and how many
  pub pack-unpack : packed_of (unpacked_room n xs rest) ≡ take (pack_need n) xs
  unfolding packed_of unpacked_room
  pack-unpack =
      let after = drop (triangle n) xs in
      let e : pack_need n ≡ triangle n + (n + n) = omega arith in
      rw (flat_triangle 0 n xs, climb_is n, e) (sym (take-add (triangle n) (n + n) xs ∙ ap (λ (l : List Float). take (triangle n) xs ++ l) (take-add n n after)))

  -- LAW: for any n
  pub unpacked_shaped : pack_need n ≤ length xs → Shaped n (unpacked_room n xs rest)
  unfolding unpacked_room
  unpacked_shaped h =
      let c = climb_is n in
      let s = triangle_stairs 0 n xs (omega arith) in
      let d = length-drop (triangle n) xs in
      record {
        upper_wide = s.wide;
        upper_tall = λ k l. s.tall k l ∙ omega arith;
        below_wide = lower-wide n;
        below_tall = lower_tall n;
        qtb_long = part_long (triangle n) n xs (omega arith);
        norms_long = part_long n n (drop (triangle n) xs) (omega arith);
        ldiag_long = length-replicate n plus_zero;
        work_long = length-replicate n plus_zero;
      }

-- ---- of the calls

-- an answer comes of the first of two outcomes where the second is a refusal
by_first : (b : Bool) (x y : PutAway) (k : ℕ) → y.reply ≡ refused k → (let z : PutAway = elim b [ true ↦ x | false ↦ y ] in z.reply ≡ answered tt → b ≡ true)
by_first true x y k r h = refl
by_first false x y k r h = refused-answered (sym r ∙ h)

-- the first n of a list of places, and how they are read
module _ (n : ℕ) (from to : List ℕ) (l : n ≤ length from) where
  pub placed_first : take n (first_places n from to) ≡ take n from
  placed_first = take_at (take n from) (drop n to) n (length-take-le n from l)

  placed_again : (more : List ℕ) → first_places n (first_places n from to) more ≡ first_places n from more
  placed_again more = ap (λ (p : List ℕ). p ++ drop n more) placed_first

  placed-ordered : (free : ℕ) → free ≤ n → is_order free n (first_places n from to) ≡ is_order free n from
  placed-ordered free h =
      let t : take free (first_places n from to) ≡ take free from = (let k = length-take-le n from l in take-append-le free (take n from) (drop n to) (omega arith) ∙ take-take free n from h) in
      rw (t, placed_first)

  pub placed_long : n ≤ length (first_places n from to)
  placed_long = let k = length-take-le n from l in let e = length-append (take n from) (drop n to) in omega arith

-- a test of two lengths that are long enough
both_long : (a b c d : ℕ) → b ≤ a → d ≤ c → (ltb a b || ltb c d) ≡ false
both_long a b c d h k = rw (le-ltb a b h, le-ltb c d k)

written_need : (n : ℕ) (xs room : List Float) → length xs ≡ pack_need n → written xs room ≡ xs ++ drop (pack_need n) room
written_need n xs room h = rw h

module _ (st : State) (room : List Float) (places : List ℕ) (store : List Float) (order : List ℕ) (h : (unpack_call st room places store order).reply ≡ answered tt) where
  abbrev unpacked : PutAway
  unpacked = unpack_call st room places store order

  abbrev back : Room
  back = unpacked_room st.n room (drop (store_need st.n) store)

  pub unpack_passed : first_of (unpack_tests st room places (length store) (length order)) ≡ 0
  unfolding unpack_call
  unpack_passed = eqb-true _ 0 (by_first (eqb (first_of (unpack_tests st room places (length store) (length order))) 0) _ _ _ refl h)

  pub unpack-left : unpacked ≡ put_away (answered tt) (marked_held st held.Nothing) (lay back) (first_places st.n places order)
  unpack-left = sym (unpack_is st room places store order unpack_passed)

  -- LAW: packing what was unpacked gives the same doubles and places, whatever is held
  pub pack-unpack-same : (k : Held) (room₂ : List Float) (places₂ : List ℕ) → is_empty k ≡ false → pack_need st.n ≤ length room₂ → st.n ≤ length places₂
      → pack_call (marked_held st k) unpacked.numbers unpacked.places room₂ places₂
      ≡ put_away (answered tt) (marked_held st k) (take (pack_need st.n) room ++ drop (pack_need st.n) room₂) (first_places st.n places places₂)
  pack-unpack-same k room₂ places₂ full wide many =
      let n = st.n in
      let p = unpack-lent st room places store order unpack_passed in
      let l : n ≤ length places = (let a = p.each_long in omega arith) in
      let s : Shaped n back = unpacked_shaped n room (drop (store_need n) store) p.room_long in
      let q = first_places n places order in
      let x = (passed_iff (unpack_tests st room places (length store) (length order)) refl).0 unpack_passed in
      let u = laid_long n back s in
      let v = placed_long n places order l in
      let none : NoneHold (pack_tests (marked_held st k) (length (lay back)) q (length room₂) (length places₂)) = (
        full,
        (
          x.1.0,
          (
            both_long (length (lay back)) (store_need n) (min (length q) (length places₂)) n (omega arith) (omega arith),
            (
              le-ltb (length room₂) (pack_need n) wide,
              (
                ap not (placed-ordered n places order l (cols st) (free_count-fits n st.marks)) ∙ x.1.1.1.1.0,
                (x.1.1.1.1.1.1.0, tt),
              ),
            ),
          ),
        ),
      ) in
      let e = (passed_iff (pack_tests (marked_held st k) (length (lay back)) q (length room₂) (length places₂)) refl).1 none in
      let t : packed_of (load n (lay back)) ≡ take (pack_need n) room = ap packed_of (load-lay n back s) ∙ pack-unpack n room (drop (store_need n) store) in
      let w : written (packed_of (load n (lay back))) room₂ ≡ take (pack_need n) room ++ drop (pack_need n) room₂ =
      ap (λ (y : List Float). written y room₂) t ∙ written_need n (take (pack_need n) room) room₂ (length-take-le (pack_need n) room p.room_long) in
      ap (λ (y : PutAway). pack_call (marked_held st k) y.numbers y.places room₂ places₂) unpack-left
      ∙ (sym (pack_is (marked_held st k) (lay back) q room₂ places₂ e)
      ∙ (ap (λ (y : List Float). put_away (answered tt) (marked_held st k) y (first_places n q places₂)) w
      ∙ ap (λ (y : List ℕ). put_away (answered tt) (marked_held st k) (take (pack_need n) room ++ drop (pack_need n) room₂) y) (placed_again n places order l places₂)))

module _ (st : State) (store : List Float) (order : List ℕ) (room : List Float) (places : List ℕ) (h : (pack_call st store order room places).reply ≡ answered tt) where
  abbrev packed : PutAway
  packed = pack_call st store order room places

  abbrev kept : Room
  kept = load st.n store

  pub pack_passed : first_of (pack_tests st (length store) order (length room) (length places)) ≡ 0
  unfolding pack_call
  pack_passed = eqb-true _ 0 (by_first (eqb (first_of (pack_tests st (length store) order (length room) (length places))) 0) _ _ _ refl h)

  pub pack-left : packed ≡ put_away (answered tt) st (written (packed_of kept) room) (first_places st.n order places)
  pack-left = sym (pack_is st store order room places pack_passed)

  -- LAW: of finite numbers, unpacking what was packed leaves the store as after factoring and nothing held, whatever is held and lent
  pub unpack-pack-same : (k : Held) (store₂ : List Float) (order₂ : List ℕ) → is_empty k ≡ false → all_finite (packed_of kept) ≡ true → store_need st.n ≤ length store₂ → st.n ≤ length order₂
      → unpack_call (marked_held st k) packed.numbers packed.places store₂ order₂
      ≡ put_away (answered tt) (marked_held st held.Nothing) (lay (fresh st.n kept (drop (store_need st.n) store₂))) (first_places st.n order order₂)
  unpack-pack-same k store₂ order₂ full finite long many =
      let n = st.n in
      let p = pack-lent st store order room places pack_passed in
      let l : n ≤ length order = (let a = p.each_long in omega arith) in
      let s : Shaped n kept = load_shaped n store (lent_sized st store (min (length order) (length places)) (length room) p).1 in
      let q = first_places n order places in
      let xs = packed_of kept in
      let ys = written xs room in
      let rest = drop (store_need n) store₂ in
      let m = packed_long n kept s in
      let x = (passed_iff (pack_tests st (length store) order (length room) (length places)) refl).0 pack_passed in
      let v = placed_long n order places l in
      let g : pack_need n ≤ length ys = (let e = length-append xs (drop (length xs) room) in omega arith) in
      let f : not (all_finite (take (pack_need n) ys)) ≡ false = ap (λ (b : List Float). not (all_finite b)) (take_at xs (drop (length xs) room) (pack_need n) m) ∙ ap not finite in
      let none : NoneHold (unpack_tests (marked_held st k) ys q (length store₂) (length order₂)) = (
        full,
        (
          x.1.0,
          (
            both_long (length store₂) (store_need n) (min (length order₂) (length q)) n long (omega arith),
            (
              le-ltb (length ys) (pack_need n) g,
              (
                ap not (placed-ordered n order places l (cols st) (free_count-fits n st.marks)) ∙ x.1.1.1.1.0,
                (f, (x.1.1.1.1.1.0, tt)),
              ),
            ),
          ),
        ),
      ) in
      let e = (passed_iff (unpack_tests (marked_held st k) ys q (length store₂) (length order₂)) refl).1 none in
      ap (λ (y : PutAway). unpack_call (marked_held st k) y.numbers y.places store₂ order₂) pack-left
      ∙ (sym (unpack_is (marked_held st k) ys q store₂ order₂ e)
      ∙ (ap (λ (y : Room). put_away (answered tt) (marked_held st held.Nothing) (lay y) (first_places n q order₂)) (unpacked_packed-more n kept s (drop (length xs) room) rest)
      ∙ ap (λ (y : List ℕ). put_away (answered tt) (marked_held st held.Nothing) (lay (fresh n kept rest)) y) (placed_again n order places l order₂)))
