-- What packing and unpacking leave of the slices that are lent, once their parts are written. Assumes nothing.
use Prim.Native.Nat.{ℕ, suc, ◌+◌, ◌-◌, ◌*◌, ◌≤◌}
use mathlib.Core.Path.{◌≡◌, sym, ap, ◌∙◌}
use mathlib.Core.List.{List, ◌++◌, append_assoc}
use native.Mathlib.Nat.{zero-add}
use native.Mathlib.Omega.{arith}
use lib.ListN.{length, take, drop, length-append, length-drop, replicate-append-replicate}
use lib.Seq.{drop-drop, take-take, take-add}
use lib.Ieee.{Float}
use Rattle.leaves.specs.Number.{plus_zero}
use Rattle.leaves.specs.Square.{uppers_of, joined, zeros}
use Rattle.leaves.proofs.Overs.{two_parts}
use Rattle.leaves.proofs.Splices.{part_long, drop-take}
use Rattle.reduce.specs.Reduced.{flat}
use Rattle.frozen.proofs.Runs.{two_laid}
use Rattle.factor.specs.State.{store_need}
use Rattle.factor.specs.Room.{Room, part, load, lay}
use Rattle.factor.specs.Factoring.{no_lower}
use Rattle.factor.specs.inner.Rooms.{Sized, Shaped}
use Rattle.factor.proofs.Layouts.{load_shaped, square_upper}
use Rattle.packing.specs.Packing.{pack_need, packed_of, triangle_from, unpacked_room}
use Rattle.packing.proofs.Corners.{triangle, climb_is, Stairs, flat_long, triangle_front}

-- R's columns of a shaped room
pub upper_stairs : (n : ℕ) (r : Room) → Shaped n r → Stairs 0 n r.upper
upper_stairs n r z = record { wide = z.upper_wide; tall = λ k h. z.upper_tall k h ∙ ap suc (sym (zero-add k)) }

pub upper_long : (n : ℕ) (r : Room) → Shaped n r → length (flat r.upper) ≡ triangle n
upper_long n r z = flat_long 0 n r.upper (upper_stairs n r z) ∙ climb_is n

-- ---- packing

-- qt_b and the column norms, side by side
side_by_side : (n : ℕ) (s : List Float) → take (n * n + 2 * n - n * n) (drop (n * n) s) ≡ (load n s).qtb ++ (load n s).norms
unfolding load part
side_by_side n s =
    let e : n * n + 2 * n - n * n ≡ n + n = omega arith in
    let z : n * n + 0 * n ≡ n * n = omega arith in
    let o : n * n + 1 * n ≡ n * n + n = omega arith in
    rw (e, z, o) (take-add n n (drop (n * n) s) ∙ rw (drop-drop n (n * n) s))

pub pack_laid : (n : ℕ) (store room y z : List Float) → Sized n store → length room ≡ pack_need n
    → y ≡ flat (uppers_of n (take (n * n) store)) → z ≡ take (n * n + 2 * n - n * n) (drop (n * n) store)
    → take (triangle n) (y ++ drop (triangle n) room) ++ (z ++ drop (length (y ++ drop (triangle n) room) - triangle n) (drop (triangle n) (y ++ drop (triangle n) room)))
    ≡ packed_of (load n store)
unfolding packed_of
pack_laid n store room y z s l ey ez =
    let u : y ≡ flat (load n store).upper = ey ∙ ap flat (square_upper n store) in
    let w : length (flat (load n store).upper) ≡ triangle n = upper_long n (load n store) (load_shaped n store s) in
    let a : length y ≡ triangle n = ap length u ∙ w in
    let q : length (y ++ drop (triangle n) room) - triangle n ≡ 2 * n = (let x = length-append y (drop (triangle n) room) in let d = length-drop (triangle n) room in omega arith) in
    rw q (two_parts (triangle n) (2 * n) (flat (load n store).upper) ((load n store).qtb ++ (load n store).norms) room y z w l u (ez ∙ side_by_side n store))

-- ---- unpacking

-- of what is unpacked no number past its own is read
part_front : (a n w : ℕ) (xs : List Float) → a + n ≤ w → take n (drop a (take w xs)) ≡ take n (drop a xs)
part_front a n w xs h = rw (drop-take a w xs) (take-take n (w - a) (drop a xs) (omega arith))

module _ (n : ℕ) (xs rest : List Float) where
  pub unpacked_front : (w : ℕ) → pack_need n ≤ w → unpacked_room n (take w xs) rest ≡ unpacked_room n xs rest
  unfolding unpacked_room
  unpacked_front w h =
      let c = climb_is n in
      let t = triangle_front 0 n w xs (omega arith) in
      let q = part_front (triangle n) n w xs (omega arith) in
      let o : take n (drop n (drop (triangle n) (take w xs))) ≡ take n (drop n (drop (triangle n) xs)) = rw (drop-drop n (triangle n) (take w xs), drop-drop n (triangle n) xs) (part_front (triangle n + n) n w xs (omega arith)) in
      rw (t, q, o)

module _ (n : ℕ) (room store : List Float) where
  abbrev once : List Float → List Float
  once y = y ++ drop (n * n) store

  abbrev twice : List Float → List Float → List Float
  twice y z = take (n * n) (once y) ++ (z ++ drop (n * n + 2 * n - n * n) (drop (n * n) (once y)))

  -- qt_b and the column norms
  two_unpacked : length room ≡ pack_need n → take (length room - triangle n) (drop (triangle n) room) ≡ take n (drop (triangle n) room) ++ take n (drop n (drop (triangle n) room))
  two_unpacked l = let e : length room - triangle n ≡ n + n = omega arith in rw e (take-add n n (drop (triangle n) room))

  pub unpack_laid : (y z w : List Float) → Sized n store → length room ≡ pack_need n → length y ≡ n * n
      → y ≡ joined (triangle_from 0 n (take (triangle n) room)) (no_lower n) → z ≡ take (length room - triangle n) (drop (triangle n) room)
      → w ≡ zeros (length (take (n * n + 4 * n - (n * n + 2 * n)) (drop (n * n + 2 * n) (twice y z))))
      → take (n * n + 2 * n) (twice y z) ++ (w ++ drop (n * n + 4 * n - (n * n + 2 * n)) (drop (n * n + 2 * n) (twice y z)))
      ≡ lay (unpacked_room n room (drop (store_need n) store))
  unfolding lay unpacked_room
  unpack_laid y z w s l ly ey ez ew =
      let f = s.fits in
      let after = drop (triangle n) room in
      let p = n * n in
      let q = n * n + 2 * n in
      let e = n * n + 4 * n in
      let k : e - q ≡ 2 * n = omega arith in
      let rest = drop (store_need n) store in
      let v : z ≡ take n after ++ take n (drop n after) = ez ∙ two_unpacked l in
      let lz : length z ≡ 2 * n = ap length ez ∙ (let x = part_long (triangle n) (length room - triangle n) room (omega arith) in omega arith) in
      let a : twice y z ≡ (y ++ z) ++ drop q store = two_laid p q y z store ly (omega arith) in
      let lyz : length (y ++ z) ≡ q = length-append y z ∙ omega arith in
      let b : length (twice y z) ≡ length store = ap length a ∙ (length-append (y ++ z) (drop q store) ∙ (let d = length-drop q store in omega arith)) in
      let x : length (take (e - q) (drop q (twice y z))) ≡ 2 * n = rw k (part_long q (2 * n) (twice y z) (omega arith)) in
      let g : w ≡ zeros (2 * n) = ew ∙ ap zeros x in
      let h : zeros (2 * n) ≡ zeros n ++ zeros n = (let e : 2 * n ≡ n + n = omega arith in ap zeros e ∙ sym (replicate-append-replicate n n plus_zero)) in
      let u : y ≡ joined (triangle_from 0 n room) (no_lower n) = ey ∙ ap (λ (us : List (List Float)). joined us (no_lower n)) (triangle_front 0 n (triangle n) room (let c = climb_is n in omega arith)) in
      let t : take q (twice y z) ++ (w ++ drop (e - q) (drop q (twice y z))) ≡ ((y ++ z) ++ w) ++ rest =
      ap (λ (x : List Float). take q x ++ (w ++ drop (e - q) (drop q x))) a ∙ two_laid q e (y ++ z) w store lyz (omega arith) in
      t ∙ laid_out y z w rest (joined (triangle_from 0 n room) (no_lower n)) (take n after) (take n (drop n after)) (zeros n) (zeros n) u v (g ∙ h)
    where
      laid_out : (y z w rest a b c d e : List Float) → y ≡ a → z ≡ b ++ c → w ≡ d ++ e → ((y ++ z) ++ w) ++ rest ≡ a ++ (b ++ (c ++ (d ++ (e ++ rest))))
      laid_out y z w rest a b c d e p q r =
          rw (p, q, r, append_assoc (a ++ (b ++ c)) (d ++ e) rest, append_assoc a (b ++ c) ((d ++ e) ++ rest), append_assoc b c ((d ++ e) ++ rest), append_assoc d e rest)
