-- The held calls, place by place. Assumes nothing.
use mathlib.Core.Path.{◌≡◌, sym, ap, ◌∙◌}
use mathlib.Core.List.{List, [], ◌∷◌, ◌++◌, append-nil}
use Prim.Native.Nat.{ℕ, suc, ◌+◌, ◌-◌, ◌*◌, ◌<◌, ◌≤◌}
use native.Mathlib.Nat.{le_refl, le_step}
use native.Mathlib.Numerals.{add-one}
use native.Mathlib.Omega.{arith}
use lib.ListN.{length, get_or, take, drop, set, length-set, length-drop, length-append, length-map, drop_of_length-le, take-append-drop}
use lib.Seq.{drop-cons, take_all, take-take, take_at, drop_at, take-suc-set, drop-set-lt, append_snoc, length-take-le}
use lib.Ieee.{Float, nan, binary64, add, sub, mul, div, neg}
use Rattle.leaves.specs.Vector.{dot_of, axpy_all}
use Rattle.leaves.specs.Square.{uppers_of, belows_of}
use Rattle.factor.specs.Held.{forward_upper, forward_lower, mul_upper, mul_lower}
use Rattle.leaves.proofs.Squares.{upper_at, upper_long, upper-cell, uppers_of-length}
use Rattle.leaves.proofs.Fronts.{map_at}
use Rattle.factor.proofs.Backs.{below_is}
use Rattle.leaves.specs.inner.Squares.{Square}

-- ---- forward with R
forward-cons : (xs c : List Float) (cs : List (List Float)) (b : Float) (bs : List Float) (k : ℕ) → length xs ≡ k
    → forward_upper xs (c ∷ cs) (b ∷ bs) ≡ forward_upper (xs ++ (div binary64 (sub binary64 b (dot_of xs (take k c))) (get_or c k nan) ∷ [])) cs bs
unfolding forward_upper
forward-cons xs c cs b bs k e = rw e

-- what is put at place j of w
abbrev pub forwarded : List (List Float) → List Float → ℕ → Float
forwarded us w j = div binary64 (sub binary64 (get_or w j nan) (dot_of (take j w) (take j (get_or us j [])))) (get_or (get_or us j []) j nan)

pub forward_turn : (us : List (List Float)) (w : List Float) (j : ℕ) → j < length us → j < length w
    → forward_upper (take (j + 1) (set w j (forwarded us w j))) (drop (j + 1) us) (drop (j + 1) (set w j (forwarded us w j))) ≡ forward_upper (take j w) (drop j us) (drop j w)
forward_turn us w j h g =
    rw (add-one, take-suc-set w j (forwarded us w j) g, drop-set-lt (suc j) w j (forwarded us w j) (le_refl (suc j)), drop-cons us j [] h, drop-cons w j nan g)
    (sym (forward-cons (take j w) (get_or us j []) (drop (suc j) us) (get_or w j nan) (drop (suc j) w) j (length-take-le j w (omega arith))))

pub forward-end : (us : List (List Float)) (w : List Float) (j : ℕ) → length us ≤ j → length w ≤ j → forward_upper (take j w) (drop j us) (drop j w) ≡ w
unfolding forward_upper
forward-end us w j h g = rw (drop_of_length-le us {i = j} h) (take_all j w g)

module _ (n : ℕ) (s : List Float) (q : Square n s) (j : ℕ) (h : j < n) where
  -- the column above the diagonal, as it is lent
  pub above_is : take (j * n + j - j * n) (drop (j * n) s) ≡ take j (get_or (uppers_of n s) j [])
  above_is =
      let e : j * n + j - j * n ≡ j = omega arith in
      rw (e, upper_at n s q j h) (sym (take-take j (suc j) (drop (j * n) s) (le_step (le_refl j))))

  pub forward_law : (w : List Float) (x : Float) → x ≡ dot_of (take j w) (take (j * n + j - j * n) (drop (j * n) s))
      → set w j (div binary64 (sub binary64 (get_or w j nan) x) (get_or s (j * n + j) nan)) ≡ set w j (forwarded (uppers_of n s) w j)
  forward_law w x e = rw (e, above_is, ← upper-cell n s q j h j (le_refl j))

  -- L·q, with R's columns as the rows of L
  pub row_law : (p : List Float) (x : Float) → x ≡ dot_of (take (j + 1) p) (take (j * n + (j + 1) - j * n) (drop (j * n) s)) → x ≡ get_or (mul_upper p (uppers_of n s)) j nan
  unfolding mul_upper
  row_law p x e =
      let a : j + 1 ≡ suc j = add-one j in
      let b : j * n + suc j - j * n ≡ suc j = omega arith in
      let l : j < length (uppers_of n s) = let z = uppers_of-length n s in omega arith in
      e ∙ rw (a, b, ← upper_at n s q j h) (ap (λ (k : ℕ). dot_of (take k p) (get_or (uppers_of n s) j [])) (sym (upper_long n s q j h)))
      ∙ map_at (λ (c : List Float). dot_of (take (length c) p) c) (uppers_of n s) j [] nan l

  -- v at place j, and a times the column under it added below
  pub below_law : (w l : List Float) (v a : Float) → length w ≡ n
      → l ≡ axpy_all a (take (j * n + n - (j * n + (j + 1))) (drop (j * n + (j + 1)) s)) (take (length (set w j v) - (j + 1)) (drop (j + 1) (set w j v)))
      → take (j + 1) (set w j v) ++ (l ++ drop (length (set w j v) - (j + 1)) (drop (j + 1) (set w j v)))
      ≡ take j w ++ (v ∷ axpy_all a (get_or (belows_of n s) j []) (drop (suc j) w))
  below_law w l v a c e =
      let o : j + 1 ≡ suc j = add-one j in
      let b : j * n + n - (j * n + suc j) ≡ n - suc j = omega arith in
      let y : length (set w j v) ≡ n = length-set w j v ∙ c in
      let z : drop (suc j) (set w j v) ≡ drop (suc j) w = drop-set-lt (suc j) w j v (le_refl (suc j)) in
      let t : length (drop (suc j) w) ≡ n - suc j = length-drop (suc j) w ∙ omega arith in
      rw (e, o, b, y, z, ← below_is n s q j h, take_all (n - suc j) (drop (suc j) w) (omega arith), drop_of_length-le (drop (suc j) w) {i = n - suc j} (omega arith), take-suc-set w j v (omega arith))
      (ap (λ (r : List Float). (take j w ++ (v ∷ [])) ++ r) (append-nil (axpy_all a (get_or (belows_of n s) j []) (drop (suc j) w)))
      ∙ append_snoc (take j w) v (axpy_all a (get_or (belows_of n s) j []) (drop (suc j) w)))

pub mul_upper-length : (n : ℕ) (s p : List Float) → length (mul_upper p (uppers_of n s)) ≡ n
unfolding mul_upper
mul_upper-length n s p = length-map (uppers_of n s) (λ (c : List Float). dot_of (take (length c) p) c) ∙ uppers_of-length n s

-- ---- place j done, then the places after it by f
module _ (f : List Float → List Float) where
  place_turn : (w w' r : List Float) (x : Float) (j : ℕ) → j ≤ length w → w' ≡ take j w ++ (x ∷ r)
      → take (j + 1) w' ++ f (drop (j + 1) w') ≡ take j w ++ (x ∷ f r)
  place_turn w w' r x j h e =
      let p : length (take j w) ≡ j = length-take-le j w h in
      let m : length (take j w ++ (x ∷ [])) ≡ suc j = length-append (take j w) (x ∷ []) ∙ omega arith in
      let u : w' ≡ (take j w ++ (x ∷ [])) ++ r = e ∙ sym (append_snoc (take j w) x r) in
      rw (add-one, u, take_at (take j w ++ (x ∷ [])) r (suc j) m, drop_at (take j w ++ (x ∷ [])) r (suc j) m) (append_snoc (take j w) x (f r))

pub lower_turn : (ds : List Float) (ls : List (List Float)) (w w' : List Float) (x : Float) (j : ℕ) → j < length ds → j < length ls → j < length w
    → x ≡ div binary64 (get_or w j nan) (get_or ds j nan) → w' ≡ take j w ++ (x ∷ axpy_all (neg x) (get_or ls j []) (drop (suc j) w))
    → take (j + 1) w' ++ forward_lower (drop (j + 1) ds) (drop (j + 1) ls) (drop (j + 1) w') ≡ take j w ++ forward_lower (drop j ds) (drop j ls) (drop j w)
unfolding forward_lower
lower_turn ds ls w w' x j hd hl hw e f =
    place_turn (λ (b : List Float). forward_lower (drop (j + 1) ds) (drop (j + 1) ls) b) w w' (axpy_all (neg x) (get_or ls j []) (drop (suc j) w)) x j (omega arith) f
    ∙ rw (e, add-one, drop-cons ds j nan hd, drop-cons ls j [] hl, drop-cons w j nan hw)

pub lower-end : (ds : List Float) (ls : List (List Float)) (w : List Float) (j : ℕ) → length ds ≤ j → length w ≤ j
    → take j w ++ forward_lower (drop j ds) (drop j ls) (drop j w) ≡ w
unfolding forward_lower
lower-end ds ls w j h g = rw (drop_of_length-le ds {i = j} h, take_all j w g) (append-nil w)

pub mul_turn : (qs ds : List Float) (ls : List (List Float)) (w w' : List Float) (j : ℕ) → j < length qs → j < length ds → j < length ls → j < length w
    → w' ≡ take j w ++ (add binary64 (get_or w j nan) (mul binary64 (get_or qs j nan) (get_or ds j nan)) ∷ axpy_all (get_or qs j nan) (get_or ls j []) (drop (suc j) w))
    → take (j + 1) w' ++ mul_lower (drop (j + 1) qs) (drop (j + 1) ds) (drop (j + 1) ls) (drop (j + 1) w') ≡ take j w ++ mul_lower (drop j qs) (drop j ds) (drop j ls) (drop j w)
unfolding mul_lower
mul_turn qs ds ls w w' j hq hd hl hw f =
    place_turn (λ (b : List Float). mul_lower (drop (j + 1) qs) (drop (j + 1) ds) (drop (j + 1) ls) b) w w' (axpy_all (get_or qs j nan) (get_or ls j []) (drop (suc j) w)) (add binary64 (get_or w j nan) (mul binary64 (get_or qs j nan) (get_or ds j nan))) j (omega arith) f
    ∙ rw (add-one, drop-cons qs j nan hq, drop-cons ds j nan hd, drop-cons ls j [] hl, drop-cons w j nan hw)

pub mul-end : (qs ds : List Float) (ls : List (List Float)) (w : List Float) (j : ℕ) → length qs ≤ j
    → take j w ++ mul_lower (drop j qs) (drop j ds) (drop j ls) (drop j w) ≡ w
unfolding mul_lower
mul-end qs ds ls w j h = rw (drop_of_length-le qs {i = j} h) (take-append-drop j w)
