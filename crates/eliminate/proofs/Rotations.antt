-- One rotation, and what is ahead of the others, as laws. Assumes nothing.
use mathlib.Core.Path.{◌≡◌, refl, sym, ap, ◌∙◌}
use mathlib.Core.Bool.{Bool, true, false}
use mathlib.Core.List.{List, [], ◌∷◌, ◌++◌, append-nil}
use Prim.Native.Nat.{ℕ, zero, suc, ◌+◌, ◌<◌, ◌≤◌}
use native.Mathlib.Nat.{not-suc-le-zero, le_of_suc-le-suc, le_refl}
use native.Mathlib.Omega.{arith}
use lib.ListN.{length, get_or, take, drop, set, drop_of_length-le}
use lib.Seq.{drop-cons, drop_at, drop-drop, take-suc, take-suc-set, take_all, append_snoc, drop-set-lt, length-take-le}
use lib.Ieee.{Float, nan, binary64, mul, div, eq, lt}
use Rattle.leaves.specs.Number.{plus_zero, abs_of}
use Rattle.leaves.proofs.Folds.{front}
use Rattle.eliminate.specs.Eliminate.{Rows, cons, lesser, by_cot, by_tan, givens, turned, left, turned_all, left_all, rotated}
use Rattle.eliminate.specs.inner.Edges.{up_to}
use Rattle.eliminate.specs.declared.eliminate.Rotation.{Rotation}

-- ---- the rotation, by its test
module _ (r l t c : Float) {b : Float} {q : Bool} (eb : b ≡ abs_of l) (eq : q ≡ lt (abs_of r) b) (ec : c ≡ lesser t) where
  pub by_cot_lem : q ≡ true → t ≡ div binary64 r l → ◌≡◌ {A = Rotation} (record { sin = c; cos = mul binary64 c t }) (givens r l)
  unfolding givens by_cot
  by_cot_lem w e = let v : lt (abs_of r) (abs_of l) ≡ true = ap (lt (abs_of r)) (sym eb) ∙ sym eq ∙ w in rw (ec, e, v, givens)

  pub by_tan_lem : q ≡ false → t ≡ div binary64 l r → ◌≡◌ {A = Rotation} (record { sin = mul binary64 c t; cos = c }) (givens r l)
  unfolding givens by_tan
  by_tan_lem w e = let v : lt (abs_of r) (abs_of l) ≡ false = ap (lt (abs_of r)) (sym eb) ∙ sym eq ∙ w in rw (ec, e, v, givens)

-- ---- two rows turned
pub turned-length : (g : Rotation) (xs ys : List Float) → length xs ≡ length ys → length (turned_all g xs ys) ≡ length xs
unfolding turned_all
turned-length g [] ys h = refl
turned-length g (x ∷ xs) [] h = absurd (omega arith)
turned-length g (x ∷ xs) (y ∷ ys) h = ap suc (turned-length g xs ys (omega arith))

pub left-length : (g : Rotation) (xs ys : List Float) → length xs ≡ length ys → length (left_all g xs ys) ≡ length ys
unfolding left_all
left-length g [] [] h = refl
left-length g [] (y ∷ ys) h = absurd (omega arith)
left-length g (x ∷ xs) [] h = absurd (omega arith)
left-length g (x ∷ xs) (y ∷ ys) h = ap suc (left-length g xs ys (omega arith))

pub turned_at_lem : (g : Rotation) (xs ys : List Float) (i : ℕ) → i < length xs → i < length ys
    → turned g (get_or xs i nan) (get_or ys i nan) ≡ get_or (turned_all g xs ys) i nan
unfolding turned_all
turned_at_lem g [] ys i h k = absurd (not-suc-le-zero h)
turned_at_lem g (x ∷ xs) [] i h k = absurd (not-suc-le-zero k)
turned_at_lem g (x ∷ xs) (y ∷ ys) zero h k = refl
turned_at_lem g (x ∷ xs) (y ∷ ys) (suc i) h k = turned_at_lem g xs ys i (le_of_suc-le-suc h) (le_of_suc-le-suc k)

pub left_at : (g : Rotation) (xs ys : List Float) (i : ℕ) → i < length xs → i < length ys
    → left g (get_or xs i nan) (get_or ys i nan) ≡ get_or (left_all g xs ys) i nan
unfolding left_all
left_at g [] ys i h k = absurd (not-suc-le-zero h)
left_at g (x ∷ xs) [] i h k = absurd (not-suc-le-zero k)
left_at g (x ∷ xs) (y ∷ ys) zero h k = refl
left_at g (x ∷ xs) (y ∷ ys) (suc i) h k = left_at g xs ys i (le_of_suc-le-suc h) (le_of_suc-le-suc k)

-- past the first i nothing is written yet
pub front_at : (zs ys : List Float) (i : ℕ) → i ≤ length zs → get_or (front i zs ys) i nan ≡ get_or ys i nan
front_at zs ys zero h = refl
front_at [] ys (suc i) h = absurd (not-suc-le-zero h)
front_at (z ∷ zs) [] (suc i) h = front_none zs i (le_of_suc-le-suc h)
  where
    front_none : (zs : List Float) (i : ℕ) → i ≤ length zs → get_or (take i zs ++ []) i nan ≡ nan
    front_none zs zero h = refl
    front_none [] (suc i) h = refl
    front_none (z ∷ zs) (suc i) h = front_none zs i (le_of_suc-le-suc h)
front_at (z ∷ zs) (y ∷ ys) (suc i) h = front_at zs ys i (le_of_suc-le-suc h)

-- ---- the row ahead
first_skipped : (row : List Float) (rows : List (List Float)) (b : Float) (bs : List Float) (l : Float) (ls : List Float) (q : Float) → eq l plus_zero ≡ true
    → rotated (row ∷ rows) (b ∷ bs) (l ∷ ls) q ≡ cons row b (rotated rows bs ls q)
unfolding rotated
first_skipped row rows b bs l ls q t = rw (t, rotated)

first_turned : (row : List Float) (rows : List (List Float)) (b : Float) (bs : List Float) (l : Float) (ls : List Float) (q : Float) → eq l plus_zero ≡ false
    → 0 < length row → (let g = givens (get_or row 0 nan) l in
    rotated (row ∷ rows) (b ∷ bs) (l ∷ ls) q ≡ cons (turned_all g row (l ∷ ls)) (turned g b q) (rotated rows bs (drop 1 (left_all g row (l ∷ ls))) (left g b q)))
unfolding rotated turned_all left_all
first_turned [] rows b bs l ls q t h = absurd (not-suc-le-zero h)
first_turned (r ∷ row) rows b bs l ls q t h = rw (t, rotated)

up_to_next : (k : ℕ) (rows : List (List Float)) (bs : List Float) (row : List Float) (b : Float) (x : Rows) → k < length rows → k < length bs
    → up_to (suc k) (set rows k row) (set bs k b) x ≡ up_to k rows bs (cons row b x)
up_to_next k rows bs row b x h u =
    let e : take (suc k) (set rows k row) ++ x.0 ≡ take k rows ++ (row ∷ x.0) = rw (take-suc-set rows k row h) (append_snoc (take k rows) row x.0) in
    let f : take (suc k) (set bs k b) ++ x.1 ≡ take k bs ++ (b ∷ x.1) = rw (take-suc-set bs k b u) (append_snoc (take k bs) b x.1) in
    rw (e, f)

up_to-same : (k : ℕ) (rows : List (List Float)) (bs : List Float) (x : Rows) → k < length rows → k < length bs
    → up_to (suc k) rows bs x ≡ up_to k rows bs (cons (get_or rows k []) (get_or bs k nan) x)
up_to-same k rows bs x h u =
    let e : take (suc k) rows ++ x.0 ≡ take k rows ++ (get_or rows k [] ∷ x.0) = rw (take-suc rows k [] h) (append_snoc (take k rows) (get_or rows k []) x.0) in
    let f : take (suc k) bs ++ x.1 ≡ take k bs ++ (get_or bs k nan ∷ x.1) = rw (take-suc bs k nan u) (append_snoc (take k bs) (get_or bs k nan) x.1) in
    rw (e, f)

module _ (k : ℕ) (rows : List (List Float)) (bs l : List Float) (q : Float) (h : k < length rows) (u : k < length bs) (v : k < length l) where
  -- LAW: a place whose entry is zero
  pub ahead_skipped : eq (get_or l k nan) plus_zero ≡ true
      → up_to (suc k) rows bs (rotated (drop (suc k) rows) (drop (suc k) bs) (drop (suc k) l) q) ≡ up_to k rows bs (rotated (drop k rows) (drop k bs) (drop k l) q)
  ahead_skipped t =
      up_to-same k rows bs _ h u
      ∙ rw (drop-cons rows k [] h, drop-cons bs k nan u, drop-cons l k nan v)
      (ap (up_to k rows bs) (sym (first_skipped (get_or rows k []) (drop (suc k) rows) (get_or bs k nan) (drop (suc k) bs) (get_or l k nan) (drop (suc k) l) q t)))

  -- LAW: a place that is rotated
  pub ahead-turned : eq (get_or l k nan) plus_zero ≡ false → 0 < length (get_or rows k []) → (let g = givens (get_or (get_or rows k []) 0 nan) (get_or l k nan) in
      let new = take k l ++ left_all g (get_or rows k []) (drop k l) in
      let rows' = set rows k (turned_all g (get_or rows k []) (drop k l)) in
      let bs' = set bs k (turned g (get_or bs k nan) q) in
      up_to (suc k) rows' bs' (rotated (drop (suc k) rows') (drop (suc k) bs') (drop (suc k) new) (left g (get_or bs k nan) q))
      ≡ up_to k rows bs (rotated (drop k rows) (drop k bs) (drop k l) q))
  ahead-turned t w =
      let row = get_or rows k [] in
      let g = givens (get_or row 0 nan) (get_or l k nan) in
      let b = get_or bs k nan in
      let z = left_all g row (drop k l) in
      let y = turned_all g row (drop k l) in
      let p : length (take k l) ≡ k = length-take-le k l (omega arith) in
      let d : drop (suc k) (take k l ++ z) ≡ drop 1 z =
      (let e : k + 1 ≡ suc k = omega arith in rw e at (sym (drop-drop 1 k (take k l ++ z)))) ∙ rw (drop_at (take k l) z k p) in
      rw (d, drop-set-lt (suc k) rows k y (le_refl (suc k)), drop-set-lt (suc k) bs k (turned g b q) (le_refl (suc k)))
      (up_to_next k rows bs y (turned g b q) _ h u
      ∙ rw (drop-cons rows k [] h, drop-cons bs k nan u, drop-cons l k nan v)
      (ap (up_to k rows bs) (sym (first_turned row (drop (suc k) rows) b (drop (suc k) bs) (get_or l k nan) (drop (suc k) l) q t w))))

-- LAW: all places done
pub ahead_none : (k : ℕ) (rows : List (List Float)) (bs l : List Float) (q : Float) → length rows ≤ k → length bs ≤ k
    → ◌≡◌ {A = Rows} (up_to k rows bs (rotated (drop k rows) (drop k bs) (drop k l) q)) (rows, bs)
unfolding rotated
ahead_none k rows bs l q h u =
    let e : take k rows ++ [] ≡ rows = rw (take_all k rows h) (append-nil rows) in
    let f : take k bs ++ [] ≡ bs = rw (take_all k bs u) (append-nil bs) in
    rw (drop_of_length-le rows {i = k} h, drop_of_length-le bs {i = k} u, e, f)
