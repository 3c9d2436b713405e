-- The pivot and the reduction of one column, on a bench by columns. Assumes nothing.
use mathlib.Core.Path.{◌≡◌, refl, sym, ap, ◌∙◌}
use mathlib.Core.Bool.{Bool, true, false, cond}
use mathlib.Core.List.{List, [], ◌∷◌, map}
use Prim.Native.Nat.{ℕ, zero, suc, ◌+◌, ◌*◌, ◌<◌}
use native.Mathlib.Nat.{not-suc-le-zero, le_of_suc-le-suc, le_refl}
use native.Mathlib.Omega.{arith}
use lib.Dec.{eqb}
use lib.ListN.{length, get_or, take, drop, set, length-set, length-map}
use lib.Seq.{get_or-take, get_or-set_same, get_or-set_other, take-set-lt, take-set-le, set-set, set_comm}
use lib.Ieee.{Float, nan, neg, lt, eq}
use borrow.Author.Tests.{eq-eqb, ne_eqb, eqb-true, eqb-false}
use Rattle.leaves.specs.Number.{plus_zero}
use Rattle.leaves.specs.Norm.{norm, either, ranges, ranges_of}
use Rattle.leaves.specs.declared.norm.Ranges.{Ranges}
use Rattle.leaves.proofs.Seen.{either_none, either-more, ranges_of_has}
use Rattle.std.specs.Prelude.{Result, Ok}
use Rattle.leaves.specs.Reply.{answered, reply_of}
use Rattle.leaves.specs.declared.reply.Refusal.{Refusal}
use Rattle.leaves.proofs.Replies.{reply_of-ok}
use Rattle.leaves.specs.Vector.{imax_from, imax_of, imax}
use Rattle.leaves.specs.Triangle.{columns}
use Rattle.leaves.proofs.Folds.{front, front_step, front_end}
use Rattle.leaves.specs.Loop.{between, along_between}
use Rattle.reduce.specs.Reduction.{Reduction, reduction, swap, pivoted, axis_by, reflect_from, later, signed, with_diag, with_rhs, reflected, reduced, measured_later, measured_reflected, measured_at}
use Rattle.reduce.specs.inner.Bench.{swept, moved}
use Rattle.leaves.proofs.Loops.{between_keeps}
use Rattle.leaves.proofs.Grids.{grid_read, grid_write}
use Rattle.reduce.proofs.Begins.{norms_at}

-- ---- imax gives a place
imax-below : (b : ℕ) (v : Float) (i : ℕ) (xs : List Float) → b < i → imax_from b v i xs < i + length xs
unfolding imax_from
imax-below b v i [] h = omega arith
imax-below b v i (x ∷ xs) h = go (lt v x) (λ b' v' k. imax-below b' v' (suc i) xs k)
  where
    go : (c : Bool) → ((b' : ℕ) (v' : Float) → b' < suc i → imax_from b' v' (suc i) xs < suc i + length xs) → imax_from (cond c i b) (cond c x v) (suc i) xs < i + suc (length xs)
    go true f = let r = f i x (omega arith) in omega arith
    go false f = let r = f b v (omega arith) in omega arith

pub imax_place : (v : List Float) → 0 < length v → imax_of v < length v
imax_place [] h = absurd (not-suc-le-zero h)
imax_place (x ∷ xs) h = let r = imax-below 0 x 1 xs (omega arith) in omega arith

pub imax_is : (v : List Float) → 0 < length v → imax v ≡ answered (imax_of v)
unfolding imax
imax_is [] h = absurd (not-suc-le-zero h)
imax_is (x ∷ xs) h = refl

-- so that it is not refused
pub imax_fits : (v : List Float) (r : Result ℕ Refusal) → 0 < length v → reply_of r ≡ imax v → r ≡ Ok (imax_of v)
imax_fits v r h e = reply_of-ok r (e ∙ imax_is v h)

pub imax_told : (v : List Float) (r : Result ℕ Refusal) {k : ℕ} → 0 < length v → reply_of r ≡ imax v → r ≡ Ok k → (k ≡ imax_of v) × (k < length v)
imax_told v r {k = k} h e w =
    let f = imax_fits v r h e in
    let s : k ≡ imax_of v = cc in
    (s, rw s (imax_place v h))

-- ---- two columns exchanged, place by place
-- place i of columns j and k exchanged
unfoldable pub swap_place : ℕ → ℕ → ℕ → List (List Float) → List (List Float)
swap_place j k i g = set (set g j (set (get_or g j []) i (get_or (get_or g k []) i nan))) k (set (get_or g k []) i (get_or (get_or g j []) i nan))

pub swap_place_lem : (m n : ℕ) (s : List Float) (j k i p q : ℕ) → p ≡ j * m + i → q ≡ k * m + i → j < k → k < n → i < m
    → columns m n (set (set s p (get_or s q nan)) q (get_or s p nan)) ≡ swap_place j k i (columns m n s)
unfolding swap_place
swap_place_lem m n s j k i p q ep eq' hj hk hi =
    let g : List (List Float) = columns m n s in
    let x : get_or s p nan ≡ get_or (get_or g j []) i nan = grid_read m n s j i p ep (omega arith) hi in
    let y : get_or s q nan ≡ get_or (get_or g k []) i nan = grid_read m n s k i q eq' hk hi in
    let s₁ : List Float = set s p (get_or s q nan) in
    let e₁ : columns m n s₁ ≡ set g j (set (get_or g j []) i (get_or (get_or g k []) i nan)) = rw y (grid_write m n s j i p (get_or (get_or g k []) i nan) ep (omega arith) hi) in
    let k₁ : get_or (columns m n s₁) k [] ≡ get_or g k [] = rw e₁ (get_or-set_other g j k _ [] (λ (z : k ≡ j). omega arith)) in
    let e₂ : columns m n (set s₁ q (get_or s p nan)) ≡ set (columns m n s₁) k (set (get_or (columns m n s₁) k []) i (get_or s p nan)) = grid_write m n s₁ k i q (get_or s p nan) eq' hk hi in
    e₂ ∙ rw (k₁, x, e₁)

-- the first i places of columns j and k exchanged
abbrev pub fronts : ℕ → ℕ → ℕ → List (List Float) → List (List Float)
fronts j k i g = set (set g j (front i (get_or g k []) (get_or g j []))) k (front i (get_or g j []) (get_or g k []))

front_here : (zs ys : List Float) (i : ℕ) → i < length zs → i < length ys → get_or (front i zs ys) i nan ≡ get_or ys i nan
front_here [] ys i h k = absurd (not-suc-le-zero h)
front_here (z ∷ zs) [] i h k = absurd (not-suc-le-zero k)
front_here (z ∷ zs) (y ∷ ys) zero h k = refl
front_here (z ∷ zs) (y ∷ ys) (suc i) h k = front_here zs ys i (le_of_suc-le-suc h) (le_of_suc-le-suc k)

module _ (j k : ℕ) (g : List (List Float)) (hj : j < k) (hk : k < length g) where
  pub fronts_turn : (i : ℕ) → i < length (get_or g j []) → i < length (get_or g k []) → swap_place j k i (fronts j k i g) ≡ fronts j k (suc i) g
  unfolding swap_place
  fronts_turn i ha hb =
      let a : List Float = get_or g j [] in
      let b : List Float = get_or g k [] in
      let x : List Float = front i b a in
      let y : List Float = front i a b in
      let h : List (List Float) = set (set g j x) k y in
      let at_j : get_or h j [] ≡ x = get_or-set_other (set g j x) k j y [] (λ (z : j ≡ k). omega arith) ∙ get_or-set_same g j x [] (omega arith) in
      let at-k : get_or h k [] ≡ y = get_or-set_same (set g j x) k y [] (simp length-set hk) in
      let new-j : set x i (get_or b i nan) ≡ front (suc i) b a = front_step b a i hb ha in
      let new-k : set y i (get_or a i nan) ≡ front (suc i) a b = front_step a b i ha hb in
      rw (
        at_j,
        at-k,
        front_here a b i ha hb,
        front_here b a i hb ha,
        new-j,
        new-k,
        set_comm (set g j x) k j y (front (suc i) b a) (λ (z : k ≡ j). omega arith),
        set-set g j x (front (suc i) b a),
        set-set (set g j (front (suc i) b a)) k y (front (suc i) a b),
      )

  pub fronts_all : (m : ℕ) → length (get_or g j []) ≡ m → length (get_or g k []) ≡ m → fronts j k m g ≡ swap [] j k g
  unfolding swap
  fronts_all m ha hb =
      let a : List Float = get_or g j [] in
      let b : List Float = get_or g k [] in
      rw (front_end b a (front m b a) m (hb ∙ sym ha) (omega arith) refl, front_end a b (front m a b) m (ha ∙ sym hb) (omega arith) refl)

-- ---- the pivot
module _ (n j k : ℕ) (g : List (List Float)) (hj : j < k) (hk : k < n) where
  swap-take : take n (swap [] j k g) ≡ swap [] j k (take n g)
  unfolding swap
  swap-take =
      rw (take-set-lt n (set g j (get_or g k [])) k (get_or g j []) hk, take-set-lt n g j (get_or g k []) (omega arith), get_or-take n g k [] hk, get_or-take n g j [] (omega arith))

  swap-past : get_or (swap [] j k g) n [] ≡ get_or g n []
  unfolding swap
  swap-past =
      get_or-set_other (set g j (get_or g k [])) k n (get_or g j []) [] (λ (z : n ≡ k). omega arith) ∙ get_or-set_other g j n (get_or g k []) [] (λ (z : n ≡ j). omega arith)

  pub pivot_moves : (g' : List (List Float)) (d w : List Float) (o : List ℕ) → k ≡ j + imax_of (drop j d) → g' ≡ swap [] j k g
      → moved j k (reduction (take n g') d w o (get_or g' n [])) ≡ pivoted j (reduction (take n g) d w o (get_or g n []))
  unfolding pivoted moved
  pivot_moves g' d w o ek eg =
      let ne : eqb (j + imax_of (drop j d)) j ≡ false = ne_eqb _ _ (λ (z : j + imax_of (drop j d) ≡ j). omega arith) in
      rw (eg, swap-take, swap-past, ek, ne)

pub pivot-stays : (j : ℕ) (r : Reduction) → imax_of (drop j r.diag) ≡ 0 → r ≡ pivoted j r
unfolding pivoted
pivot-stays j r e =
    let z : j + imax_of (drop j r.diag) ≡ j = omega arith in
    rw (eq-eqb _ _ z, pivoted)

-- at j = 0 the pivot brings to place 0 the column of r_diag's largest, whose norm and flags are known already
module _ (r : Reduction) (h : 0 < length r.cols) (e : r.diag ≡ map norm r.cols) where
  abbrev k : ℕ
  k = imax_of r.diag

  below : k < length r.cols
  below = let l = ap length e ∙ length-map r.cols norm in let p = imax_place r.diag (omega arith) in omega arith

  first_column : get_or r.cols k [] ≡ get_or (pivoted 0 r).cols 0 []
  unfolding pivoted swap
  first_column = by (eqb (0 + k) 0) refl
    where
      here : 0 + k ≡ k
      here = omega arith

      by : (b : Bool) → eqb (0 + k) 0 ≡ b
          → get_or r.cols k [] ≡ get_or (cond b r (reduction (swap [] 0 (0 + k) r.cols) (set r.diag (0 + k) (get_or r.diag 0 nan)) (set r.work (0 + k) (get_or r.work 0 nan)) (swap 0 0 (0 + k) r.order) r.rhs)).cols 0 []
      by true f = ap (λ (i : ℕ). get_or r.cols i []) (sym here ∙ eqb-true (0 + k) 0 f)
      by false f = sym (
          get_or-set_other (set r.cols 0 (get_or r.cols (0 + k) [])) (0 + k) 0 (get_or r.cols 0 []) [] (λ (z : 0 ≡ 0 + k). eqb-false (0 + k) 0 f (sym z))
          ∙ get_or-set_same r.cols 0 (get_or r.cols (0 + k) []) [] h
          ∙ ap (λ (i : ℕ). get_or r.cols i []) here
          )

  pub first_norm : get_or r.diag k nan ≡ norm (get_or (pivoted 0 r).cols 0 [])
  first_norm = ap (λ (d : List Float). get_or d k nan) e ∙ norms_at r.cols k below ∙ ap norm first_column

  pub first_seen : {seen : Ranges} → seen ≡ ranges_of r.cols → seen ≡ either seen (ranges (get_or (pivoted 0 r).cols 0 []))
  first_seen {seen} s =
      s ∙ sym (ranges_of_has r.cols k below) ∙ ap (λ (c : List Float). either (ranges_of r.cols) (ranges c)) first_column
      ∙ ap (λ (x : Ranges). either x (ranges (get_or (pivoted 0 r).cols 0 []))) (sym s)

-- ---- a column reduced
pub last_column : (n : ℕ) (g g' : List (List Float)) (y d w : List Float) (o : List ℕ) → length g ≡ suc n → g' ≡ set g n y
    → reduction (take n g') d w o (get_or g' n []) ≡ with_rhs y (reduction (take n g) d w o (get_or g n []))
last_column n g g' y d w o l e = rw (e, take-set-le n g n y (le_refl n), get_or-set_same g n y [] (omega arith))

later_rhs : (n j : ℕ) (axis : List Float) (r : Reduction) → j < n → (between (later j axis) (suc j) n r).rhs ≡ r.rhs
unfolding later
later_rhs n j axis r h = between_keeps (λ (i : ℕ) (t : Reduction). t.rhs ≡ r.rhs) (later j axis) (suc j) n r h refl (λ i t a b p. p)

-- the residuals last, after the later columns
pub swept_by : (n j : ℕ) (t : Float) (axis : List Float) (r u : Reduction) → j < n → u ≡ between (later j axis) (suc j) n (with_diag j (neg t) r)
    → with_rhs (reflect_from j axis u.rhs) u ≡ swept n j t axis r
unfolding swept
swept_by n j t axis r u h e =
    let k : u.rhs ≡ r.rhs = ap (λ (x : Reduction). x.rhs) e ∙ later_rhs n j axis (with_diag j (neg t) r) h in
    rw k (rw (e, swept))

pub reflected_by : (n j : ℕ) (s t : Float) (axis c : List Float) (r : Reduction) → c ≡ drop j (get_or r.cols j []) → t ≡ signed s c → axis ≡ axis_by t c
    → swept n j t axis r ≡ reflected n j s r
unfolding reflected swept
reflected_by n j s t axis c r ec et ea = rw (ea, et, ec)

-- and what is measured for it
pub reflected_sees : (n j : ℕ) (s t : Float) (axis c : List Float) (r : Reduction) (seen : Ranges) → c ≡ drop j (get_or r.cols j []) → t ≡ signed s c → axis ≡ axis_by t c
    → either seen (ranges_of (along_between (measured_later j axis) (later j axis) (suc j) n (with_diag j (neg t) r))) ≡ either seen (ranges_of (measured_reflected n j s r))
unfolding measured_reflected
reflected_sees n j s t axis c r seen ec et ea = rw (ea, et, ec)

pub reduced-zero : (n j : ℕ) (r p : Reduction) (s : Float) → p ≡ pivoted j r → s ≡ norm (drop j (get_or p.cols j [])) → eq s plus_zero ≡ true → with_diag j plus_zero p ≡ reduced n j r
unfolding reduced
reduced-zero n j r p s ep es t =
    let f : eq (norm (drop j (get_or (pivoted j r).cols j []))) plus_zero ≡ true = rw (es, ep) at t in
    rw (ep, f, reduced)

pub reduced_by : (n j : ℕ) (r p u : Reduction) (s : Float) → p ≡ pivoted j r → s ≡ norm (drop j (get_or p.cols j [])) → eq s plus_zero ≡ false → u ≡ reflected n j s p → u ≡ reduced n j r
unfolding reduced
reduced_by n j r p u s ep es t e =
    let f : eq (norm (drop j (get_or (pivoted j r).cols j []))) plus_zero ≡ false = rw (es, ep) at t in
    e ∙ rw (es, ep, f, reduced)

-- the flags of the pivot column, and of what its reflection measures
pub measured-zero : (n j : ℕ) (r p : Reduction) (s : Float) (seen : Ranges) {seen' : Ranges} → p ≡ pivoted j r → s ≡ norm (drop j (get_or p.cols j [])) → eq s plus_zero ≡ true
    → seen' ≡ either seen (ranges (drop j (get_or p.cols j []))) → seen' ≡ either seen (ranges_of (measured_at n j r))
unfolding measured_at ranges_of
measured-zero n j r p s seen ep es t h =
    let f : eq (norm (drop j (get_or (pivoted j r).cols j []))) plus_zero ≡ true = rw (es, ep) at t in
    h ∙ ap (λ (q : Reduction). either seen (ranges (drop j (get_or q.cols j [])))) ep ∙ ap (either seen) (sym (rw (f, measured_at) (either_none (ranges (drop j (get_or (pivoted j r).cols j []))))))

pub measured_by_lem : (n j : ℕ) (r p : Reduction) (s : Float) (seen : Ranges) {all seen' : Ranges} → p ≡ pivoted j r → s ≡ norm (drop j (get_or p.cols j [])) → eq s plus_zero ≡ false
    → all ≡ either seen (ranges (drop j (get_or p.cols j []))) → seen' ≡ either all (ranges_of (measured_reflected n j s p)) → seen' ≡ either seen (ranges_of (measured_at n j r))
unfolding measured_at ranges_of
measured_by_lem n j r p s seen ep es t ha h =
    let f : eq (norm (drop j (get_or (pivoted j r).cols j []))) plus_zero ≡ false = rw (es, ep) at t in
    h ∙ ap (λ (x : Ranges). either x (ranges_of (measured_reflected n j s p))) ha
    ∙ either-more seen (ranges (drop j (get_or p.cols j []))) (ranges_of (measured_reflected n j s p))
    ∙ rw (es, ep) (sym (rw (f, measured_at) refl))
