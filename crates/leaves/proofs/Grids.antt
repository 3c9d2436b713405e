-- The bench by columns: a place read and written, a column's lower end lent out. Assumes nothing.
use mathlib.Core.Path.{◌≡◌, sym, ap, ◌∙◌}
use mathlib.Core.List.{List, [], ◌++◌, append_assoc}
use Prim.Native.Nat.{ℕ, zero, suc, ◌+◌, ◌-◌, ◌*◌, ◌<◌, ◌≤◌}
use native.Mathlib.Nat.{suc-mul, zero-mul, not-suc-le-zero, le_of_suc-le-suc}
use native.Mathlib.Omega.{arith}
use lib.ListN.{length, get_or, take, drop, set, length-append, length-drop}
use lib.Seq.{get_or-take, get_or-drop, take-take, drop-drop, take-add, take_at, drop_at, length-take-le, take-set-lt, take-set-le, drop-set-lt, drop-set-add}
use lib.Ieee.{Float, nan}
use Rattle.leaves.specs.Triangle.{columns}
use Rattle.leaves.specs.inner.Patch.{patch}
use Rattle.leaves.proofs.Splices.{drop-take}
use Rattle.leaves.proofs.Triangles.{column_at, column_fits}

-- ---- one place
pub grid_read : (m n : ℕ) (s : List Float) (j i q : ℕ) → q ≡ j * m + i → j < n → i < m → get_or s q nan ≡ get_or (get_or (columns m n s) j []) i nan
grid_read m n s j i q e h k = sym (rw (e, column_at m n j s h) (get_or-take m (drop (j * m) s) i nan k ∙ get_or-drop (j * m) s i nan))

write_at : (m n : ℕ) (s : List Float) (j i : ℕ) (x : Float) → j < n → i < m
    → columns m n (set s (j * m + i) x) ≡ set (columns m n s) j (set (get_or (columns m n s) j []) i x)
unfolding columns
write_at m zero s j i x h k = absurd (not-suc-le-zero h)
write_at m (suc n) s zero i x h k =
    let e : 0 * m + i ≡ i = omega (arith, zero-mul m) in
    rw (e, take-set-lt m s i x k, drop-set-lt m s i x k)
write_at m (suc n) s (suc j) i x h k =
    let e : suc j * m + i ≡ m + (j * m + i) = omega (arith, suc-mul j m) in
    rw (e, take-set-le m s (m + (j * m + i)) x (omega arith), drop-set-add m s (j * m + i) x, write_at m n (drop m s) j i x (le_of_suc-le-suc h) k)

pub grid_write : (m n : ℕ) (s : List Float) (j i q : ℕ) (x : Float) → q ≡ j * m + i → j < n → i < m
    → columns m n (set s q x) ≡ set (columns m n s) j (set (get_or (columns m n s) j []) i x)
grid_write m n s j i q x e h k = rw e (write_at m n s j i x h k)

-- ---- a column's lower end
pub tail_read : (m n j r : ℕ) (s : List Float) → j < n → take (m - r) (drop (j * m + r) s) ≡ drop r (get_or (columns m n s) j [])
tail_read m n j r s h = rw (column_at m n j s h, drop-take r m (drop (j * m) s), drop-drop r (j * m) s)

pub tail_part : (m n j r : ℕ) (s : List Float) (from k : ℕ) → from ≡ j * m + r → k ≡ m - r → j < n → take k (drop from s) ≡ drop r (get_or (columns m n s) j [])
tail_part m n j r s from k ef ek h = rw (ef, ek) (tail_read m n j r s h)

pub tail_write : (m n : ℕ) (s : List Float) (j r : ℕ) (y : List Float) → j < n → r ≤ m → n * m ≤ length s → length y ≡ m - r
    → columns m n (patch (j * m + r) (m - r) s y) ≡ set (columns m n s) j (take r (get_or (columns m n s) j []) ++ y)
unfolding columns
tail_write m zero s j r y hj hr hs hy = absurd (not-suc-le-zero hj)
tail_write m (suc n) s zero r y hj hr hs hy =
    let e : 0 * m + r ≡ r = omega arith in
    let l : length (take r s) ≡ r = length-take-le r s (omega (arith, suc-mul n m)) in
    let p : length (take r s ++ y) ≡ m = length-append (take r s) y ∙ omega arith in
    let t : r + (m - r) ≡ m = omega arith in
    rw (
      e,
      drop-drop (m - r) r s,
      t,
      ← append_assoc (take r s) y (drop m s),
      take_at (take r s ++ y) (drop m s) m p,
      drop_at (take r s ++ y) (drop m s) m p,
      take-take r m s hr,
    )
tail_write m (suc n) s (suc j) r y hj hr hs hy =
    let e : suc j * m + r ≡ m + (j * m + r) = omega (arith, suc-mul j m) in
    let l : length (take m s) ≡ m = length-take-le m s (omega (arith, suc-mul n m)) in
    let w : List Float = take (j * m + r) (drop m s) ++ (y ++ drop (m - r) (drop (j * m + r) (drop m s))) in
    rw (
      e,
      take-add m (j * m + r) s,
      append_assoc (take m s) (take (j * m + r) (drop m s)) _,
      ← drop-drop (j * m + r) m s,
      take_at (take m s) w m l,
      drop_at (take m s) w m l,
      tail_write m n (drop m s) j r y (le_of_suc-le-suc hj) hr (simp length-drop (omega (arith, suc-mul n m))) hy,
    )

pub part_long : (a k : ℕ) (u : List Float) → a + k ≤ length u → length (take k (drop a u)) ≡ k
part_long a k u h = length-take-le k (drop a u) (simp length-drop (omega arith))

-- a column's lower end lent to a function that leaves f of it
pub tail_lent : (m n j r : ℕ) (s : List Float) (f : List Float → List Float) (from k : ℕ) (y : List Float) → from ≡ j * m + r → k ≡ m - r → j < n → r ≤ m
    → n * m ≤ length s → y ≡ f (take k (drop from s)) → length y ≡ length (take k (drop from s))
    → columns m n (patch from k s y) ≡ set (columns m n s) j (take r (get_or (columns m n s) j []) ++ f (drop r (get_or (columns m n s) j [])))
tail_lent m n j r s f from k y ef ek hj hr hs e h =
    let c : List Float = get_or (columns m n s) j [] in
    let p : y ≡ f (drop r c) = e ∙ rw (ef, ek, tail_read m n j r s hj) in
    let l : length y ≡ m - r = h ∙ rw (ef, ek) (part_long (j * m + r) (m - r) s (omega (arith, column_fits j n m hj))) in
    rw (ef, ek) (tail_write m n s j r y hj hr hs l ∙ ap (λ (z : List Float). set (columns m n s) j (take r c ++ z)) p)

pub column_long : (m n : ℕ) (s : List Float) (j : ℕ) → j < n → n * m ≤ length s → length (get_or (columns m n s) j []) ≡ m
column_long m n s j h f = rw (column_at m n j s h) (part_long (j * m) m s (omega (arith, column_fits j n m h)))
