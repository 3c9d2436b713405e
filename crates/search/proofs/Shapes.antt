-- How long the definitions' vectors are, and that a damped room is one that a store can hold. Assumes nothing.
use mathlib.Core.Path.{◌≡◌, refl, sym, ap, ◌∙◌}
use mathlib.Core.Bool.{Bool, true, false, cond}
use mathlib.Core.List.{List, [], ◌∷◌, ◌++◌}
use Prim.Native.Nat.{ℕ, zero, suc, ◌+◌, ◌-◌, ◌<◌, ◌≤◌}
use native.Mathlib.Nat.{not-suc-le-zero, le_of_suc-le-suc}
use native.Mathlib.Omega.{arith}
use lib.ListN.{length, get_or, take, drop, set, length-set, length-take, length-drop, length-map, length-append, length-replicate}
use lib.Seq.{length-take-le}
use lib.Ieee.{Float, nan, binary64, mul, sub, div, neg, eq}
use Rattle.leaves.specs.Number.{plus_zero}
use Rattle.leaves.specs.Product.{product_all}
use Rattle.leaves.specs.Vector.{dot_from, axpy_all}
use Rattle.leaves.specs.Triangle.{solve_place, solve_down}
use Rattle.leaves.proofs.Folds.{axpy-length}
use Rattle.factor.specs.Room.{Room}
use Rattle.leaves.specs.Square.{zeros, diagonal}
use Rattle.factor.specs.Tests.{is_permutation}
use Rattle.factor.specs.Solve.{scatter, gather, padded, rank, r_rank, zero_solved, backward, damped_solved}
use Rattle.eliminate.specs.Eliminate.{Rows, cons, givens, turned, left, turned_all, left_all, rotated, started, onward, eliminated, rows_from, damping, tails}
use Rattle.factor.specs.Held.{forward_upper, forward_lower, mul_upper}
use Rattle.factor.proofs.Orders.{permutation_onto, scatter_at}
use Rattle.factor.proofs.Solves.{rank_most, gather-length}
use Rattle.leaves.proofs.Products.{product-length}
use Rattle.leaves.proofs.Squares.{diagonal-length}
use Rattle.eliminate.proofs.Rotations.{turned-length, left-length}
use Rattle.factor.specs.inner.Rooms.{Shaped}

-- ---- two lists that are the same at every place
same-places : (xs ys : List Float) → length xs ≡ length ys → ((i : ℕ) → i < length xs → get_or xs i nan ≡ get_or ys i nan) → xs ≡ ys
same-places [] [] e h = refl
same-places [] (y ∷ ys) e h = absurd (omega arith)
same-places (x ∷ xs) [] e h = absurd (omega arith)
same-places (x ∷ xs) (y ∷ ys) e h = let a : x ≡ y = h 0 (omega arith) in rw (a, same-places xs ys (omega arith) (λ i l. h (suc i) (omega arith)))

-- ---- an answer laid out by a permutation does not depend on what stood there
pub scatter-length : (os : List ℕ) (xs out : List Float) → length (scatter os xs out) ≡ length out
unfolding scatter
scatter-length [] xs out = refl
scatter-length (o ∷ os) [] out = refl
scatter-length (o ∷ os) (x ∷ xs) out = scatter-length os xs (set out o x) ∙ length-set out o x

pub placed-length : (os : List ℕ) (xs : List Float) → length (scatter os xs (zeros (length xs))) ≡ length xs
placed-length os xs = scatter-length os xs (zeros (length xs)) ∙ length-replicate (length xs) plus_zero

pub scatter_fresh : (n : ℕ) (order : List ℕ) (xs out old : List Float) → is_permutation n order ≡ true → n ≤ length order → length xs ≡ n → length out ≡ n → length old ≡ n
    → scatter (take n order) xs out ≡ scatter (take n order) xs old
scatter_fresh n order xs out old h long l a b =
    let e = scatter-length (take n order) xs out in
    let f = scatter-length (take n order) xs old in
    same-places (scatter (take n order) xs out) (scatter (take n order) xs old) (omega arith) (λ v p.
    let q = permutation_onto n order h long v (omega arith) in
    rw q.1.1 at (scatter_at n order xs out h long (omega arith) (omega arith) q.0 q.1.0 ∙ sym (scatter_at n order xs old h long (omega arith) (omega arith) q.0 q.1.0)))

-- ---- products laid out are the products of what is laid out
product-set : (out diag : List Float) (o : ℕ) (x : Float) → product_all (set out o x) diag ≡ set (product_all out diag) o (mul binary64 x (get_or diag o nan))
unfolding product_all
product-set [] diag o x = refl
product-set (y ∷ ys) [] zero x = refl
product-set (y ∷ ys) [] (suc o) x = refl
product-set (y ∷ ys) (d ∷ ds) zero x = refl
product-set (y ∷ ys) (d ∷ ds) (suc o) x = ap (λ (l : List Float). mul binary64 y d ∷ l) (product-set ys ds o x)

scatter-product : (os : List ℕ) (xs diag out : List Float) → scatter os (product_all xs (gather os diag)) (product_all out diag) ≡ product_all (scatter os xs out) diag
unfolding scatter gather product_all
scatter-product [] xs diag out = refl
scatter-product (o ∷ os) [] diag out = refl
scatter-product (o ∷ os) (x ∷ xs) diag out =
    ap (λ (l : List Float). scatter os (product_all xs (gather os diag)) l) (sym (product-set out diag o x)) ∙ scatter-product os xs diag (set out o x)

-- LAW: what stands at a column, each number having been placed there times the column's scaling, is what is placed there times the scaling
pub placed-scaled : (n : ℕ) (order : List ℕ) (w diag v : List Float) → is_permutation n order ≡ true → n ≤ length order → length w ≡ n → length diag ≡ n → length v ≡ n
    → scatter (take n order) (product_all w (gather (take n order) diag)) v ≡ product_all (scatter (take n order) w (zeros (length w))) diag
placed-scaled n order w diag v h long a b c =
    let g : length (gather (take n order) diag) ≡ n = gather-length (take n order) diag ∙ length-take-le n order long in
    let x : length (product_all w (gather (take n order) diag)) ≡ n = product-length w (gather (take n order) diag) (a ∙ sym g) ∙ a in
    let z : length (zeros (length w)) ≡ n = length-replicate (length w) plus_zero ∙ a in
    let y : length (product_all (zeros (length w)) diag) ≡ n = product-length (zeros (length w)) diag (z ∙ sym b) ∙ z in
    scatter_fresh n order (product_all w (gather (take n order) diag)) v (product_all (zeros (length w)) diag) h long x c y
    ∙ scatter-product (take n order) w diag (zeros (length w))

-- ---- the solves' numbers
padded-length : (n : ℕ) (xs : List Float) → length xs ≤ n → length (padded n xs) ≡ n
padded-length n xs h = length-append xs (zeros (n - length xs)) ∙ omega (arith, length-replicate (n - length xs) plus_zero)

place_length : (cols : List (List Float)) (i : ℕ) (x : List Float) → i < length x → length (solve_place cols i x) ≡ length x
unfolding solve_place
place_length cols i x h = simp (length-append, axpy-length, length-take, length-drop) (omega arith)

down_length : (cols : List (List Float)) (i : ℕ) (x : List Float) → i ≤ length x → length (solve_down cols i x) ≡ length x
unfolding solve_down
down_length cols zero x h = refl
down_length cols (suc i) x h = let e = place_length cols i x h in down_length cols i (solve_place cols i x) (omega arith) ∙ e

pub zero-length : (m : ℕ) (us : List (List Float)) (q : List Float) → length us ≡ length q → length (zero_solved m us q) ≡ length q
unfolding zero_solved
zero-length m us q h =
    let k = r_rank m us in
    let r : k ≤ length q = omega (arith, rank_most (take m (diagonal us)), length-take m (diagonal us), diagonal-length 0 us) in
    let t : length (take k q) ≡ k = length-take-le k q r in
    let e = down_length us k (take k q) (omega arith) in
    padded-length (length q) (solve_down us k (take k q)) (omega arith)

back_few : (ds : List Float) (ls : List (List Float)) (bs : List Float) → length (backward ds ls bs) ≤ length bs
unfolding backward
back_few [] ls bs = omega arith
back_few (d ∷ ds) [] bs = omega arith
back_few (d ∷ ds) (l ∷ ls) [] = omega arith
back_few (d ∷ ds) (l ∷ ls) (b ∷ bs) = omega (arith, back_few ds ls bs)

pub damped-length : (ds : List Float) (ls : List (List Float)) (bs : List Float) → length (damped_solved ds ls bs) ≡ length bs
unfolding damped_solved
damped-length ds ls bs =
    let k = rank ds in
    padded-length (length bs) (backward (take k ds) (take k ls) (take k bs)) (omega (arith, back_few (take k ds) (take k ls) (take k bs), length-take k bs))

-- ---- the held calls' numbers
forward-length : (xs : List Float) (us : List (List Float)) (bs : List Float) → length us ≡ length bs → length (forward_upper xs us bs) ≡ length xs + length bs
unfolding forward_upper
forward-length xs [] [] h = omega arith
forward-length xs [] (b ∷ bs) h = absurd (omega arith)
forward-length xs (c ∷ cs) [] h = absurd (omega arith)
forward-length xs (c ∷ cs) (b ∷ bs) h = forward-length (xs ++ (div binary64 (sub binary64 b (dot_from plus_zero xs (take (length xs) c))) (get_or c (length xs) nan) ∷ [])) cs bs (omega arith) ∙ simp length-append (omega arith)

pub upper-length : (us : List (List Float)) (bs : List Float) → length us ≡ length bs → length (forward_upper [] us bs) ≡ length bs
upper-length us bs h = forward-length [] us bs h ∙ omega arith

pub lower-length : (ds : List Float) (ls : List (List Float)) (bs : List Float) → length ds ≡ length bs → length ls ≡ length bs → length (forward_lower ds ls bs) ≡ length bs
unfolding forward_lower
lower-length [] ls [] h k = refl
lower-length [] ls (b ∷ bs) h k = absurd (omega arith)
lower-length (d ∷ ds) ls [] h k = absurd (omega arith)
lower-length (d ∷ ds) [] (b ∷ bs) h k = absurd (omega arith)
lower-length (d ∷ ds) (l ∷ ls) (b ∷ bs) h k =
    let a = neg (div binary64 b d) in
    let e = axpy-length a l bs in
    ap suc (lower-length ds ls (axpy_all a l bs) (omega arith) (omega arith) ∙ e)

pub mul-length : (q : List Float) (us : List (List Float)) → length (mul_upper q us) ≡ length us
unfolding mul_upper
mul-length q us = length-map us _

-- ---- rows of k, k - 1, .. 1 numbers
abbrev pub Tri : ℕ → List (List Float) → Type 0
Tri zero [] = Unit {0}
Tri zero (r ∷ rs) = ⊥
Tri (suc k) [] = ⊥
Tri (suc k) (r ∷ rs) = (length r ≡ suc k) × Tri k rs

-- and their right side
abbrev pub Even : ℕ → Rows → Type 0
Even k x = Tri k x.0 × (length x.1 ≡ k)

rotated_even : (k : ℕ) (rows : List (List Float)) (bs ls : List Float) (q : Float) → Tri k rows → length bs ≡ k → length ls ≡ k → Even k (rotated rows bs ls q)
unfolding rotated
rotated_even zero [] bs ls q t b l = (tt, b)
rotated_even zero (r ∷ rs) bs ls q t b l = absurd t
rotated_even (suc k) [] bs ls q t b l = absurd t
rotated_even (suc k) (r ∷ rs) [] ls q t b l = absurd (omega arith)
rotated_even (suc k) (r ∷ rs) (b₁ ∷ bs) [] q t b l = absurd (omega arith)
rotated_even (suc k) (r ∷ rs) (b₁ ∷ bs) (l₁ ∷ ls) q t b l =
    let g = givens (get_or r 0 nan) l₁ in
    let rest : length (drop 1 r) ≡ length ls = length-drop 1 r ∙ omega (arith, t.0) in
    let e = left-length g (drop 1 r) ls rest in
    let f = turned-length g (drop 1 r) ls rest in
    let row = turned g (get_or r 0 nan) l₁ ∷ turned_all g (drop 1 r) ls in
    let skipped = rotated rs bs ls q in
    let rotated' = rotated rs bs (left_all g (drop 1 r) ls) (left g b₁ q) in
    either (eq l₁ plus_zero) (cons r b₁ skipped) (cons row (turned g b₁ q) rotated')
    (even_cons k r b₁ skipped t.0 (rotated_even k rs bs ls q t.1 (omega arith) (omega arith)))
    (even_cons k row (turned g b₁ q) rotated' (omega arith)
    (rotated_even k rs bs (left_all g (drop 1 r) ls) (left g b₁ q) t.1 (omega arith) (omega arith)))
  where
    even_cons : (k : ℕ) (row : List Float) (x : Float) (y : Rows) → length row ≡ suc k → Even k y → Even (suc k) (cons row x y)
    even_cons k row x y h e = ((h, e.0), ap suc e.1)

    either : (z : Bool) (x y : Rows) → Even (suc k) x → Even (suc k) y → Even (suc k) (elim z [ true ↦ x | false ↦ y ])
    either true x y a b = a
    either false x y a b = b

pub tri_length : (k : ℕ) (rows : List (List Float)) → Tri k rows → length rows ≡ k
tri_length zero [] t = refl
tri_length zero (r ∷ rs) t = absurd t
tri_length (suc k) [] t = absurd t
tri_length (suc k) (r ∷ rs) t = ap suc (tri_length k rs t.1)

pub started_even : (k : ℕ) (d : Float) (rows : List (List Float)) (bs : List Float) → Tri (suc k) rows → length bs ≡ suc k → Even (suc k) (started d rows bs)
unfolding started
started_even k d rows bs t b = go (eq d plus_zero)
  where
    go : (z : Bool) → Even (suc k) (cond z (rows, bs) (rotated rows bs (d ∷ zeros (length rows - 1)) plus_zero))
    go true = (t, b)
    go false = rotated_even (suc k) rows bs (d ∷ zeros (length rows - 1)) plus_zero t b (omega (arith, length-replicate (length rows - 1) plus_zero, tri_length (suc k) rows t))

onward_even : (k : ℕ) (f : List (List Float) → List Float → Rows) → ((rs : List (List Float)) (cs : List Float) → Tri k rs → length cs ≡ k → Even k (f rs cs))
    → (rows : List (List Float)) (bs : List Float) → Tri (suc k) rows → length bs ≡ suc k → Even (suc k) (onward f rows bs)
onward_even k f h [] bs t b = absurd t
onward_even k f h (r ∷ rs) [] t b = absurd (omega arith)
onward_even k f h (r ∷ rs) (c ∷ cs) t b = let y = h rs cs t.1 (omega arith) in ((t.0, y.0), ap suc y.1)

eliminated_even : (k : ℕ) (ds : List Float) (rows : List (List Float)) (bs : List Float) → length ds ≡ k → Tri k rows → length bs ≡ k → Even k (eliminated ds rows bs)
unfolding eliminated
eliminated_even k [] rows bs h t b = (t, b)
eliminated_even zero (d ∷ ds) rows bs h t b = absurd (omega arith)
eliminated_even (suc k) (d ∷ ds) rows bs h t b =
    let x = started d rows bs in
    let e = started_even k d rows bs t b in
    onward_even k (λ rs cs. eliminated ds rs cs) (λ rs cs u v. eliminated_even k ds rs cs (omega arith) u v) x.0 x.1 e.0 e.1

pub rows_even : (j : ℕ) (us : List (List Float)) → Tri (length us) (rows_from j us)
unfolding rows_from
rows_even j [] = tt
rows_even j (u ∷ us) = (ap suc (length-map us _), rows_even (suc j) us)

pub tails_tall : (n : ℕ) (rows : List (List Float)) → Tri n rows → (k : ℕ) → k < n → length (get_or (tails rows) k []) ≡ n - suc k
unfolding tails
tails_tall zero rows t k h = absurd (not-suc-le-zero h)
tails_tall (suc n) [] t k h = absurd t
tails_tall (suc n) (r ∷ rs) t zero h = length-drop 1 r ∙ omega (arith, t.0)
tails_tall (suc n) (r ∷ rs) t (suc k) h = tails_tall n rs t.1 k (le_of_suc-le-suc h) ∙ omega arith

-- LAW: a diagonal eliminated against R leaves as many rows as R has columns, and a right side as long
pub damping-fits : (ds : List Float) (us : List (List Float)) (q : List Float) → length ds ≡ length us → length q ≡ length us → Even (length us) (damping ds us q)
unfolding damping
damping-fits ds us q h l = eliminated_even (length us) ds (rows_from 0 us) q h (rows_even 0 us) l

-- LAW: what a damped solve leaves is a room of the same shape, and its right side is as long as qt_b
pub damping_even : (n : ℕ) (ds : List Float) (r : Room) → Shaped n r → length ds ≡ n → Even n (damping ds r.upper r.qtb)
damping_even n ds r z h = let w = z.upper_wide in rw w at (damping-fits ds r.upper r.qtb (h ∙ sym w) (z.qtb_long ∙ sym w))

-- with a diagonal that is taken in pivot order
pub gathered_even : (n : ℕ) (order : List ℕ) (xs : List Float) (r : Room) → Shaped n r → n ≤ length order → Even n (damping (gather (take n order) xs) r.upper r.qtb)
gathered_even n order xs r z long = damping_even n (gather (take n order) xs) r z (gather-length (take n order) xs ∙ length-take-le n order long)
