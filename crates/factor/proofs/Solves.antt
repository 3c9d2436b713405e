-- Rank and determined place by place, the zero solve, and where an answer entry goes. Assumes nothing.
use mathlib.Core.Path.{◌≡◌, refl, sym, ap, ◌∙◌}
use mathlib.Core.Bool.{Bool, true, false, cond, not, ◌&&◌}
use mathlib.Core.List.{List, [], ◌∷◌, ◌++◌, append-nil}
use Prim.Native.Nat.{ℕ, zero, suc, ◌+◌, ◌-◌, ◌*◌, ◌<◌, ◌≤◌, min}
use native.Mathlib.Nat.{le_refl, le_step, mul-le-mul_right}
use native.Mathlib.Numerals.{add-one}
use native.Mathlib.Omega.{arith}
use lib.Dec.{ltb}
use lib.ListN.{length, get_or, take, drop, set, replicate, length-drop, length-map, drop_of_length-le}
use lib.Seq.{drop-cons, take_all, take-take, take_at, drop_at, get_or-take, length-take-le}
use lib.Ieee.{Float, nan, eq}
use borrow.Author.Tests.{ltb-true, ltb-false, lt-leb, le-leb}
use Rattle.std.specs.List.{AllWithin, HoldsAt}
use Rattle.std.specs.Option.{MatchOption, unwrap_or}
use Rattle.std.proofs.Common.{Option}
use Rattle.std.proofs.lemmas.Iterator.{index_from_first}
use Rattle.leaves.specs.Number.{plus_zero}
use Rattle.std.specs.Prelude.{Result, Ok}
use Rattle.leaves.specs.Reply.{Reply, answered, reply_of}
use Rattle.leaves.specs.declared.reply.Refusal.{Refusal}
use Rattle.leaves.proofs.Replies.{reply_of-ok}
use Rattle.leaves.specs.Triangle.{columns, solve_place, solve_down, solve_upper}
use Rattle.leaves.proofs.Triangles.{column_at, solved}
use Rattle.leaves.specs.Square.{uppers_of, diagonal, zeros}
use Rattle.factor.specs.Solve.{rank, no_zero, non_singular_of, scatter, gather, padded, zero_solved}
use Rattle.leaves.proofs.Fronts.{map_at}
use Rattle.leaves.proofs.Squares.{diagonal-length, uppers_of-length, upper_at}
use Rattle.leaves.specs.inner.Squares.{Square}

-- ---- the first `top` of R's diagonal
pub top_long : (n top : ℕ) (s : List Float) → top ≤ n → length (take top (diagonal (uppers_of n s))) ≡ top
top_long n top s l =
    let e : length (diagonal (uppers_of n s)) ≡ n = diagonal-length 0 (uppers_of n s) ∙ uppers_of-length n s in
    length-take-le top (diagonal (uppers_of n s)) (omega arith)

pub top_at : (n top k : ℕ) (s : List Float) (d : Float) → k < top → d ≡ get_or (diagonal (uppers_of n s)) k nan → d ≡ get_or (take top (diagonal (uppers_of n s))) k nan
top_at n top k s d h e = e ∙ sym (get_or-take top (diagonal (uppers_of n s)) k nan h)

pub take_fewer : (m n : ℕ) (ds : List Float) → length ds ≡ n → take (min m n) ds ≡ take m ds
take_fewer m n ds e = go (ltb m n) refl
  where
    go : (b : Bool) → ltb m n ≡ b → take (min m n) ds ≡ take m ds
    go true t =
        let h : m < n = ltb-true m n t in
        let q : min m n ≡ m = omega arith in
        rw q
    go false t =
        let h : n ≤ m = ltb-false m n t in
        let q : min m n ≡ n = omega arith in
        rw q (take_all n ds (omega arith) ∙ sym (take_all m ds (omega arith)))

pub top_fewer : (m n : ℕ) (s : List Float) → take (min m n) (diagonal (uppers_of n s)) ≡ take m (diagonal (uppers_of n s))
top_fewer m n s = take_fewer m n (diagonal (uppers_of n s)) (diagonal-length 0 (uppers_of n s) ∙ uppers_of-length n s)

-- ---- one place of rank, of `leading` and of `no_zero`, by the test
rank_nil : rank [] ≡ 0
unfolding rank
rank_nil = refl

rank-cons : (d : Float) (ds : List Float) (b : Bool) → eq d plus_zero ≡ b → rank (d ∷ ds) ≡ cond b 0 (suc (rank ds))
unfolding rank
rank-cons d ds b t = ap (λ (x : Bool). cond x 0 (suc (rank ds))) t

no_zero-cons : (d : Float) (ds : List Float) (b : Bool) → eq d plus_zero ≡ b → no_zero (d ∷ ds) ≡ (not b && no_zero ds)
unfolding no_zero
no_zero-cons d ds b t = ap (λ (x : Bool). not x && no_zero ds) t

module _ (ds : List Float) (k : ℕ) (h : k < length ds) (d : Float) (e : d ≡ get_or ds k nan) where
  from_here : drop k ds ≡ d ∷ drop (suc k) ds
  from_here = drop-cons ds k nan h ∙ ap (λ (x : Float). x ∷ drop (suc k) ds) (sym e)

  pub rank-stop : eq d plus_zero ≡ true → k ≡ k + rank (drop k ds)
  rank-stop t = let q : rank (drop k ds) ≡ 0 = ap rank from_here ∙ rank-cons d (drop (suc k) ds) true t in omega arith

  pub rank_go : eq d plus_zero ≡ false → k + 1 + rank (drop (k + 1) ds) ≡ k + rank (drop k ds)
  rank_go t =
      let q : rank (drop k ds) ≡ suc (rank (drop (suc k) ds)) = ap rank from_here ∙ rank-cons d (drop (suc k) ds) false t in
      rw add-one (omega arith)

  pub no_zero-stop : eq d plus_zero ≡ true → false ≡ no_zero (drop k ds)
  no_zero-stop t = sym (ap no_zero from_here ∙ no_zero-cons d (drop (suc k) ds) true t)

  pub no_zero_go : eq d plus_zero ≡ false → no_zero (drop (k + 1) ds) ≡ no_zero (drop k ds)
  no_zero_go t = rw add-one (sym (ap no_zero from_here ∙ no_zero-cons d (drop (suc k) ds) false t))

module _ (ds : List Float) (k : ℕ) (h : length ds ≤ k) where
  pub rank-end : k ≡ k + rank (drop k ds)
  rank-end = let q : rank (drop k ds) ≡ 0 = ap rank (drop_of_length-le ds {i = k} h) ∙ rank_nil in omega arith

  pub no_zero-end : true ≡ no_zero (drop k ds)
  unfolding no_zero
  no_zero-end = sym (ap no_zero (drop_of_length-le ds {i = k} h))

pub rank_most : (ds : List Float) → rank ds ≤ length ds
rank_most [] = omega (arith, rank_nil)
rank_most (d ∷ ds) = go (eq d plus_zero) refl (rank_most ds)
  where
    go : (b : Bool) → eq d plus_zero ≡ b → rank ds ≤ length ds → rank (d ∷ ds) ≤ suc (length ds)
    go true t l = let q : rank (d ∷ ds) ≡ 0 = rank-cons d ds true t in omega arith
    go false t l = let q : rank (d ∷ ds) ≡ suc (rank ds) = rank-cons d ds false t in omega arith

abbrev pub IsZero : Float → Type 0
IsZero d = eq d plus_zero ≡ true

abbrev pub NotZero : Float → Type 0
NotZero d = eq d plus_zero ≡ false

-- what a search for the first zero finds
pub rank_first : (ds : List Float) (r : Option ℕ) → MatchOption r (AllWithin NotZero ds 0 (length ds)) (λ i. (i < length ds) × HoldsAt IsZero ds i × AllWithin NotZero ds 0 i)
    → unwrap_or r (length ds) ≡ rank ds
rank_first ds r h =
    sym (index_from_first rank IsZero NotZero rank_nil (λ d ds' t. rank-cons d ds' true t) (λ d ds' t. rank-cons d ds' false t ∙ omega arith) ds r h)

pub singular_few : (m n : ℕ) (us : List (List Float)) → m < n → false ≡ non_singular_of m n us
unfolding non_singular_of
singular_few m n us h = rw (lt-leb n m h, non_singular_of)

pub singular_is : (m n : ℕ) (us : List (List Float)) (b : Bool) → n ≤ m → b ≡ no_zero (diagonal us) → b ≡ non_singular_of m n us
unfolding non_singular_of
singular_is m n us b h e = rw (le-leb n m h, non_singular_of) e

-- ---- the upper triangular solve reads R alone
place_same : (us vs : List (List Float)) (i : ℕ) (x : List Float) → get_or (get_or us i []) i nan ≡ get_or (get_or vs i []) i nan → take i (get_or us i []) ≡ take i (get_or vs i [])
    → solve_place us i x ≡ solve_place vs i x
unfolding solve_place
place_same us vs i x p q = rw (p, q)

down_same : (us vs : List (List Float)) (k : ℕ) (x : List Float) → ((i : ℕ) → i < k → get_or (get_or us i []) i nan ≡ get_or (get_or vs i []) i nan)
    → ((i : ℕ) → i < k → take i (get_or us i []) ≡ take i (get_or vs i [])) → solve_down us k x ≡ solve_down vs k x
unfolding solve_down
down_same us vs zero x p q = refl
down_same us vs (suc k) x p q =
    ap (λ (y : List Float). solve_down us k y) (place_same us vs k x (p k (le_refl (suc k))) (q k (le_refl (suc k))))
    ∙ down_same us vs k (solve_place vs k x) (λ i h. p i (le_step h)) (λ i h. q i (le_step h))

pub down_upper : (n : ℕ) (s : List Float) → Square n s → (k : ℕ) → k ≤ n → (x : List Float) → solve_down (columns n k s) k x ≡ solve_down (uppers_of n s) k x
down_upper n s q k l x = down_same (columns n k s) (uppers_of n s) k x cell above
  where
    cell : (i : ℕ) → i < k → get_or (get_or (columns n k s) i []) i nan ≡ get_or (get_or (uppers_of n s) i []) i nan
    cell i h =
        rw (column_at n k i s h, upper_at n s q i (omega arith))
        (get_or-take n (drop (i * n) s) i nan (omega arith) ∙ sym (get_or-take (suc i) (drop (i * n) s) i nan (le_refl (suc i))))

    above : (i : ℕ) → i < k → take i (get_or (columns n k s) i []) ≡ take i (get_or (uppers_of n s) i [])
    above i h =
        rw (column_at n k i s h, upper_at n s q i (omega arith))
        (take-take i n (drop (i * n) s) (omega arith) ∙ sym (take-take i (suc i) (drop (i * n) s) (le_step (le_refl i))))

-- what the leaf answers, and what it leaves, on slices that fit
module _ (n k : ℕ) (s x : List Float) (q : Square n s) (h : k ≤ n) (g : k ≤ length x) where
  told : (answered tt, solve_down (columns n k s) k x) ≡ solve_upper n k s x
  told =
      let w = q.whole in
      let f : k * n ≤ length s = omega (arith, mul-le-mul_right {m = k} {n = n} n h) in
      solved n k s x (solve_down (columns n k s) k x) h g f refl

  solve_leaves : (l : List Float) {d : Reply (Unit {0})} → (d, l) ≡ solve_upper n k s x → l ≡ solve_down (uppers_of n s) k x
  solve_leaves l e = ap (λ (p : Reply (Unit {0}) × List Float). p.1) (e ∙ sym told) ∙ down_upper n s q k h x

  pub upper_fits : (l : List Float) (r : Result (Unit {0}) Refusal) → (reply_of r, l) ≡ solve_upper n k s x → r ≡ Ok tt
  upper_fits l r e = reply_of-ok r (ap (λ (p : Reply (Unit {0}) × List Float). p.0) (e ∙ sym told))

-- ---- the places from k on set to zero
pub tail_cleared : (w z : List Float) (k : ℕ) → k ≤ length w → z ≡ replicate (length (take (length w - k) (drop k w))) plus_zero
    → take k w ++ (z ++ drop (length w - k) (drop k w)) ≡ take k w ++ zeros (length w - k)
tail_cleared w z k h e =
    let a : length (drop k w) ≡ length w - k = length-drop k w in
    rw (e, drop_of_length-le (drop k w) {i = length w - k} (omega arith), take_all (length w - k) (drop k w) (omega arith), a)
    (ap (λ (t : List Float). take k w ++ t) (append-nil (zeros (length w - k))))

module _ (k : ℕ) (w w₁ : List Float) (h : k ≤ length w) (e : w₁ ≡ take k w ++ zeros (length w - k)) where
  pub cleared-take : take k w₁ ≡ take k w
  cleared-take = ap (take k) e ∙ take_at (take k w) (zeros (length w - k)) k (length-take-le k w h)

  pub cleared-drop : drop k w₁ ≡ zeros (length w - k)
  cleared-drop = ap (drop k) e ∙ drop_at (take k w) (zeros (length w - k)) k (length-take-le k w h)

-- ---- the zero solve
module _ (m n top k : ℕ) (s : List Float) (f : top ≡ min m n) (r : k ≡ rank (take top (diagonal (uppers_of n s)))) where
  pub rank-fits : k ≤ n
  rank-fits = omega (arith, rank_most (take top (diagonal (uppers_of n s))), top_long n top s (omega arith))

  pub zero_law : (w w₁ l : List Float) {d : Reply (Unit {0})} → Square n s → length w ≡ n → w₁ ≡ take k w ++ zeros (length w - k) → length l ≡ length (take k w₁)
      → (d, l) ≡ solve_upper n k s (take k w₁) → l ++ drop k w₁ ≡ zero_solved m (uppers_of n s) w
  unfolding zero_solved
  zero_law w w₁ l q c e j g =
      let h : k ≤ length w = omega (arith, rank-fits) in
      let p : length (take k w) ≡ k = length-take-le k w h in
      let a : take k w₁ ≡ take k w = cleared-take k w w₁ h e in
      let b : drop k w₁ ≡ zeros (length w - k) = cleared-drop k w w₁ h e in
      let y : l ≡ solve_down (uppers_of n s) k (take k w) = solve_leaves n k s (take k w) q rank-fits (omega arith) l (g ∙ ap (solve_upper n k s) a) in
      let i : length l ≡ k = j ∙ ap length a ∙ p in
      let u : k ≡ rank (take m (diagonal (uppers_of n s))) = r ∙ ap (λ (t : ℕ). rank (take t (diagonal (uppers_of n s)))) f ∙ ap rank (top_fewer m n s) in
      ap (λ (v : List Float). l ++ v) b ∙ ap (λ (v : ℕ). l ++ zeros (length w - v)) (sym i) ∙ ap (padded (length w)) y
      ∙ ap (λ (v : ℕ). padded (length w) (solve_down (uppers_of n s) v (take v w))) u

-- ---- the order list
pub scatter_turn : (os : List ℕ) (xs out : List Float) (k o : ℕ) → k < length os → k < length xs → o ≡ get_or os k 0
    → scatter (drop (k + 1) os) (drop (k + 1) xs) (set out o (get_or xs k nan)) ≡ scatter (drop k os) (drop k xs) out
unfolding scatter
scatter_turn os xs out k o h g e = rw (e, add-one, drop-cons os k 0 h, drop-cons xs k nan g)

pub scatter-end : (os : List ℕ) (xs out : List Float) (k : ℕ) → length os ≤ k → scatter (drop k os) (drop k xs) out ≡ out
unfolding scatter
scatter-end os xs out k h = rw (drop_of_length-le os {i = k} h)

pub gather_at : (os : List ℕ) (xs : List Float) (k : ℕ) → k < length os → get_or xs (get_or os k 0) nan ≡ get_or (gather os xs) k nan
unfolding gather
gather_at os xs k h = map_at (λ (o : ℕ). get_or xs o nan) os k 0 nan h

pub gather-length : (os : List ℕ) (xs : List Float) → length (gather os xs) ≡ length os
unfolding gather
gather-length os xs = length-map os (λ (o : ℕ). get_or xs o nan)
