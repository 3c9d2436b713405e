-- Lᵀ·x from the last place down: the damped solve after elimination. Assumes nothing.
use mathlib.Core.Path.{◌≡◌, refl, sym, ap, ◌∙◌}
use mathlib.Core.List.{List, [], ◌∷◌, ◌++◌}
use Prim.Native.Nat.{ℕ, suc, ◌+◌, ◌-◌, ◌*◌, ◌<◌, ◌≤◌}
use native.Mathlib.Nat.{le_refl}
use native.Mathlib.Numerals.{add-one}
use native.Mathlib.Omega.{arith}
use lib.ListN.{length, get_or, take, drop, set, length-take, length-drop, drop_of_length-le, take-append-drop, get_or-append}
use lib.Seq.{drop-cons, drop-drop, take-take, take-suc, take_at, drop_at, set_at, get_or-take, append_snoc, length-take-le}
use lib.Ieee.{Float, nan, binary64, sub, div}
use Rattle.leaves.specs.Vector.{dot_of}
use Rattle.leaves.specs.Square.{belows_of, zeros}
use Rattle.factor.specs.Solve.{rank, padded, backward, damped_solved}
use Rattle.leaves.proofs.Splices.{drop-take}
use Rattle.leaves.proofs.Squares.{below_at}
use Rattle.factor.proofs.Solves.{rank_most, cleared-take, cleared-drop}
use Rattle.leaves.specs.inner.Squares.{Square}

-- what is lent of the column under the diagonal
module _ (n : ℕ) (s : List Float) (q : Square n s) (j : ℕ) (h : j < n) where
  pub below_is : get_or (belows_of n s) j [] ≡ take (n - suc j) (drop (j * n + suc j) s)
  below_is = below_at n s q j h ∙ drop-take (suc j) n (drop (j * n) s) ∙ ap (take (n - suc j)) (drop-drop (suc j) (j * n) s)

  pub below_part : (e : ℕ) → e ≤ n → take (j * n + e - (j * n + (j + 1))) (drop (j * n + (j + 1)) s) ≡ take (e - suc j) (get_or (belows_of n s) j [])
  below_part e l =
      let a : j + 1 ≡ suc j = add-one j in
      let b : j * n + e - (j * n + suc j) ≡ e - suc j = omega arith in
      rw (a, b, below_is) (sym (take-take (e - suc j) (n - suc j) (drop (j * n + suc j) s) (omega arith)))

  -- place j, with what `dot` gave of the parts that are lent
  pub back_law : (full : ℕ) (w : List Float) (x d : Float) → full ≤ n
      → x ≡ dot_of (take (j * n + full - (j * n + (j + 1))) (drop (j * n + (j + 1)) s)) (take (full - (j + 1)) (drop (j + 1) w))
      → set w j (div binary64 (sub binary64 (get_or w j nan) x) d)
      ≡ set w j (div binary64 (sub binary64 (get_or w j nan) (dot_of (take (full - suc j) (get_or (belows_of n s) j [])) (take (full - suc j) (drop (suc j) w)))) d)
  back_law full w x d l e = rw (e, below_part full l, add-one)

pub back_length : (ds : List Float) (ls : List (List Float)) (bs : List Float) → length ds ≡ length bs → length ls ≡ length bs → length (backward ds ls bs) ≡ length bs
unfolding backward
back_length [] ls bs p q = p
back_length (d ∷ ds) [] bs p q = q
back_length (d ∷ ds) (l ∷ ls) [] p q = refl
back_length (d ∷ ds) (l ∷ ls) (b ∷ bs) p q = ap suc (back_length ds ls bs (omega arith) (omega arith))

-- the first j as they were, then the places from j on done, then the places past the rank
abbrev pub backed : List Float → List (List Float) → List Float → ℕ → ℕ → List Float
backed ds ls ws full j = take j ws ++ (backward (drop j (take full ds)) (drop j (take full ls)) (drop j (take full ws)) ++ drop full ws)

back_cons : (d : Float) (ds : List Float) (l : List Float) (ls : List (List Float)) (b : Float) (bs : List Float) (k : ℕ) → length (backward ds ls bs) ≡ k
    → backward (d ∷ ds) (l ∷ ls) (b ∷ bs) ≡ div binary64 (sub binary64 b (dot_of (take k l) (backward ds ls bs))) d ∷ backward ds ls bs
unfolding backward
back_cons d ds l ls b bs k e = rw e

module _ (ds : List Float) (ls : List (List Float)) (ws : List Float) (full : ℕ) (hd : full ≤ length ds) (hl : full ≤ length ls) (hw : full ≤ length ws) where
  pub back_none : ws ≡ backed ds ls ws full full
  unfolding backward
  back_none =
      let e : length (take full ds) ≡ full = length-take-le full ds hd in
      rw (drop_of_length-le (take full ds) {i = full} (omega arith)) (sym (take-append-drop full ws))

  done_length : (j : ℕ) → length (backward (drop j (take full ds)) (drop j (take full ls)) (drop j (take full ws))) ≡ full - j
  done_length j =
      let a : length (drop j (take full ws)) ≡ full - j = simp (length-drop, length-take) (omega arith) in
      let b : length (drop j (take full ds)) ≡ full - j = simp (length-drop, length-take) (omega arith) in
      let c : length (drop j (take full ls)) ≡ full - j = simp (length-drop, length-take) (omega arith) in
      back_length (drop j (take full ds)) (drop j (take full ls)) (drop j (take full ws)) (omega arith) (omega arith) ∙ a

  done_cons : (j : ℕ) → j < full → (let xs = backward (drop (suc j) (take full ds)) (drop (suc j) (take full ls)) (drop (suc j) (take full ws)) in
      backward (drop j (take full ds)) (drop j (take full ls)) (drop j (take full ws))
      ≡ div binary64 (sub binary64 (get_or ws j nan) (dot_of (take (full - suc j) (get_or ls j [])) xs)) (get_or ds j nan) ∷ xs)
  done_cons j h =
      let a : length (take full ws) ≡ full = length-take-le full ws hw in
      let b : length (take full ds) ≡ full = length-take-le full ds hd in
      let c : length (take full ls) ≡ full = length-take-le full ls hl in
      rw (
        drop-cons (take full ds) j nan (omega arith),
        drop-cons (take full ls) j [] (omega arith),
        drop-cons (take full ws) j nan (omega arith),
        get_or-take full ds j nan h,
        get_or-take full ls j [] h,
        get_or-take full ws j nan h,
      )
      (back_cons (get_or ds j nan) (drop (suc j) (take full ds)) (get_or ls j []) (drop (suc j) (take full ls)) (get_or ws j nan) (drop (suc j) (take full ws)) (full - suc j) (done_length (suc j)))

  pub back_turn : (w w' : List Float) (i j : ℕ) → j < full → i ≡ suc j → w ≡ backed ds ls ws full i
      → w' ≡ set w j (div binary64 (sub binary64 (get_or w j nan) (dot_of (take (full - suc j) (get_or ls j [])) (take (full - suc j) (drop (suc j) w)))) (get_or ds j nan))
      → w' ≡ backed ds ls ws full j
  back_turn w w' i j h g e f =
      let xs = backward (drop (suc j) (take full ds)) (drop (suc j) (take full ls)) (drop (suc j) (take full ws)) in
      let p : length (take (suc j) ws) ≡ suc j = length-take-le (suc j) ws (omega arith) in
      let r : length (take j ws) ≡ j = length-take-le j ws (omega arith) in
      let v : w ≡ take (suc j) ws ++ (xs ++ drop full ws) = e ∙ ap (backed ds ls ws full) g in
      let a : get_or w j nan ≡ get_or ws j nan = ap (λ (x : List Float). get_or x j nan) v ∙ get_or-append (take (suc j) ws) (xs ++ drop full ws) nan j (omega arith) ∙ get_or-take (suc j) ws j nan (le_refl (suc j)) in
      let b : take (full - suc j) (drop (suc j) w) ≡ xs = ap (λ (x : List Float). take (full - suc j) (drop (suc j) x)) v ∙ ap (take (full - suc j)) (drop_at (take (suc j) ws) (xs ++ drop full ws) (suc j) p) ∙ take_at xs (drop full ws) (full - suc j) (done_length (suc j)) in
      let u : w ≡ take j ws ++ (get_or ws j nan ∷ (xs ++ drop full ws)) = v ∙ ap (λ (x : List Float). x ++ (xs ++ drop full ws)) (take-suc ws j nan (omega arith)) ∙ append_snoc (take j ws) (get_or ws j nan) (xs ++ drop full ws) in
      f ∙ rw (a, b) (rw (u, set_at (take j ws) (get_or ws j nan) (xs ++ drop full ws) (div binary64 (sub binary64 (get_or ws j nan) (dot_of (take (full - suc j) (get_or ls j [])) xs)) (get_or ds j nan)) j r, done_cons j h))

pub damped_law : (n k : ℕ) (ds : List Float) (ls : List (List Float)) (w w₁ w₂ : List Float) → length ds ≡ n → length ls ≡ n → length w ≡ n → k ≡ rank ds
    → w₁ ≡ take k w ++ zeros (length w - k) → w₂ ≡ backward (take k ds) (take k ls) (take k w₁) ++ drop k w₁ → w₂ ≡ damped_solved ds ls w
unfolding damped_solved
damped_law n k ds ls w w₁ w₂ c₁ c₂ c₃ r e f =
    let h : k ≤ n = omega (arith, rank_most ds) in
    let p : length (take k w) ≡ k = length-take-le k w (omega arith) in
    let a₁ : length (take k ds) ≡ k = length-take-le k ds (omega arith) in
    let a₂ : length (take k ls) ≡ k = length-take-le k ls (omega arith) in
    let j : length (backward (take k ds) (take k ls) (take k w)) ≡ k = back_length (take k ds) (take k ls) (take k w) (omega arith) (omega arith) ∙ p in
    f ∙ rw (cleared-take k w w₁ (omega arith) e, cleared-drop k w w₁ (omega arith) e)
    (ap (λ (v : ℕ). backward (take k ds) (take k ls) (take k w) ++ zeros (length w - v)) (sym j)
    ∙ ap (λ (v : ℕ). padded (length w) (backward (take v ds) (take v ls) (take v w))) r)
