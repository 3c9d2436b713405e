-- One turn of the loop that tests an order list. Assumes nothing.
use mathlib.Core.Path.{◌≡◌, refl, sym}
use mathlib.Core.Bool.{Bool, true, false, not, ◌&&◌, and-true, and-false}
use mathlib.Core.List.{List, [], ◌∷◌}
use Prim.Native.Nat.{ℕ, zero, suc, ◌+◌, ◌<◌, ◌≤◌}
use native.Mathlib.Numerals.{add-one}
use lib.Dec.{eqb}
use lib.ListN.{length, get_or, take, drop, set, replicate, drop_of_length-le}
use lib.Seq.{drop-cons, get_or-set_same, get_or-set_other}
use borrow.Author.Tests.{lt-ltb, le-ltb, eqb-true, eqb-false}
use Rattle.factor.specs.Tests.{absent, distinct_below, is_permutation}

-- ---- 4: each entry below n, and none twice, with a mark at each number that was met
unfoldable pub unmet : List Bool → List ℕ → Bool
unmet met [] = true
unmet met (x ∷ xs) = not (get_or met x false) && unmet met xs

no_mark : (k x : ℕ) → get_or (replicate k false) x false ≡ false
no_mark zero x = refl
no_mark (suc k) zero = refl
no_mark (suc k) (suc x) = no_mark k x

none_met : (k : ℕ) (xs : List ℕ) → unmet (replicate k false) xs ≡ true
unfolding unmet
none_met k [] = refl
none_met k (x ∷ xs) = rw (no_mark k x) (none_met k xs)

unmet_set : (met : List Bool) (o : ℕ) (xs : List ℕ) → o < length met → unmet (set met o true) xs ≡ (absent o xs && unmet met xs)
unfolding unmet absent
unmet_set met o [] h = refl
unmet_set met o (x ∷ xs) h = go (eqb o x) refl (unmet_set met o xs h)
  where
    swapped : (m a u : Bool) → (m && (a && u)) ≡ (a && (m && u))
    swapped true a u = refl
    swapped false true u = refl
    swapped false false u = refl

    go : (b : Bool) → eqb o x ≡ b → unmet (set met o true) xs ≡ (absent o xs && unmet met xs)
        → (not (get_or (set met o true) x false) && unmet (set met o true) xs) ≡ ((not b && absent o xs) && (not (get_or met x false) && unmet met xs))
    go true e r = let q : get_or (set met o true) x false ≡ true = rw (← eqb-true o x e) (get_or-set_same met o true false h) in rw q
    go false e r =
        let q = get_or-set_other met o x true false (λ (z : x ≡ o). eqb-false o x e (sym z)) in
        rw (q, r) (swapped (not (get_or met x false)) (absent o xs) (unmet met xs))

grouped : (d a u : Bool) → (d && (a && u)) ≡ ((a && d) && u)
grouped true a u = rw (and-true a)
grouped false a u = rw (and-false a)

-- what is left to test, of the places that are left
abbrev pub to_meet : ℕ → List ℕ → List Bool → Bool
to_meet n left met = distinct_below n left && unmet met left

pub order-start : (n : ℕ) (order : List ℕ) (met : List Bool) → met ≡ replicate 16 false → to_meet n (take n order) met ≡ is_permutation n order
order-start n order met e = rw (e, none_met 16 (take n order)) (and-true (is_permutation n order))

module _ (os : List ℕ) (n k : ℕ) (met : List Bool) (h : k < length os) where
  pub order_high : n ≤ get_or os k 0 → to_meet n (drop k os) met ≡ false
  unfolding distinct_below
  order_high e = rw (drop-cons os k 0 h, le-ltb (get_or os k 0) n e)

  pub order_twice : get_or met (get_or os k 0) false ≡ true → to_meet n (drop k os) met ≡ false
  unfolding unmet
  order_twice e = rw (drop-cons os k 0 h, e) (and-false (distinct_below n (get_or os k 0 ∷ drop (suc k) os)))

  pub order_turn : get_or os k 0 < n → get_or os k 0 < length met → get_or met (get_or os k 0) false ≡ false
      → to_meet n (drop (k + 1) os) (set met (get_or os k 0) true) ≡ to_meet n (drop k os) met
  unfolding distinct_below unmet
  order_turn b r e =
      let rest = drop (suc k) os in
      rw (add-one, drop-cons os k 0 h, lt-ltb (get_or os k 0) n b, e, unmet_set met (get_or os k 0) rest r)
      (grouped (distinct_below n rest) (absent (get_or os k 0) rest) (unmet met rest))

pub order-end : (os : List ℕ) (n k : ℕ) (met : List Bool) → length os ≤ k → to_meet n (drop k os) met ≡ true
unfolding distinct_below unmet
order-end os n k met h = rw (drop_of_length-le os {i = k} h)
