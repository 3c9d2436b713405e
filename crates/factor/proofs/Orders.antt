-- What the permutation test tells of an order list that passes it: each entry is below n, none stands twice, and each number below n
-- stands somewhere; so that an answer laid out by the list covers its first n places and no other. Assumes nothing.
use mathlib.Core.Path.{◌≡◌, refl, sym, ◌∙◌}
use mathlib.Core.Bool.{Bool, true, false, cond, not, ◌&&◌, and-eq-true_iff}
use mathlib.Core.List.{List, [], ◌∷◌}
use mathlib.Core.Logic.{◌⊎◌, inl, inr, ⊎_elim}
use Prim.Native.Nat.{ℕ, zero, suc, ◌<◌, ◌≤◌}
use native.Mathlib.Nat.{not-suc-le-zero, le_of_suc-le-suc}
use native.Mathlib.Omega.{arith}
use lib.Dec.{ltb, eqb}
use lib.ListN.{length, get_or, take, drop, set, length-set}
use lib.Seq.{get_or-take, length-take-le, get_or-set_same, get_or-set_other, drop-set-lt}
use lib.Ieee.{Float, nan}
use borrow.Author.Tests.{lt-ltb, ltb-true, eqb-true, eqb-false, not-true}
use Rattle.factor.specs.Tests.{absent, distinct_below, is_permutation}
use Rattle.factor.specs.Solve.{scatter}
use Rattle.factor.proofs.Passed.{Ordered}
use Rattle.factor.specs.declared.state.State.{State}

-- ---- the test, one entry at a time
module _ (v x : ℕ) (xs : List ℕ) (h : absent v (x ∷ xs) ≡ true) where
  abbrev pub both-absent : (not (eqb v x) ≡ true) × (absent v xs ≡ true)
  unfolding absent
  both-absent = (and-eq-true_iff (not (eqb v x)) (absent v xs)).0 h

  pub other : v ≡ x → ⊥
  other = eqb-false v x (not-true (eqb v x) both-absent.0)

module _ (n x : ℕ) (xs : List ℕ) (h : distinct_below n (x ∷ xs) ≡ true) where
  abbrev pub three : (ltb x n && absent x xs ≡ true) × (distinct_below n xs ≡ true)
  unfolding distinct_below
  three = (and-eq-true_iff (ltb x n && absent x xs) (distinct_below n xs)).0 h

  first_below : x < n
  first_below = ltb-true x n ((and-eq-true_iff (ltb x n) (absent x xs)).0 three.0).0

  pub first_alone : absent x xs ≡ true
  first_alone = ((and-eq-true_iff (ltb x n) (absent x xs)).0 three.0).1

pub entry_below : (n : ℕ) (xs : List ℕ) → distinct_below n xs ≡ true → (k : ℕ) → k < length xs → get_or xs k 0 < n
entry_below n [] h k l = absurd (not-suc-le-zero l)
entry_below n (x ∷ xs) h zero l = first_below n x xs h
entry_below n (x ∷ xs) h (suc k) l = entry_below n xs (three n x xs h).1 k (le_of_suc-le-suc l)

-- ---- pigeonholes
abbrev without : ℕ → List ℕ → List ℕ
without v [] = []
without v (x ∷ xs) = cond (eqb v x) xs (x ∷ without v xs)

one_fewer : (v : ℕ) (xs : List ℕ) → length xs ≤ suc (length (without v xs))
one_fewer v [] = omega arith
one_fewer v (x ∷ xs) = go (eqb v x) (one_fewer v xs)
  where
    go : (b : Bool) → length xs ≤ suc (length (without v xs)) → suc (length xs) ≤ suc (length (cond b xs (x ∷ without v xs)))
    go true r = omega arith
    go false r = omega arith

still_absent : (w v : ℕ) (xs : List ℕ) → absent w xs ≡ true → absent w (without v xs) ≡ true
unfolding absent
still_absent w v [] h = refl
still_absent w v (x ∷ xs) h = go (eqb v x) (still_absent w v xs (both-absent w x xs h).1)
  where
    go : (b : Bool) → absent w (without v xs) ≡ true → absent w (cond b xs (x ∷ without v xs)) ≡ true
    go true r = (both-absent w x xs h).1
    go false r = rw (both-absent w x xs h).0 r

-- without n itself, what is below n + 1 is below n
lower : (n : ℕ) (xs : List ℕ) → absent n xs ≡ true → distinct_below (suc n) xs ≡ true → distinct_below n xs ≡ true
unfolding distinct_below
lower n [] a h = refl
lower n (x ∷ xs) a h =
    let p = first_below (suc n) x xs h in
    let q = other n x xs a in
    let l : x < n = omega arith in
    rw (lt-ltb x n l, first_alone (suc n) x xs h) (lower n xs (both-absent n x xs a).1 (three (suc n) x xs h).1)

lower_without : (n : ℕ) (xs : List ℕ) → distinct_below (suc n) xs ≡ true → distinct_below n (without n xs) ≡ true
unfolding distinct_below
lower_without n [] h = refl
lower_without n (x ∷ xs) h = go (eqb n x) refl (lower_without n xs (three (suc n) x xs h).1)
  where
    go : (b : Bool) → eqb n x ≡ b → distinct_below n (without n xs) ≡ true → distinct_below n (cond b xs (x ∷ without n xs)) ≡ true
    go true e r = lower n xs (rw (eqb-true n x e) (first_alone (suc n) x xs h)) (three (suc n) x xs h).1
    go false e r =
        let p = first_below (suc n) x xs h in
        let q = eqb-false n x e in
        let l : x < n = omega arith in
        rw (lt-ltb x n l, still_absent x n xs (first_alone (suc n) x xs h)) r

few : (n : ℕ) (xs : List ℕ) → distinct_below n xs ≡ true → length xs ≤ n
few zero [] h = omega arith
few zero (x ∷ xs) h = absurd (not-suc-le-zero (first_below 0 x xs h))
few (suc n) xs h = omega (arith, one_fewer n xs, few n (without n xs) (lower_without n xs h))

-- where v stands, or that it does not
abbrev At : ℕ → List ℕ → Type 0
At v xs = (k : ℕ) × ((k < length xs) × (get_or xs k 0 ≡ v))

seek : (v : ℕ) (xs : List ℕ) → (absent v xs ≡ true) ⊎ At v xs
unfolding absent
seek v [] = inl refl
seek v (x ∷ xs) = go (eqb v x) refl (seek v xs)
  where
    go : (b : Bool) → eqb v x ≡ b → (absent v xs ≡ true) ⊎ At v xs → (not b && absent v xs ≡ true) ⊎ At v (x ∷ xs)
    go true e r = inr (0, (omega arith, sym (eqb-true v x e)))
    go false e r = ⊎_elim (λ a. inl a) (λ p. inr (suc p.0, (omega (arith, p.1.0), p.1.1))) r

onto : (n : ℕ) (xs : List ℕ) → distinct_below n xs ≡ true → length xs ≡ n → (v : ℕ) → v < n → At v xs
unfolding distinct_below
onto n xs h e v l = ⊎_elim (λ a. absurd (omega (arith, few n (v ∷ xs) (rw (lt-ltb v n l, a) h)))) (λ p. p) (seek v xs)

-- ---- a permutation
module _ (n : ℕ) (order : List ℕ) (h : is_permutation n order ≡ true) (long : n ≤ length order) where
  pub permutation-below : (k : ℕ) → k < n → get_or order k 0 < n
  permutation-below k l =
      let e : length (take n order) ≡ n = length-take-le n order long in
      rw (get_or-take n order k 0 l) at (entry_below n (take n order) h k (omega arith))

  pub permutation_onto : (v : ℕ) → v < n → (k : ℕ) × ((k < n) × (get_or order k 0 ≡ v))
  permutation_onto v l =
      let e : length (take n order) ≡ n = length-take-le n order long in
      let p = onto n (take n order) h e v l in
      let q : p.0 < n = omega (arith, p.1.0) in
      (p.0, (q, sym (get_or-take n order p.0 0 q) ∙ p.1.1))

-- ---- an answer laid out by the list
scatter_else : (v : ℕ) (os : List ℕ) (xs out : List Float) → absent v os ≡ true → get_or (scatter os xs out) v nan ≡ get_or out v nan
unfolding scatter
scatter_else v [] xs out h = refl
scatter_else v (o ∷ os) [] out h = refl
scatter_else v (o ∷ os) (x ∷ xs) out h =
    scatter_else v os xs (set out o x) (both-absent v o os h).1 ∙ get_or-set_other out o v x nan (other v o os h)

scatter_entry : (n : ℕ) (os : List ℕ) (xs out : List Float) → distinct_below n os ≡ true → n ≤ length out → length os ≤ length xs
    → (k : ℕ) → k < length os → get_or (scatter os xs out) (get_or os k 0) nan ≡ get_or xs k nan
unfolding scatter
scatter_entry n [] xs out h r l k p = absurd (not-suc-le-zero p)
scatter_entry n (o ∷ os) [] out h r l k p = absurd (not-suc-le-zero l)
scatter_entry n (o ∷ os) (x ∷ xs) out h r l zero p =
    let b = first_below n o os h in
    scatter_else o os xs (set out o x) (first_alone n o os h) ∙ get_or-set_same out o x nan (omega arith)
scatter_entry n (o ∷ os) (x ∷ xs) out h r l (suc k) p =
    scatter_entry n os xs (set out o x) (three n o os h).1 (omega (arith, length-set out o x)) (le_of_suc-le-suc l) k (le_of_suc-le-suc p)

scatter_beyond : (n : ℕ) (os : List ℕ) (xs out : List Float) → distinct_below n os ≡ true → drop n (scatter os xs out) ≡ drop n out
unfolding scatter
scatter_beyond n [] xs out h = refl
scatter_beyond n (o ∷ os) [] out h = refl
scatter_beyond n (o ∷ os) (x ∷ xs) out h = scatter_beyond n os xs (set out o x) (three n o os h).1 ∙ drop-set-lt n out o x (first_below n o os h)

module _ (n : ℕ) (order : List ℕ) (xs out : List Float) (h : is_permutation n order ≡ true) (long : n ≤ length order) where
  abbrev laid : List Float
  laid = scatter (take n order) xs out

  -- entry k stands where the order list says
  pub scatter_at : n ≤ length xs → n ≤ length out → (k : ℕ) → k < n → get_or laid (get_or order k 0) nan ≡ get_or xs k nan
  scatter_at l r k p =
      let e : length (take n order) ≡ n = length-take-le n order long in
      rw (get_or-take n order k 0 p) at (scatter_entry n (take n order) xs out h r (omega arith) k (omega arith))

  -- each of the first n places is an entry of the answer: what stood there is overwritten
  pub scatter_onto : n ≤ length xs → n ≤ length out → (v : ℕ) → v < n → (k : ℕ) × ((k < n) × (get_or laid v nan ≡ get_or xs k nan))
  scatter_onto l r v p =
      let q = permutation_onto n order h long v p in
      (q.0, (q.1.0, rw q.1.1 at (scatter_at l r q.0 q.1.0)))

-- ---- an order list that passed its test
pub ordered-below : (st : State) (store : ℕ) (order : List ℕ) (shortest : ℕ) → Ordered st store order shortest
    → (k : ℕ) → k < st.n → get_or order k 0 < st.n
ordered-below st store order shortest o = permutation-below st.n order o.permuted o.order_long
