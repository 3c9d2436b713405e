-- What is known of the numbers of the free columns, of numbers that are put back at them, and of a store without the frozen columns. Assumes nothing.
use Prim.Native.Nat.{ℕ, zero, suc, ◌+◌, ◌-◌, ◌*◌, ◌≤◌, ◌<◌}
use mathlib.Core.Path.{◌≡◌, refl, sym, ap, ◌∙◌, subst}
use mathlib.Core.Bool.{Bool, true, false, not, true≢false, and-eq-true_iff}
use mathlib.Core.List.{List, [], ◌∷◌, ◌++◌, map, append_assoc}
use native.Mathlib.Nat.{suc-mul, mul-suc, zero-mul, mul-zero, mul-le-mul, le_refl}
use native.Mathlib.Omega.{arith}
use lib.ListN.{length, take, drop, get_or, length-append, length-drop}
use lib.Seq.{drop-drop, length-take-le, take-take, take-add, take_at, drop_at}
use lib.Ieee.{Float, eq}
use Rattle.leaves.specs.Number.{is_finite, plus_zero}
use Rattle.leaves.specs.Square.{uppers_from, belows_from}
use Rattle.leaves.specs.Tests.{all_finite, none_zero}
use Rattle.leaves.specs.Triangle.{columns}
use Rattle.leaves.proofs.Splices.{drop-take, drop_past}
use Rattle.frozen.specs.Frozen.{marks_of, next_of, free_count, free_of, merged, free_columns}
use Rattle.frozen.specs.Narrowed.{runs, narrowed}
use Rattle.frozen.proofs.Runs.{runs-length}

pub marks-length : (n x : ℕ) → length (marks_of n x) ≡ n
unfolding marks_of
marks-length zero x = refl
marks-length (suc n) x = ap suc (marks-length n (next_of x))

-- ---- the numbers of the free columns

module _ {A : Type 0} where
  pub free_length : (ms : List Bool) (xs : List A) → length ms ≤ length xs → length (free_of ms xs) ≡ free_count ms
  unfolding free_of free_count
  free_length [] xs h = refl
  free_length (b ∷ ms) [] h = absurd (omega arith)
  free_length (true ∷ ms) (x ∷ xs) h = free_length ms xs (omega arith)
  free_length (false ∷ ms) (x ∷ xs) h = ap suc (free_length ms xs (omega arith))

  -- LAW: what was put there is read there
  pub free_of_merged : (ms : List Bool) (old new : List A) → length ms ≤ length old → length new ≡ free_count ms → free_of ms (merged ms old new) ≡ new
  unfolding free_of free_count merged
  free_of_merged [] old [] h e = refl
  free_of_merged [] old (x ∷ xs) h e = absurd (omega arith)
  free_of_merged (b ∷ ms) [] new h e = absurd (omega arith)
  free_of_merged (true ∷ ms) (o ∷ os) new h e = free_of_merged ms os new (omega arith) e
  free_of_merged (false ∷ ms) (o ∷ os) [] h e = absurd (omega arith)
  free_of_merged (false ∷ ms) (o ∷ os) (x ∷ xs) h e = ap (λ (l : List A). x ∷ l) (free_of_merged ms os xs (omega arith) (omega arith))

  pub merged_length : (ms : List Bool) (old new : List A) → length (merged ms old new) ≡ length old
  unfolding merged
  merged_length [] old new = refl
  merged_length (b ∷ ms) [] new = refl
  merged_length (true ∷ ms) (o ∷ os) new = ap suc (merged_length ms os new)
  merged_length (false ∷ ms) (o ∷ os) [] = refl
  merged_length (false ∷ ms) (o ∷ os) (x ∷ xs) = ap suc (merged_length ms os xs)

  -- LAW: at a frozen column stays what stood there
  pub merged_frozen : (ms : List Bool) (old new : List A) (k : ℕ) (d : A) → get_or ms k false ≡ true → get_or (merged ms old new) k d ≡ get_or old k d
  unfolding merged
  merged_frozen [] old new k d h = refl
  merged_frozen (b ∷ ms) [] new k d h = refl
  merged_frozen (true ∷ ms) (o ∷ os) new zero d h = refl
  merged_frozen (true ∷ ms) (o ∷ os) new (suc k) d h = merged_frozen ms os new k d h
  merged_frozen (false ∷ ms) (o ∷ os) [] k d h = refl
  merged_frozen (false ∷ ms) (o ∷ os) (x ∷ xs) zero d h = absurd (true≢false (sym h))
  merged_frozen (false ∷ ms) (o ∷ os) (x ∷ xs) (suc k) d h = merged_frozen ms os xs k d h

pub free_finite : (ms : List Bool) (xs : List Float) → all_finite (take (length ms) xs) ≡ true → all_finite (free_of ms xs) ≡ true
unfolding all_finite free_of
free_finite [] xs h = refl
free_finite (b ∷ ms) [] h = refl
free_finite (true ∷ ms) (x ∷ xs) h = free_finite ms xs ((and-eq-true_iff (is_finite x) (all_finite (take (length ms) xs))).0 h).1
free_finite (false ∷ ms) (x ∷ xs) h =
    let w = (and-eq-true_iff (is_finite x) (all_finite (take (length ms) xs))).0 h in
    (and-eq-true_iff (is_finite x) (all_finite (free_of ms xs))).1 (w.0, free_finite ms xs w.1)

pub free_none_zero : (ms : List Bool) (xs : List Float) → none_zero (take (length ms) xs) ≡ true → none_zero (free_of ms xs) ≡ true
unfolding none_zero free_of
free_none_zero [] xs h = refl
free_none_zero (b ∷ ms) [] h = refl
free_none_zero (true ∷ ms) (x ∷ xs) h = free_none_zero ms xs ((and-eq-true_iff (not (eq x plus_zero)) (none_zero (take (length ms) xs))).0 h).1
free_none_zero (false ∷ ms) (x ∷ xs) h =
    let w = (and-eq-true_iff (not (eq x plus_zero)) (none_zero (take (length ms) xs))).0 h in
    (and-eq-true_iff (not (eq x plus_zero)) (none_zero (free_of ms xs))).1 (w.0, free_none_zero ms xs w.1)

-- ---- runs, one after the other

-- run i of k
pub run_at : (w apart k i : ℕ) (s : List Float) → w ≤ apart → k * apart ≤ length s → i < k → take w (drop (i * w) (runs w apart k s)) ≡ take w (drop (i * apart) s)
unfolding runs
run_at w apart zero i s h l p = absurd (omega arith)
run_at w apart (suc k) zero s h l p =
    let e = suc-mul k apart in
    let t = length-take-le w s (omega arith) in
    rw (zero-mul w, zero-mul apart) (take_at (take w s) (runs w apart k (drop apart s)) w t)
run_at w apart (suc k) (suc i) s h l p =
    let e = suc-mul k apart in
    let f : w + i * w ≡ suc i * w = omega (arith, suc-mul i w) in
    let g : apart + i * apart ≡ suc i * apart = omega (arith, suc-mul i apart) in
    let t = length-take-le w s (omega arith) in
    ap (λ (x : List Float). take w x) (drop_past (i * w) (take w s) (runs w apart k (drop apart s)) t f)
    ∙ run_at w apart k i (drop apart s) h (simp length-drop (omega arith)) (omega arith)
    ∙ ap (λ (x : List Float). take w x) (drop-drop (i * apart) apart s ∙ ap (λ (j : ℕ). drop j s) g)

-- the columns of what is narrowed are the first of each column
pub runs-columns : (w apart k : ℕ) (s rest : List Float) → w ≤ apart → k * apart ≤ length s
    → columns w k (runs w apart k s ++ rest) ≡ map (λ (c : List Float). take w c) (columns apart k s)
unfolding runs columns
runs-columns w apart zero s rest h l = refl
runs-columns w apart (suc k) s rest h l =
    let e = suc-mul k apart in
    let t = length-take-le w s (omega arith) in
    rw (append_assoc (take w s) (runs w apart k (drop apart s)) rest, take_at (take w s) (runs w apart k (drop apart s) ++ rest) w t, drop_at (take w s) (runs w apart k (drop apart s) ++ rest) w t, take-take w apart s h)
    (ap (λ (cs : List (List Float)). take w s ∷ cs) (runs-columns w apart k (drop apart s) rest h (simp length-drop (omega arith))))

-- the first k of n columns
pub columns_fewer : (apart k n : ℕ) (s : List Float) → k ≤ n → columns apart k s ≡ take k (columns apart n s)
unfolding columns
columns_fewer apart zero n s h = refl
columns_fewer apart (suc k) zero s h = absurd (omega arith)
columns_fewer apart (suc k) (suc n) s h = ap (λ (cs : List (List Float)). take apart s ∷ cs) (columns_fewer apart k n (drop apart s) (omega arith))

-- ---- a square cut down, by its upper and its lower ends

pub uppers_fewer : (j k : ℕ) (cs : List (List Float)) → uppers_from j (take k cs) ≡ take k (uppers_from j cs)
unfolding uppers_from
uppers_fewer j zero cs = refl
uppers_fewer j (suc k) [] = refl
uppers_fewer j (suc k) (c ∷ cs) = ap (λ (us : List (List Float)). take (suc j) c ∷ us) (uppers_fewer (suc j) k cs)

pub belows_fewer : (j k : ℕ) (cs : List (List Float)) → belows_from j (take k cs) ≡ take k (belows_from j cs)
unfolding belows_from
belows_fewer j zero cs = refl
belows_fewer j (suc k) [] = refl
belows_fewer j (suc k) (c ∷ cs) = ap (λ (us : List (List Float)). drop (suc j) c ∷ us) (belows_fewer (suc j) k cs)

pub uppers_cut : (w j : ℕ) (cs : List (List Float)) → j + length cs ≤ w → uppers_from j (map (λ (c : List Float). take w c) cs) ≡ uppers_from j cs
unfolding uppers_from
uppers_cut w j [] h = refl
uppers_cut w j (c ∷ cs) h = rw (take-take (suc j) w c (omega arith), uppers_cut w (suc j) cs (omega arith))

-- of each lower end what is left where a column has w numbers
abbrev pub cut_from : ℕ → ℕ → List (List Float) → List (List Float)
cut_from w j [] = []
cut_from w j (l ∷ ls) = take (w - suc j) l ∷ cut_from w (suc j) ls

pub belows_cut : (w j : ℕ) (cs : List (List Float)) → belows_from j (map (λ (c : List Float). take w c) cs) ≡ cut_from w j (belows_from j cs)
unfolding belows_from
belows_cut w j [] = refl
belows_cut w j (c ∷ cs) = rw (drop-take (suc j) w c, belows_cut w (suc j) cs)

-- ---- a store without the frozen columns

module _ (n free : ℕ) (s : List Float) (fits : free ≤ n) (long : n * n + 4 * n ≤ length s) where
  square_long : free * n ≤ length s
  square_long = let w : free * n ≤ n * n = mul-le-mul fits (le_refl n) in omega arith

  parts_long : 4 * n ≤ length (drop (n * n) s)
  parts_long = simp length-drop (omega arith)

  front_length : length (runs free n free s) ≡ free * free
  front_length = runs-length free n free s fits square_long

  -- LAW
  pub narrowed-length : length (narrowed n free s) ≡ free * free + 4 * free
  unfolding narrowed
  narrowed-length =
      let a = front_length in
      let b = runs-length free n 4 (drop (n * n) s) fits parts_long in
      length-append (runs free n free s) (runs free n 4 (drop (n * n) s)) ∙ omega arith

  -- LAW: the first columns, and the first of each
  pub narrowed-columns : columns free free (narrowed n free s) ≡ map (λ (c : List Float). take free c) (take free (columns n n s))
  unfolding narrowed
  narrowed-columns =
      runs-columns free n free s (runs free n 4 (drop (n * n) s)) fits square_long ∙ ap (λ (cs : List (List Float)). map (λ (c : List Float). take free c) cs) (columns_fewer n free n s fits)

  -- LAW: the first of each part
  pub narrowed_part : (k : ℕ) → k < 4 → take free (drop (free * free + k * free) (narrowed n free s)) ≡ take free (take n (drop (n * n + k * n) s))
  unfolding narrowed
  narrowed_part k h =
      ap (λ (x : List Float). take free x) (drop_past (k * free) (runs free n free s) (runs free n 4 (drop (n * n) s)) front_length refl)
      ∙ run_at free n 4 k (drop (n * n) s) fits parts_long h ∙ ap (λ (x : List Float). take free x) (drop-drop (k * n) (n * n) s)
      ∙ sym (take-take free n (drop (n * n + k * n) s) fits)

-- ---- the free columns of a matrix

module _ {A : Type 0} where
  pub free_columns-length : (m : ℕ) (ms : List Bool) (xs : List A) → m * length ms ≤ length xs → length (free_columns m ms xs) ≡ m * free_count ms
  unfolding free_columns free_count
  free_columns-length m [] xs h = sym (mul-zero m)
  free_columns-length m (true ∷ ms) xs h =
      let e = mul-suc m (length ms) in
      free_columns-length m ms (drop m xs) (simp length-drop (omega arith))
  free_columns-length m (false ∷ ms) xs h =
      let e = mul-suc m (length ms) in
      let f = mul-suc m (free_count ms) in
      let t = length-take-le m xs (omega arith) in
      let r = free_columns-length m ms (drop m xs) (simp length-drop (omega arith)) in
      length-append (take m xs) (free_columns m ms (drop m xs)) ∙ omega arith

finite-split : (xs ys : List Float) → all_finite (xs ++ ys) ≡ true → (all_finite xs ≡ true) × (all_finite ys ≡ true)
unfolding all_finite
finite-split [] ys h = (refl, h)
finite-split (x ∷ xs) ys h =
    let w = (and-eq-true_iff (is_finite x) (all_finite (xs ++ ys))).0 h in
    let r = finite-split xs ys w.1 in
    ((and-eq-true_iff (is_finite x) (all_finite xs)).1 (w.0, r.0), r.1)

finite_join : (xs ys : List Float) → all_finite xs ≡ true → all_finite ys ≡ true → all_finite (xs ++ ys) ≡ true
unfolding all_finite
finite_join [] ys h k = k
finite_join (x ∷ xs) ys h k =
    let w = (and-eq-true_iff (is_finite x) (all_finite xs)).0 h in
    (and-eq-true_iff (is_finite x) (all_finite (xs ++ ys))).1 (w.0, finite_join xs ys w.1 k)

-- the first column of some, and the further ones
column_split : (m k : ℕ) (xs : List Float) → all_finite (take (m * suc k) xs) ≡ true → (all_finite (take m xs) ≡ true) × (all_finite (take (m * k) (drop m xs)) ≡ true)
column_split m k xs h =
    let e : m * suc k ≡ m + m * k = omega (arith, mul-suc m k) in
    finite-split (take m xs) (take (m * k) (drop m xs)) (subst (λ (l : List Float). all_finite l ≡ true) (ap (λ (j : ℕ). take j xs) e ∙ take-add m (m * k) xs) h)

pub free_columns-finite : (m : ℕ) (ms : List Bool) (xs : List Float) → all_finite (take (m * length ms) xs) ≡ true → all_finite (free_columns m ms xs) ≡ true
unfolding free_columns all_finite
free_columns-finite m [] xs h = refl
free_columns-finite m (true ∷ ms) xs h = free_columns-finite m ms (drop m xs) (column_split m (length ms) xs h).1
free_columns-finite m (false ∷ ms) xs h =
    let w = column_split m (length ms) xs h in
    finite_join (take m xs) (free_columns m ms (drop m xs)) w.0 (free_columns-finite m ms (drop m xs) w.1)
