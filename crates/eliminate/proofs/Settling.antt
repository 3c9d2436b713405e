-- Row by row: the new row begun, the row that is done put away, all of it, as laws. Assumes nothing.
use mathlib.Core.Path.{◌≡◌, refl, sym, ap, ◌∙◌}
use mathlib.Core.Bool.{true, false}
use mathlib.Core.List.{List, [], ◌∷◌, ◌++◌, map, append-nil}
use Prim.Native.Nat.{ℕ, zero, suc, ◌+◌, ◌-◌, ◌<◌, ◌≤◌}
use native.Mathlib.Numerals.{add-one}
use native.Mathlib.Nat.{not-suc-le-zero, le_of_suc-le-suc, le_refl}
use native.Mathlib.Omega.{arith}
use lib.ListN.{length, get_or, take, drop, set, length-drop, length-map, take-append-drop, drop_of_length-le, get_or-map}
use lib.Seq.{drop-cons, drop_at, take_at, take-suc, take-suc-set, take_all, append_snoc, drop-set-lt, map-set_same, length-take-le}
use lib.Ieee.{Float, nan, eq}
use Rattle.leaves.specs.Number.{plus_zero}
use Rattle.leaves.specs.Triangle.{columns}
use Rattle.leaves.specs.Square.{zeros}
use Rattle.eliminate.specs.Eliminate.{Rows, cons, rotated, started, eliminated, damping, heads, tails}
use Rattle.eliminate.specs.inner.Edges.{edges_of, aboves_of, up_to, ahead, Turns, Ends, Mirrors, Settles, Eliminates}
use Rattle.eliminate.proofs.Triangular.{edges_of-length, heads-length, belows_tails, uppers_by}
use Rattle.leaves.specs.inner.Squares.{Square}

-- ---- a row begun
pub start_skipped : (n j : ℕ) (s bs : List Float) (d : Float) → eq d plus_zero ≡ true
    → Turns n s s bs (up_to j (edges_of n s) bs (started d (drop j (edges_of n s)) (drop j bs)))
unfolding started
start_skipped n j s bs d t =
    record {
      rows = rw (t, started) (sym (take-append-drop j (edges_of n s)));
      right = rw (t, started) (sym (take-append-drop j bs));
      above = refl;
    }

-- the local row: d at place j and zeros after it
begun : (m j n : ℕ) (d : Float) → j < n → n ≤ m → drop j (take n (set (zeros m) j d)) ≡ d ∷ zeros (n - j - 1)
begun zero j n d h k = absurd (omega arith)
begun (suc m) j zero d h k = absurd (not-suc-le-zero h)
begun (suc m) zero (suc n) d h k = let e : suc n - 0 - 1 ≡ n = omega arith in rw e (ap (λ (l : List Float). d ∷ l) (cut m n (le_of_suc-le-suc k)))
  where
    cut : (m n : ℕ) → n ≤ m → take n (zeros m) ≡ zeros n
    cut m zero h = refl
    cut zero (suc n) h = absurd (not-suc-le-zero h)
    cut (suc m) (suc n) h = ap (λ (l : List Float). plus_zero ∷ l) (cut m n (le_of_suc-le-suc h))
begun (suc m) (suc j) (suc n) d h k = let e : suc n - suc j - 1 ≡ n - j - 1 = omega arith in rw e (begun m j n d (le_of_suc-le-suc h) (le_of_suc-le-suc k))

pub start-turned : (n j : ℕ) (s s' bs bs' l : List Float) (d : Float) → n ≤ 16 → j < n → eq d plus_zero ≡ false → l ≡ zeros 16
    → Turns n s s' bs' (ahead n j s bs (take n (set l j d)) plus_zero)
    → Turns n s s' bs' (up_to j (edges_of n s) bs (started d (drop j (edges_of n s)) (drop j bs)))
unfolding started
start-turned n j s s' bs bs' l d k h t e m =
    let w : length (drop j (edges_of n s)) - 1 ≡ n - j - 1 = simp length-drop (omega (arith, edges_of-length n s)) in
    let r : drop j (take n (set l j d)) ≡ d ∷ zeros (length (drop j (edges_of n s)) - 1) = rw (e, w) (begun 16 j n d h k) in
    let f : started d (drop j (edges_of n s)) (drop j bs) ≡ rotated (drop j (edges_of n s)) (drop j bs) (drop j (take n (set l j d))) plus_zero = rw (r, t, started) in
    rw f m

-- ---- a row done
-- rows before j are put away: their first in ldiag, the first of s₀ back in its place
pub record Settling (n j : ℕ) (ds s₀ s bs ldiag : List Float) (x : Rows) : Type 0 where
  pub first : take j (heads (edges_of n s)) ≡ take j (heads (edges_of n s₀))
  pub rows : take j (tails (edges_of n s)) ++ tails (eliminated (drop j ds) (drop j (edges_of n s)) (drop j bs)).0 ≡ tails x.0
  pub diagonal : take j ldiag ++ heads (eliminated (drop j ds) (drop j (edges_of n s)) (drop j bs)).0 ≡ heads x.0
  pub right : take j bs ++ (eliminated (drop j ds) (drop j (edges_of n s)) (drop j bs)).1 ≡ x.1
  pub above : aboves_of n s ≡ aboves_of n s₀

next : (d : Float) (ds : List Float) (rows rows₁ : List (List Float)) (row : List Float) (bs bs₁ : List Float) (b : Float)
    → (started d rows bs).0 ≡ row ∷ rows₁ → (started d rows bs).1 ≡ b ∷ bs₁ → eliminated (d ∷ ds) rows bs ≡ cons row b (eliminated ds rows₁ bs₁)
unfolding eliminated
next d ds rows rows₁ row bs bs₁ b e f = rw (e, f)

-- what is ahead of row j, by what has begun it
pub ahead_next : (j : ℕ) (ds : List Float) (E E₁ : List (List Float)) (bs bs₁ : List Float) → j < length ds → j < length E → j < length E₁ → j < length bs → j < length bs₁
    → (let x = started (get_or ds j nan) (drop j E) (drop j bs) in
    E₁ ≡ take j E ++ x.0 → bs₁ ≡ take j bs ++ x.1
    → eliminated (drop j ds) (drop j E) (drop j bs) ≡ cons (get_or E₁ j []) (get_or bs₁ j nan) (eliminated (drop (suc j) ds) (drop (suc j) E₁) (drop (suc j) bs₁)))
ahead_next j ds E E₁ bs bs₁ hd hE hE₁ hb hb₁ e f =
    let x = started (get_or ds j nan) (drop j E) (drop j bs) in
    let p : x.0 ≡ drop j E₁ = sym (ap (λ (l : List (List Float)). drop j l) e ∙ drop_at (take j E) x.0 j (length-take-le j E (omega arith))) in
    let r : x.1 ≡ drop j bs₁ = sym (ap (λ (l : List Float). drop j l) f ∙ drop_at (take j bs) x.1 j (length-take-le j bs (omega arith))) in
    rw (drop-cons ds j nan hd)
    (next (get_or ds j nan) (drop (suc j) ds) (drop j E) (drop (suc j) E₁) (get_or E₁ j []) (drop j bs) (drop (suc j) bs₁) (get_or bs₁ j nan)
    (p ∙ drop-cons E₁ j [] hE₁) (r ∙ drop-cons bs₁ j nan hb₁))

map_front : {A : Type 0} (f : List Float → A) (j : ℕ) (l r : List (List Float)) → j ≤ length l → take j (map f (take j l ++ r)) ≡ take j (map f l)
map_front f zero l r h = refl
map_front f (suc j) [] r h = absurd (not-suc-le-zero h)
map_front {A} f (suc j) (x ∷ l) r h = ap (λ (z : List A). f x ∷ z) (map_front f j l r (le_of_suc-le-suc h))

heads_front : (j : ℕ) (l r : List (List Float)) → j ≤ length l → take j (heads (take j l ++ r)) ≡ take j (heads l)
unfolding heads
heads_front j l r h = map_front (λ (z : List Float). get_or z 0 nan) j l r h

tails_front : (j : ℕ) (l r : List (List Float)) → j ≤ length l → take j (tails (take j l ++ r)) ≡ take j (tails l)
unfolding tails
tails_front j l r h = map_front (λ (z : List Float). drop 1 z) j l r h

heads-set : (l : List (List Float)) (j : ℕ) (y : List Float) → heads (set l j y) ≡ set (heads l) j (get_or y 0 nan)
unfolding heads
heads-set [] j y = refl
heads-set (x ∷ l) zero y = refl
heads-set (x ∷ l) (suc j) y = ap (λ (z : List Float). get_or x 0 nan ∷ z) (heads-set l j y)

tails-same : (l : List (List Float)) (j : ℕ) (v : Float) → tails (set l j (v ∷ drop 1 (get_or l j []))) ≡ tails l
unfolding tails
tails-same l j v = map-set_same (λ (z : List Float). drop 1 z) l j (v ∷ drop 1 (get_or l j [])) [] refl

pub tails-length : (l : List (List Float)) → length (tails l) ≡ length l
unfolding tails
tails-length l = length-map l (λ (z : List Float). drop 1 z)

-- the row at j taken to the ones that are done
tails_next : (l m : List (List Float)) (j : ℕ) → j < length l → take (suc j) (tails l) ++ tails m ≡ take j (tails l) ++ tails (get_or l j [] ∷ m)
unfolding tails
tails_next l m j h =
    let a = length-map l (λ (z : List Float). drop 1 z) in
    rw (take-suc (tails l) j [] (omega arith), get_or-map (λ (z : List Float). drop 1 z) l j [])
    (append_snoc (take j (tails l)) (drop 1 (get_or l j [])) (tails m))

heads_next : (ldiag : List Float) (row : List Float) (m : List (List Float)) (j : ℕ) → j < length ldiag
    → take (suc j) (set ldiag j (get_or row 0 nan)) ++ heads m ≡ take j ldiag ++ heads (row ∷ m)
unfolding heads
heads_next ldiag row m j h = rw (take-suc-set ldiag j (get_or row 0 nan) h) (append_snoc (take j ldiag) (get_or row 0 nan) (heads m))

module _ (n j : ℕ) (ds s₀ s s₁ s₂ bs bs₁ ldiag : List Float) (v old : Float) {x : Rows} (h : j < n) (hd : length ds ≡ n) (hb : length bs ≡ n) (hb₁ : length bs₁ ≡ n) (hl : length ldiag ≡ n) where
  -- LAW: row j begun, rotated, and put away
  pub settle_turn : v ≡ get_or (heads (edges_of n s₀)) j nan → Settling n j ds s₀ s bs ldiag x
      → Turns n s s₁ bs₁ (up_to j (edges_of n s) bs (started (get_or ds j nan) (drop j (edges_of n s)) (drop j bs)))
      → Ends n j s₁ s₂ v old → Settling n (j + 1) ds s₀ s₂ bs₁ (set ldiag j old) x
  settle_turn hv i t w =
      let E = edges_of n s in
      let E₁ = edges_of n s₁ in
      let x' = started (get_or ds j nan) (drop j E) (drop j bs) in
      let e₀ = edges_of-length n s₀ in
      let e = edges_of-length n s in
      let e₁ = edges_of-length n s₁ in
      let B = eliminated (drop (suc j) ds) (drop (suc j) E₁) (drop (suc j) bs₁) in
      let a : eliminated (drop j ds) (drop j E) (drop j bs) ≡ cons (get_or E₁ j []) (get_or bs₁ j nan) B =
      ahead_next j ds E E₁ bs bs₁ (omega arith) (omega arith) (omega arith) (omega arith) (omega arith) t.rows t.right in
      let d : drop (suc j) (edges_of n s₂) ≡ drop (suc j) E₁ = rw w.rows (drop-set-lt (suc j) E₁ j (v ∷ drop 1 (get_or E₁ j [])) (le_refl (suc j))) in
      let hh : take j (heads E₁) ≡ take j (heads E) = rw t.rows (heads_front j E x'.0 (omega arith)) in
      let tt' : take j (tails E₁) ≡ take j (tails E) = rw t.rows (tails_front j E x'.0 (omega arith)) in
      let bb : take j bs₁ ≡ take j bs = rw t.right (take_at (take j bs) x'.1 j (length-take-le j bs (omega arith))) in
      record {
        first = rw (w.rows, heads-set E₁ j (v ∷ drop 1 (get_or E₁ j [])), add-one, take-suc-set (heads E₁) j v (omega (arith, heads-length E₁)), hh, i.first, hv)
            (sym (take-suc (heads (edges_of n s₀)) j nan (omega (arith, heads-length (edges_of n s₀)))));
        rows = rw (add-one, d, w.rows, tails-same E₁ j v) (tails_next E₁ B.0 j (omega arith) ∙ rw tt' (rw a at i.rows));
        diagonal = rw (add-one, d, w.first) (heads_next ldiag (get_or E₁ j []) B.0 j (omega arith) ∙ (rw a at i.diagonal));
        right = rw (add-one, d, take-suc bs₁ j nan (omega arith)) (append_snoc (take j bs₁) (get_or bs₁ j nan) B.1 ∙ rw bb (rw a at i.right));
        above = w.above ∙ t.above ∙ i.above;
      }

-- LAW: all rows put away
pub settle_done : (n j : ℕ) (ds s₀ s bs ldiag : List Float) {x : Rows} → n ≤ j → length ds ≡ n → length bs ≡ n → length ldiag ≡ n
    → Settling n j ds s₀ s bs ldiag x → Settles n s₀ s bs ldiag x
unfolding heads tails eliminated
settle_done n j ds s₀ s bs ldiag {x} h hd hb hl i =
    let e = edges_of-length n s in
    let e₀ = edges_of-length n s₀ in
    let a : drop j ds ≡ [] = drop_of_length-le ds {i = j} (omega arith) in
    let b : drop j (edges_of n s) ≡ [] = drop_of_length-le (edges_of n s) {i = j} (omega arith) in
    let c : drop j bs ≡ [] = drop_of_length-le bs {i = j} (omega arith) in
    let k : eliminated (drop j ds) (drop j (edges_of n s)) (drop j bs) ≡ ([], []) = rw (a, b, c) in
    record {
      first = sym (take_all j (heads (edges_of n s)) (omega (arith, heads-length (edges_of n s)))) ∙ i.first ∙ take_all j (heads (edges_of n s₀)) (omega (arith, heads-length (edges_of n s₀)));
      rows = sym (rw (take_all j (tails (edges_of n s)) (omega (arith, tails-length (edges_of n s)))) (append-nil (tails (edges_of n s)))) ∙ (rw k at i.rows);
      diagonal = sym (rw (take_all j ldiag (omega arith)) (append-nil ldiag)) ∙ (rw k at i.diagonal);
      right = sym (rw (take_all j bs (omega arith)) (append-nil bs)) ∙ (rw k at i.right);
      above = i.above;
    }

-- LAW: mirrored, eliminated, R's diagonal put back
pub eliminates_by : (n : ℕ) (ds s₀ s₁ s₂ bs bs₂ ldiag : List Float) → Square n s₁ → Square n s₂ → Mirrors n s₀ s₁
    → Settles n s₁ s₂ bs₂ ldiag (eliminated ds (edges_of n s₁) bs) → Eliminates n ds s₀ s₂ bs bs₂ ldiag
unfolding damping
eliminates_by n ds s₀ s₁ s₂ bs bs₂ ldiag q₁ q₂ m t =
    record {
      upper = uppers_by n s₂ s₁ q₂ q₁ t.above t.first ∙ m.upper;
      below = belows_tails 0 (columns n n s₂) ∙ (rw m.rows at t.rows);
      diagonal = rw m.rows at t.diagonal;
      right = rw m.rows at t.right;
    }
