-- Elimination keeps the lengths of the rows, each one shorter than the one before it. Assumes nothing.
use mathlib.Core.Path.{◌≡◌, refl, sym, ap, ◌∙◌}
use mathlib.Core.Bool.{Bool, true, false, cond}
use mathlib.Core.List.{List, [], ◌∷◌}
use Prim.Native.Nat.{ℕ, zero, suc, ◌-◌, ◌<◌}
use native.Mathlib.Nat.{not-suc-le-zero, le_of_suc-le-suc}
use native.Mathlib.Omega.{arith}
use lib.ListN.{length, get_or, drop, length-drop, length-map, length-replicate}
use lib.Ieee.{Float, nan, eq}
use Rattle.leaves.specs.Number.{plus_zero}
use Rattle.leaves.specs.Square.{zeros}
use Rattle.eliminate.specs.Eliminate.{Rows, givens, left, rotated, started, onward, eliminated, rows_from, damping, tails}
use Rattle.eliminate.proofs.Rotations.{turned-length, left-length}

abbrev Stairs : List (List Float) → Type 0
Stairs [] = Unit {0}
Stairs (row ∷ rows) = (length row ≡ suc (length rows)) × Stairs rows

-- n rows: of n numbers, n - 1, .., 1
pub record Stepped (n : ℕ) (rows : List (List Float)) : Type 0 where
  pub wide : length rows ≡ n
  pub tall : Stairs rows

one_more : (n : ℕ) {row : List Float} {rows : List (List Float)} → length row ≡ suc n → Stepped n rows → Stepped (suc n) (row ∷ rows)
one_more n e h = record { wide = ap suc h.wide; tall = (e ∙ sym (ap suc h.wide), h.tall) }

abbrev By : ℕ → Rows → Type 0
By n x = Stepped n x.0

either : (n : ℕ) (b : Bool) (x y : Rows) → By n x → By n y → By n (elim b [ true ↦ x | false ↦ y ])
either n true x y p q = p
either n false x y p q = q

either-cond : (n : ℕ) (b : Bool) (x y : Rows) → By n x → By n y → By n (cond b x y)
either-cond n true x y p q = p
either-cond n false x y p q = q

-- ---- the new row
rotated_stepped : (rows : List (List Float)) (bs ls : List Float) (q : Float) → Stairs rows → length ls ≡ length rows
    → Stepped (length rows) (rotated rows bs ls q).0
unfolding rotated
rotated_stepped [] bs ls q h e = record { wide = refl; tall = tt }
rotated_stepped (row ∷ rows) [] ls q h e = record { wide = refl; tall = h }
rotated_stepped (row ∷ rows) (b ∷ bs) [] q h e = record { wide = refl; tall = h }
rotated_stepped (row ∷ rows) (b ∷ bs) (l ∷ ls) q h e =
    let g = givens (get_or row 0 nan) l in
    let w : length row ≡ suc (length rows) = h.0 in
    let d : length (drop 1 row) ≡ length ls = length-drop 1 row ∙ omega arith in
    either (suc (length rows)) (eq l plus_zero) _ _
    (one_more (length rows) w (rotated_stepped rows bs ls q h.1 (omega arith)))
    (one_more (length rows) (ap suc (turned-length g (drop 1 row) ls d) ∙ omega arith)
    (rotated_stepped rows bs _ (left g b q) h.1 (left-length g (drop 1 row) ls d ∙ omega arith)))

started_stepped : (d : Float) (rows : List (List Float)) (bs : List Float) → Stairs rows → Stepped (length rows) (started d rows bs).0
unfolding started rotated
started_stepped d [] bs h = either-cond 0 (eq d plus_zero) _ _ (record { wide = refl; tall = tt }) (record { wide = refl; tall = tt })
started_stepped d (row ∷ rows) bs h =
    let k = suc (length rows) - 1 in
    either-cond (suc (length rows)) (eq d plus_zero) _ _ (record { wide = refl; tall = h })
    (rotated_stepped (row ∷ rows) bs (d ∷ zeros k) plus_zero h (ap suc (length-replicate k plus_zero ∙ omega arith)))

-- ---- row by row
onward_stepped : (f : List (List Float) → List Float → Rows) (n : ℕ) → ((rs : List (List Float)) (cs : List Float) → Stairs rs → Stepped (length rs) (f rs cs).0)
    → (rows : List (List Float)) (bs : List Float) → Stepped n rows → Stepped n (onward f rows bs).0
onward_stepped f n g [] bs h = h
onward_stepped f n g (row ∷ rows) [] h = h
onward_stepped f n g (row ∷ rows) (b ∷ bs) h =
    let x = g rows bs h.tall.1 in
    record { wide = ap suc x.wide ∙ h.wide; tall = (h.tall.0 ∙ sym (ap suc x.wide), x.tall) }

eliminated_stepped : (ds : List Float) (rows : List (List Float)) (bs : List Float) → Stairs rows → Stepped (length rows) (eliminated ds rows bs).0
unfolding eliminated
eliminated_stepped [] rows bs h = record { wide = refl; tall = h }
eliminated_stepped (d ∷ ds) rows bs h =
    let x = started d rows bs in
    onward_stepped (λ rs cs. eliminated ds rs cs) (length rows) (λ rs cs k. eliminated_stepped ds rs cs k) x.0 x.1 (started_stepped d rows bs h)

rows_stepped : (k : ℕ) (cs : List (List Float)) → Stepped (length cs) (rows_from k cs)
unfolding rows_from
rows_stepped k [] = record { wide = refl; tall = tt }
rows_stepped k (c ∷ cs) = one_more (length cs) (length-map (c ∷ cs) (λ (d : List Float). get_or d k nan)) (rows_stepped (suc k) cs)

-- LAW: what elimination leaves of n columns
pub damping_stepped : (n : ℕ) (ds : List Float) (upper : List (List Float)) (qtb : List Float) → length upper ≡ n → Stepped n (damping ds upper qtb).0
unfolding damping
damping_stepped n ds upper qtb e =
    let w = rows_stepped 0 upper in
    let x = eliminated_stepped ds (rows_from 0 upper) qtb w.tall in
    record { wide = x.wide ∙ w.wide ∙ e; tall = x.tall }

-- LAW: row k without its first
pub tails_tall : (n : ℕ) (rows : List (List Float)) → Stepped n rows → (k : ℕ) → k < n → length (get_or (tails rows) k []) ≡ n - suc k
unfolding tails
tails_tall n rows h k l = at_place rows h.tall k (omega (arith, h.wide)) ∙ ap (λ (i : ℕ). i - suc k) h.wide
  where
    at_place : (rs : List (List Float)) → Stairs rs → (i : ℕ) → i < length rs → length (get_or (tails rs) i []) ≡ length rs - suc i
    at_place [] t i p = absurd (not-suc-le-zero p)
    at_place (row ∷ rs) t zero p = length-drop 1 row ∙ omega (arith, t.0)
    at_place (row ∷ rs) t (suc i) p = at_place rs t.1 i (le_of_suc-le-suc p) ∙ omega arith
