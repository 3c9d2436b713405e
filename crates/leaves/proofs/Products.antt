-- Products and quotients of lists, place by place. Assumes nothing.
use mathlib.Core.Path.{◌≡◌, refl, ap}
use mathlib.Core.List.{List, [], ◌∷◌}
use Prim.Native.Nat.{ℕ, zero, suc, ◌<◌}
use native.Mathlib.Nat.{not-suc-le-zero, le_of_suc-le-suc}
use native.Mathlib.Omega.{arith}
use lib.ListN.{length, get_or, length-map}
use lib.Ieee.{Float, nan, binary64, mul}
use Rattle.leaves.specs.Product.{product_all, divided_by}

pub product-length : (xs ys : List Float) → length xs ≡ length ys → length (product_all xs ys) ≡ length xs
unfolding product_all
product-length [] ys h = refl
product-length (x ∷ xs) [] h = absurd (omega arith)
product-length (x ∷ xs) (y ∷ ys) h = ap suc (product-length xs ys (omega arith))

pub product_at : (xs ys : List Float) (i : ℕ) → i < length xs → i < length ys → mul binary64 (get_or xs i nan) (get_or ys i nan) ≡ get_or (product_all xs ys) i nan
unfolding product_all
product_at [] ys i h k = absurd (not-suc-le-zero h)
product_at (x ∷ xs) [] i h k = absurd (not-suc-le-zero k)
product_at (x ∷ xs) (y ∷ ys) zero h k = refl
product_at (x ∷ xs) (y ∷ ys) (suc i) h k = product_at xs ys i (le_of_suc-le-suc h) (le_of_suc-le-suc k)

pub divided-length : (x : Float) (qs : List Float) → length (divided_by x qs) ≡ length qs
divided-length x qs = length-map qs _
