-- Lists that are written place by place, beside `front` of the leaves. Assumes nothing.
use mathlib.Core.Path.{◌≡◌, refl, ap, ◌∙◌}
use mathlib.Core.List.{List, [], ◌∷◌, map}
use Prim.Native.Nat.{ℕ, zero, suc, ◌<◌}
use native.Mathlib.Nat.{not-suc-le-zero, le_of_suc-le-suc}
use lib.ListN.{length, get_or}
use lib.Ieee.{Float, nan}
use Rattle.leaves.proofs.Folds.{front}

-- place i is still as it was
front_at : (zs ys : List Float) (i : ℕ) → i < length zs → i < length ys → get_or (front i zs ys) i nan ≡ get_or ys i nan
front_at [] ys i h k = absurd (not-suc-le-zero h)
front_at (z ∷ zs) [] i h k = absurd (not-suc-le-zero k)
front_at (z ∷ zs) (y ∷ ys) zero h k = refl
front_at (z ∷ zs) (y ∷ ys) (suc i) h k = front_at zs ys i (le_of_suc-le-suc h) (le_of_suc-le-suc k)

pub front_old : (zs ys y : List Float) (i : ℕ) → i < length zs → i < length ys → y ≡ front i zs ys → get_or y i nan ≡ get_or ys i nan
front_old zs ys y i h k e = ap (λ (l : List Float). get_or l i nan) e ∙ front_at zs ys i h k

pub map_at : {A B : Type 0} (f : A → B) (l : List A) (k : ℕ) (a : A) (b : B) → k < length l → f (get_or l k a) ≡ get_or (map f l) k b
map_at f [] k a b h = absurd (not-suc-le-zero h)
map_at f (x ∷ xs) zero a b h = refl
map_at f (x ∷ xs) (suc k) a b h = map_at f xs k a b (le_of_suc-le-suc h)
