-- 01, modules 6 and 7: products entry by entry, as of scaling and parameters, or of scaling and step.
use Rattle.std.specs.Prelude.{List, [], ◌∷◌, map, Float}
use Rattle.std.specs.Float.{binary64}
use Rattle.std.specs.Float.Ieee.{mul, div}

unfoldable pub product_all : List Float → List Float → List Float
product_all [] ys = []
product_all (x ∷ xs) [] = []
product_all (x ∷ xs) (y ∷ ys) = mul binary64 x y ∷ product_all xs ys

-- each number over x
abbrev pub divided_by : Float → List Float → List Float
divided_by x qs = map (λ q. div binary64 q x) qs
