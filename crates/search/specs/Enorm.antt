-- MINPACK-1's ENORM (enorm.f, March 1980), statement by statement, in its own names, with its own constants, accumulators and tests: `.le.` where
-- document 01's rule says "above", `.eq.` where it says "not 0". x**2 is x·x; dabs and dsqrt are those of the leaf rules. Nothing of `norm` of
-- `leaves`, which is document 01's rule, is used: that the two agree is proved in `proofs/AgainstEnorm.antt`.
use Rattle.std.specs.Prelude.{◌*◌, ◌^◌, false, cond, ◌&&◌, List, [], ◌∷◌, pos, length, Float}
use Rattle.std.specs.Float.{binary64}
use Rattle.std.specs.Float.Ieee.{add, mul, div, lt, le, eq, ne, of_int, round}
use Rattle.leaves.specs.Number.{plus_zero, abs_of}
use Rattle.leaves.specs.Root.{root_s}

-- data one,zero,rdwarf,rgiant /1.0d0,0.0d0,3.834d-20,1.304d19/, as the doubles nearest to these decimals
unfoldable pub one : Float
one = round binary64 false 1 1

unfoldable pub rdwarf : Float
rdwarf = round binary64 false 3834 (10 ^ 23)

unfoldable pub rgiant : Float
rgiant = round binary64 false (1304 * 10 ^ 16) 1

-- the sums, and the largest of the large and of the small components
pub record Accumulators : Type 0 where
  pub s1 : Float
  pub s2 : Float
  pub s3 : Float
  pub x1max : Float
  pub x3max : Float

abbrev pub accumulators : Float → Float → Float → Float → Float → Accumulators
accumulators s1 s2 s3 x1max x3max = record { s1 = s1; s2 = s2; s3 = s3; x1max = x1max; x3max = x3max }

abbrev pub squared : Float → Float
squared x = mul binary64 x x

-- labels 10 and 20: sum for large components
unfoldable pub large_component : Accumulators → Float → Accumulators
large_component t xabs =
    cond (le xabs t.x1max)
    (accumulators (add binary64 t.s1 (squared (div binary64 xabs t.x1max))) t.s2 t.s3 t.x1max t.x3max)
    (accumulators (add binary64 one (mul binary64 t.s1 (squared (div binary64 t.x1max xabs)))) t.s2 t.s3 xabs t.x3max)

-- labels 30 to 50: sum for small components
unfoldable pub small_component : Accumulators → Float → Accumulators
small_component t xabs =
    cond (le xabs t.x3max)
    (cond (ne xabs plus_zero)
    (accumulators t.s1 t.s2 (add binary64 t.s3 (squared (div binary64 xabs t.x3max))) t.x1max t.x3max)
    t)
    (accumulators t.s1 t.s2 (add binary64 one (mul binary64 t.s3 (squared (div binary64 t.x3max xabs)))) t.x1max xabs)

-- label 70: sum for intermediate components
unfoldable pub component : Float → Accumulators → Float → Accumulators
component agiant t x =
    let xabs = abs_of x in
    cond (lt rdwarf xabs && lt xabs agiant)
    (accumulators t.s1 (add binary64 t.s2 (squared xabs)) t.s3 t.x1max t.x3max)
    (cond (le xabs rdwarf) (small_component t xabs) (large_component t xabs))

-- do 90 i = 1, n
unfoldable pub components : Float → Accumulators → List Float → Accumulators
components agiant t [] = t
components agiant t (x ∷ xs) = components agiant (component agiant t x) xs

-- labels 100 to 130: calculation of norm. Of the two `if`s on s2 and x3max neither need assign; `unset` is what then stands in the result.
unfoldable pub calculated : Float → Accumulators → Float
calculated unset t =
    let first = cond (le t.x3max t.s2) (root_s (mul binary64 t.s2 (add binary64 one (mul binary64 (div binary64 t.x3max t.s2) (mul binary64 t.x3max t.s3))))) unset in
    let second = cond (lt t.s2 t.x3max) (root_s (mul binary64 t.x3max (add binary64 (div binary64 t.s2 t.x3max) (mul binary64 t.x3max t.s3)))) first in
    cond (eq t.s1 plus_zero)
    (cond (eq t.s2 plus_zero) (mul binary64 t.x3max (root_s t.s3)) second)
    (mul binary64 t.x1max (root_s (add binary64 t.s1 (div binary64 (div binary64 t.s2 t.x1max) t.x1max))))

unfoldable pub minpack_enorm : Float → List Float → Float
minpack_enorm unset x =
    let floatn = of_int binary64 (pos (length x)) in
    let agiant = div binary64 rgiant floatn in
    calculated unset (components agiant (accumulators plus_zero plus_zero plus_zero plus_zero plus_zero) x)
