-- 01, 'Leaf rules', enorm (MINPACK-1 guide, ANL-80-74): the norm is `finish` of `accumulate`.
use Rattle.std.specs.Prelude.{ℕ, ◌*◌, ◌^◌, Bool, false, cond, not, ◌&&◌, ◌||◌, List, [], ◌∷◌, pos, leb, length, Float}
use Rattle.std.specs.Float.{binary64}
use Rattle.std.specs.Float.Ieee.{add, mul, div, lt, le, eq, ne, of_int, round}
use Rattle.leaves.specs.Reply.{Reply, answered, refused}
use Rattle.leaves.specs.Number.{plus_zero, one, abs_of, square_of}
use Rattle.leaves.specs.Root.{root_s}
use Rattle.leaves.specs.declared.norm.Sums.{Sums}
use Rattle.leaves.specs.declared.norm.Ranges.{Ranges}

-- rdwarf 3.834e-20 and rgiant 1.304e19, as the doubles nearest to these decimal fractions
unfoldable pub rdwarf : Float
rdwarf = round binary64 false 3834 (10 ^ 23)

unfoldable pub rgiant : Float
rgiant = round binary64 false (1304 * 10 ^ 16) 1

-- agiant = rgiant/length
unfoldable pub agiant : ℕ → Float
agiant n = div binary64 rgiant (of_int binary64 (pos n))

abbrev pub sums : Float → Float → Float → Float → Float → Sums
sums s1 s2 s3 x1max x3max = record { s1 = s1; s2 = s2; s3 = s3; x1max = x1max; x3max = x3max }

-- An absolute value v strictly between rdwarf and agiant adds v² to s2.
unfoldable pub middle : Sums → Float → Sums
unfolding square_of
middle t v = sums t.s1 (add binary64 t.s2 (square_of v)) t.s3 t.x1max t.x3max

-- One ≤ rdwarf: if above x3max, s3 becomes 1 + s3·(x3max/v)² and x3max becomes v; else, if not 0, s3 gains (v/x3max)².
unfoldable pub small : Sums → Float → Sums
unfolding square_of
small t v =
    cond (lt t.x3max v)
    (sums t.s1 t.s2 (add binary64 one (mul binary64 t.s3 (square_of (div binary64 t.x3max v)))) t.x1max v)
    (cond (eq v plus_zero)
    t
    (sums t.s1 t.s2 (add binary64 t.s3 (square_of (div binary64 v t.x3max))) t.x1max t.x3max))

-- All others, NaN too: the same with s1, x1max, without the zero exception.
unfoldable pub large : Sums → Float → Sums
unfolding square_of
large t v =
    cond (lt t.x1max v)
    (sums (add binary64 one (mul binary64 t.s1 (square_of (div binary64 t.x1max v)))) t.s2 t.s3 v t.x3max)
    (sums (add binary64 t.s1 (square_of (div binary64 v t.x1max))) t.s2 t.s3 t.x1max t.x3max)

unfoldable pub add_in : Float → Sums → Float → Sums
unfolding middle small large
add_in giant t v = cond (lt rdwarf v && lt v giant) (middle t v) (cond (le v rdwarf) (small t v) (large t v))

abbrev pub step : Float → Sums → Float → Sums
step giant t x = add_in giant t (abs_of x)

unfoldable pub accumulate : Float → Sums → List Float → Sums
accumulate giant t [] = t
accumulate giant t (x ∷ xs) = accumulate giant (step giant t x) xs

abbrev pub none : Sums
none = sums plus_zero plus_zero plus_zero plus_zero plus_zero

-- s1≠0: x1max·sqrt(s1 + (s2/x1max)/x1max)
unfoldable pub finish_large : Sums → Float
finish_large t = mul binary64 t.x1max (root_s (add binary64 t.s1 (div binary64 (div binary64 t.s2 t.x1max) t.x1max)))

-- else s2≠0: sqrt(s2·(1+(x3max/s2)·(x3max·s3))) if s2 ≥ x3max, otherwise sqrt(x3max·((s2/x3max)+(x3max·s3)))
unfoldable pub finish_middle : Sums → Float
finish_middle t =
    cond (le t.x3max t.s2)
    (root_s (mul binary64 t.s2 (add binary64 one (mul binary64 (div binary64 t.x3max t.s2) (mul binary64 t.x3max t.s3)))))
    (root_s (mul binary64 t.x3max (add binary64 (div binary64 t.s2 t.x3max) (mul binary64 t.x3max t.s3))))

-- else x3max·sqrt(s3)
unfoldable pub finish_small : Sums → Float
finish_small t = mul binary64 t.x3max (root_s t.s3)

unfoldable pub finish : Sums → Float
unfolding finish_large finish_middle finish_small
finish t = cond (ne t.s1 plus_zero) (finish_large t) (cond (ne t.s2 plus_zero) (finish_middle t) (finish_small t))

unfoldable pub norm : List Float → Float
norm xs = finish (accumulate (agiant (length xs)) none xs)

-- ---- 02, #106: "whether any small or any large entry took part; zeros count as neither"
-- Small: one ≤ rdwarf that is not 0.
unfoldable pub is_small : Float → Bool
is_small x = le (abs_of x) rdwarf && ne x plus_zero

-- Large: "all others, NaN too": neither strictly between rdwarf and agiant nor ≤ rdwarf.
unfoldable pub is_large : Float → Float → Bool
is_large giant x = not (lt rdwarf (abs_of x) && lt (abs_of x) giant) && not (le (abs_of x) rdwarf)

unfoldable pub any : (Float → Bool) → List Float → Bool
any p [] = false
any p (x ∷ xs) = p x || any p xs

abbrev pub flags : Bool → Bool → Ranges
flags s l = record { small = s; large = l }

abbrev pub neither : Ranges
neither = flags false false

abbrev pub either : Ranges → Ranges → Ranges
either a b = flags (a.small || b.small) (a.large || b.large)

-- of one norm: agiant is rgiant over that norm's own length
unfoldable pub ranges : List Float → Ranges
ranges xs = flags (any is_small xs) (any (is_large (agiant (length xs))) xs)

-- "in any norm worked out for that call": of the vectors whose norms are worked out
unfoldable pub ranges_of : List (List Float) → Ranges
ranges_of [] = neither
ranges_of (v ∷ vs) = either (ranges v) (ranges_of vs)

-- Refused 2 over 128 numbers, and then there are no flags. Empty: +0.
unfoldable pub enorm : List Float → Reply (Float × Ranges)
enorm xs = cond (leb (length xs) 128) (answered (norm xs, ranges xs)) (refused 2)
