-- QRSOLV of MINPACK-1 (ANL-80-74), which LMPAR calls for each damped solve: in place and by indices, statement by statement, under its own names, in its
-- own order of steps and of factors; a label on the left of a comment is the statement's. None of the base's elimination or solves is used: that they
-- agree is proved in `proofs/AgainstQrsolv.antt`.
-- A vector is a list, an array the list of its columns, and indices count from 0. A DO loop recurses over the turns that are left, its index after them.
-- Why so, and not by rows as `eliminated` is: docs/DECISIONS.md, D76.
use Rattle.std.specs.Prelude.{ℕ, zero, suc, ◌-◌, true, false, cond, ◌&&◌, List, [], ◌∷◌, ◌++◌, map, negsuc, eqb, ltb, length, get_or, set, replicate, Float}
use Rattle.std.specs.Float.{nan, fin, binary64}
use Rattle.std.specs.Float.Ieee.{add, sub, mul, div, neg, le, eq}
use Rattle.leaves.specs.Number.{plus_zero, abs_of}
use Rattle.leaves.specs.Root.{root_s}

-- v(i), and v(i) = x
abbrev pub at : List Float → ℕ → Float
at v i = get_or v i nan

abbrev pub put : List Float → ℕ → Float → List Float
put v i x = set v i x

-- r(i,j), and r(i,j) = x
abbrev pub cell : List (List Float) → ℕ → ℕ → Float
cell r i j = at (get_or r j []) i

abbrev pub put_cell : List (List Float) → ℕ → ℕ → Float → List (List Float)
put_cell r i j x = set r j (put (get_or r j []) i x)

-- n places that nothing was stored in
abbrev pub unset : ℕ → List Float
unset n = replicate n nan

-- what it gives back: x, S's diagonal, and r: the upper triangle as it came, S's strict upper triangle, transposed, in the strict lower one
pub record Solved : Type 0 where
  pub x : List Float
  pub sdiag : List Float
  pub r : List (List Float)

-- ---- copy r and (q transpose)*b, and save the diagonal of r in x
pub record Copied : Type 0 where
  pub r : List (List Float)
  pub x : List Float
  pub wa : List Float

-- r is handed in by its columns on and above the diagonal; what stands below is not read
abbrev pub whole : ℕ → List (List Float) → List (List Float)
whole n r = map (λ c. c ++ unset (n - length c)) r

-- do 10 i = j, n: r(i,j) = r(j,i)
unfoldable pub do10 : ℕ → ℕ → ℕ → List (List Float) → List (List Float)
do10 j zero i r = r
do10 j (suc turns) i r = do10 j turns (suc i) (put_cell r i j (cell r j i))

-- do 20 j = 1, n: 10, x(j) = r(j,j), wa(j) = qtb(j)
unfoldable pub do20 : ℕ → List Float → ℕ → ℕ → Copied → Copied
do20 n qtb zero j s = s
do20 n qtb (suc turns) j s =
    let r = do10 j (n - j) j s.r in
    do20 n qtb turns (suc j) (record { r = r; x = put s.x j (cell r j j); wa = put s.wa j (at qtb j) })

-- ---- a Givens rotation
-- data p5,p25 /5.0d-1,2.5d-1/
abbrev pub p5 : Float
p5 = fin false 1 (negsuc 0)

abbrev pub p25 : Float
p25 = fin false 1 (negsuc 1)

pub record Turn : Type 0 where
  pub cos : Float
  pub sin : Float

-- cotan = r(k,k)/sdiag(k), sin = p5/dsqrt(p25+p25*cotan**2), cos = sin*cotan
unfoldable pub by_cotan : Float → Float → Turn
by_cotan rkk sk =
    let cotan = div binary64 rkk sk in
    let sin = div binary64 p5 (root_s (add binary64 p25 (mul binary64 p25 (mul binary64 cotan cotan)))) in
    record { cos = mul binary64 sin cotan; sin = sin }

-- 40: tan = sdiag(k)/r(k,k), cos = p5/dsqrt(p25+p25*tan**2), sin = cos*tan
unfoldable pub by_tan : Float → Float → Turn
by_tan rkk sk =
    let tan = div binary64 sk rkk in
    let cos = div binary64 p5 (root_s (add binary64 p25 (mul binary64 p25 (mul binary64 tan tan)))) in
    record { cos = cos; sin = mul binary64 cos tan }

-- if (dabs(r(k,k)) .ge. dabs(sdiag(k))) go to 40
unfoldable pub turn_of : Float → Float → Turn
turn_of rkk sk = cond (le (abs_of sk) (abs_of rkk)) (by_tan rkk sk) (by_cotan rkk sk)

-- cos*a + sin*b, which stays, and -sin*a + cos*b, which is passed on; Fortran takes the minus of the product
unfoldable pub stays : Turn → Float → Float → Float
stays g a b = add binary64 (mul binary64 g.cos a) (mul binary64 g.sin b)

unfoldable pub passes : Turn → Float → Float → Float
passes g a b = add binary64 (neg (mul binary64 g.sin a)) (mul binary64 g.cos b)

-- ---- eliminate the diagonal matrix d
pub record Work : Type 0 where
  pub r : List (List Float)
  pub sdiag : List Float
  pub wa : List Float
  pub qtbpj : Float

-- do 30 k = j, n: sdiag(k) = zero
unfoldable pub do30 : ℕ → ℕ → List Float → List Float
do30 zero k sdiag = sdiag
do30 (suc turns) k sdiag = do30 turns (suc k) (put sdiag k plus_zero)

-- do 60 i = kp1, n: temp = cos*r(i,k) + sin*sdiag(i), sdiag(i) = -sin*r(i,k) + cos*sdiag(i), r(i,k) = temp
unfoldable pub do60 : Turn → ℕ → ℕ → ℕ → Work → Work
do60 g k zero i s = s
do60 g k (suc turns) i s =
    let rik = cell s.r i k in
    let si = at s.sdiag i in
    do60 g k turns (suc i) (record { r = put_cell s.r i k (stays g rik si); sdiag = put s.sdiag i (passes g rik si); wa = s.wa; qtbpj = s.qtbpj })

-- 50: r(k,k) = cos*r(k,k) + sin*sdiag(k); temp = cos*wa(k) + sin*qtbpj, qtbpj = -sin*wa(k) + cos*qtbpj, wa(k) = temp; 60
unfoldable pub turned_at : ℕ → ℕ → Work → Work
turned_at n k s =
    let rkk = cell s.r k k in
    let sk = at s.sdiag k in
    let wk = at s.wa k in
    let g = turn_of rkk sk in
    do60 g k (n - suc k) (suc k) (record { r = put_cell s.r k k (stays g rkk sk); sdiag = s.sdiag; wa = put s.wa k (stays g wk s.qtbpj); qtbpj = passes g wk s.qtbpj })

-- do 80 k = j, n: if (sdiag(k) .eq. zero) go to 70
unfoldable pub do80 : ℕ → ℕ → ℕ → Work → Work
do80 n zero k s = s
do80 n (suc turns) k s = do80 n turns (suc k) (elim (eq (at s.sdiag k) plus_zero) [ true ↦ s | false ↦ turned_at n k s ])

-- l = ipvt(j); if (diag(l) .eq. zero) go to 90; 30, sdiag(j) = diag(l), qtbpj = zero, 80
unfoldable pub damped_at : ℕ → Float → ℕ → Work → Work
damped_at n diagl j s =
    elim (eq diagl plus_zero) [
      | true ↦ s
      | false ↦ do80 n (n - j) j (record { r = s.r; sdiag = put (do30 (n - j) j s.sdiag) j diagl; wa = s.wa; qtbpj = plus_zero })
    ]

-- 90: sdiag(j) = r(j,j), r(j,j) = x(j)
unfoldable pub restored_at : List Float → ℕ → Work → Work
restored_at x j s = record { r = put_cell s.r j j (at x j); sdiag = put s.sdiag j (cell s.r j j); wa = s.wa; qtbpj = s.qtbpj }

-- do 100 j = 1, n
unfoldable pub do100 : ℕ → List ℕ → List Float → List Float → ℕ → ℕ → Work → Work
do100 n ipvt diag x zero j s = s
do100 n ipvt diag x (suc turns) j s = do100 n ipvt diag x turns (suc j) (restored_at x j (damped_at n (at diag (get_or ipvt j 0)) j s))

-- ---- solve the triangular system for z
pub record Cut : Type 0 where
  pub nsing : ℕ
  pub wa : List Float

-- if (the diagonal at j .eq. zero .and. nsing .eq. n) nsing = j - 1, which counts the places before j
abbrev pub nsing_at : ℕ → ℕ → ℕ → Float → ℕ
nsing_at n j nsing d = cond (eq d plus_zero && eqb nsing n) j nsing

-- do 110 j = 1, n: nsing; if (nsing .lt. n) wa(j) = zero
unfoldable pub do110 : ℕ → List Float → ℕ → ℕ → Cut → Cut
do110 n sdiag zero j s = s
do110 n sdiag (suc turns) j s =
    let nsing = nsing_at n j s.nsing (at sdiag j) in
    do110 n sdiag turns (suc j) (record { nsing = nsing; wa = cond (ltb nsing n) (put s.wa j plus_zero) s.wa })

-- nsing alone, of a diagonal from place j on: 10 of LMPAR
unfoldable pub nsing_from : ℕ → ℕ → ℕ → List Float → ℕ
nsing_from n j nsing [] = nsing
nsing_from n j nsing (d ∷ ds) = nsing_from n (suc j) (nsing_at n j nsing d) ds

-- do 120 i = jp1, nsing: sum = sum + r(i,j)*wa(i)
unfoldable pub do120 : List (List Float) → List Float → ℕ → ℕ → ℕ → Float → Float
do120 r wa j zero i sum = sum
do120 r wa j (suc turns) i sum = do120 r wa j turns (suc i) (add binary64 sum (mul binary64 (cell r i j) (at wa i)))

-- do 140 k = 1, nsing: j = nsing - k + 1, the turns that are left; sum = zero, 120, wa(j) = (wa(j) - sum)/sdiag(j)
unfoldable pub do140 : ℕ → List (List Float) → List Float → ℕ → List Float → List Float
do140 nsing r sdiag zero wa = wa
do140 nsing r sdiag (suc j) wa =
    let sum = do120 r wa j (nsing - suc j) (suc j) plus_zero in
    do140 nsing r sdiag j (put wa j (div binary64 (sub binary64 (at wa j) sum) (at sdiag j)))

-- ---- permute the components of z back to components of x
-- do 160 j = 1, n: l = ipvt(j), x(l) = wa(j)
unfoldable pub do160 : List ℕ → List Float → ℕ → ℕ → List Float → List Float
do160 ipvt wa zero j x = x
do160 ipvt wa (suc turns) j x = do160 ipvt wa turns (suc j) (put x (get_or ipvt j 0) (at wa j))

-- 60 of LMPAR, where nothing was stored in x
abbrev pub permuted : List ℕ → List Float → List Float
permuted ipvt wa = do160 ipvt wa (length wa) 0 (unset (length wa))

-- ---- the subroutine
unfoldable pub qrsolv : ℕ → List (List Float) → List ℕ → List Float → List Float → Solved
qrsolv n r ipvt diag qtb =
    let c = do20 n qtb n 0 (record { r = whole n r; x = unset n; wa = unset n }) in
    let s = do100 n ipvt diag c.x n 0 (record { r = c.r; sdiag = unset n; wa = c.wa; qtbpj = plus_zero }) in
    let t = do110 n s.sdiag n 0 (record { nsing = n; wa = s.wa }) in
    let wa = do140 t.nsing s.r s.sdiag t.nsing t.wa in
    record { x = do160 ipvt wa n 0 c.x; sdiag = s.sdiag; r = s.r }
