-- 01, module 7: "Its public definition is LMPAR in the MINPACK-1 guide" (ANL-80-74). LMPAR step by step, under its own names, in its own order of
-- steps and of factors, with its comparisons and with no refusal; a label on the left of a comment is the statement's. Nothing of the search is used:
-- that the two agree, and where, is proved in `proofs/AgainstLmpar.antt`.
-- r is given by columns on and above its diagonal, ipvt counts from 0. enorm is a parameter, for which the theorem puts in ENORM (`specs/Enorm.antt`);
-- DSQRT is the root of the leaf rules. What DMAX1 and DMIN1 give for a NaN is left open in Fortran: here they are document 01's max and min. dwarf is a
-- parameter: DPMPAR writes it in decimal, 2.22507385852D-308, which is not document 01's 2^-1022.
use Rattle.std.specs.Prelude.{ℕ, zero, suc, ◌-◌, Bool, true, false, cond, ◌&&◌, ◌||◌, List, [], ◌∷◌, ◌++◌, map, ltb, length, take, drop, get_or, Float}
use Rattle.std.specs.Float.{nan, binary64}
use Rattle.std.specs.Float.Ieee.{add, sub, mul, div, lt, le, eq, round}
use Rattle.leaves.specs.Number.{plus_zero, abs_of, max_of, min_of}
use Rattle.leaves.specs.Root.{root_s}
use Rattle.leaves.specs.Vector.{dot_of}
use Rattle.leaves.specs.Square.{diagonal}
use Rattle.factor.specs.Solve.{padded}
use Rattle.search.specs.Qrsolv.{at, put, cell, Solved, nsing_from, permuted, qrsolv}

-- what it is given, par apart
pub record Given : Type 0 where
  pub n : ℕ
  pub r : List (List Float)
  pub ipvt : List ℕ
  pub diag : List Float
  pub qtb : List Float
  pub delta : Float

-- what it gives back: x and par, and with them the number of calls of QRSOLV
pub record Output : Type 0 where
  pub x : List Float
  pub par : Float
  pub qrsolvs : ℕ

-- data p1,p001 /1.0d-1,1.0d-3/
unfoldable pub p1 : Float
p1 = round binary64 false 1 10

unfoldable pub p001 : Float
p001 = round binary64 false 1 1000

-- 10: nsing, of r's diagonal
abbrev pub nsing_of : Given → ℕ
nsing_of a = nsing_from a.n 0 a.n (diagonal a.r)

-- 20: wa1(i) = wa1(i) - r(i,j)*temp
unfoldable pub less_column : Float → List Float → List Float → List Float
less_column temp [] ws = ws
less_column temp (r ∷ rs) [] = []
less_column temp (r ∷ rs) (w ∷ ws) = sub binary64 w (mul binary64 r temp) ∷ less_column temp rs ws

-- 40: from place j = nsing down, wa1(j) = wa1(j)/r(j,j), temp = wa1(j), and 20 for the places before j
unfoldable pub backward : List (List Float) → ℕ → List Float → List Float
backward r zero wa1 = wa1
backward r (suc j) wa1 =
    let c = get_or r j [] in
    let temp = div binary64 (get_or wa1 j nan) (get_or c j nan) in
    backward r j (less_column temp (take j c) (take j wa1) ++ (temp ∷ drop (suc j) wa1))

-- 10 to 50: wa1 is qtb, zero from place nsing on, and then the solution of the leading nsing equations
unfoldable pub gauss_newton : Given → List Float
gauss_newton a = let nsing = nsing_of a in padded a.n (backward a.r nsing (take nsing a.qtb))

-- 70, 170: wa2(j) = diag(j)*x(j)
unfoldable pub scaled : List Float → List Float → List Float
scaled [] xs = []
scaled (d ∷ ds) [] = []
scaled (d ∷ ds) (x ∷ xs) = mul binary64 d x ∷ scaled ds xs

-- 80, 180: l = ipvt(j), wa1(j) = diag(l)*(wa2(l)/dxnorm)
unfoldable pub newton_side : Given → List Float → Float → List Float
newton_side a wa2 dxnorm = map (λ l. mul binary64 (get_or a.diag l nan) (div binary64 (get_or wa2 l nan) dxnorm)) a.ipvt

-- 110: sum of r(i,j)*wa1(i) over the places done, wa1(j) = (wa1(j) - sum)/r(j,j)
unfoldable pub forward : List Float → List (List Float) → List Float → List Float
forward ws [] bs = ws
forward ws (c ∷ cs) [] = ws
forward ws (c ∷ cs) (b ∷ bs) =
    let j = length ws in
    forward (ws ++ (div binary64 (sub binary64 b (dot_of (take j c) ws)) (get_or c j nan) ∷ [])) cs bs

-- do 190 i = jp1, n: wa1(i) = wa1(i) - r(i,j)*temp, r as QRSOLV left it
unfoldable pub do190 : List (List Float) → ℕ → Float → ℕ → ℕ → List Float → List Float
do190 r j temp zero i wa1 = wa1
do190 r j temp (suc turns) i wa1 = do190 r j temp turns (suc i) (put wa1 i (sub binary64 (at wa1 i) (mul binary64 (cell r i j) temp)))

-- do 210 j = 1, n: wa1(j) = wa1(j)/sdiag(j), temp = wa1(j), 190
unfoldable pub do210 : ℕ → List (List Float) → List Float → ℕ → ℕ → List Float → List Float
do210 n r sdiag zero j wa1 = wa1
do210 n r sdiag (suc turns) j wa1 =
    let temp = div binary64 (at wa1 j) (at sdiag j) in
    do210 n r sdiag turns (suc j) (do190 r j temp (n - suc j) (suc j) (put wa1 j temp))

-- parl and parc: temp = enorm(n,wa1), ((fp/delta)/temp)/temp
unfoldable pub newton_step : (List Float → Float) → Given → Float → List Float → Float
newton_step enorm a fp wa1 = let temp = enorm wa1 in div binary64 (div binary64 (div binary64 fp a.delta) temp) temp

-- 120: parl = zero; if (nsing .lt. n) go to 120; else the Newton step
unfoldable pub parl_of : (List Float → Float) → Given → List Float → Float → Float → Float
parl_of enorm a wa2 dxnorm fp = cond (ltb (nsing_of a) a.n) plus_zero (newton_step enorm a fp (forward [] a.r (newton_side a wa2 dxnorm)))

-- 140: sum of r(i,j)*qtb(i) for i to j; l = ipvt(j), wa1(j) = sum/diag(l)
unfoldable pub gradient : Given → List (List Float) → List ℕ → List Float
gradient a [] ls = []
gradient a (c ∷ cs) [] = []
gradient a (c ∷ cs) (l ∷ ls) = div binary64 (dot_of c (take (length c) a.qtb)) (get_or a.diag l nan) ∷ gradient a cs ls

-- paru = gnorm/delta; if (paru .eq. zero) paru = dwarf/dmin1(delta,p1)
unfoldable pub paru_of : Float → Given → Float → Float
paru_of dwarf a gnorm = let paru = div binary64 gnorm a.delta in cond (eq paru plus_zero) (div binary64 dwarf (min_of a.delta p1)) paru

-- par = dmax1(par,parl); par = dmin1(par,paru); if (par .eq. zero) par = gnorm/dxnorm
unfoldable pub par_of : Float → Float → Float → Float → Float → Float
par_of par parl paru gnorm dxnorm = let inside = min_of (max_of par parl) paru in cond (eq inside plus_zero) (div binary64 gnorm dxnorm) inside

-- at 150: the iterations done, par, its bounds, and fp
pub record Before : Type 0 where
  pub iter : ℕ
  pub par : Float
  pub parl : Float
  pub paru : Float
  pub fp : Float

-- at the test: par, what QRSOLV left, and the function there
pub record Tried : Type 0 where
  pub par : Float
  pub solved : Solved
  pub wa2 : List Float
  pub dxnorm : Float
  pub fp : Float

-- 150 to the test: if (par .eq. zero) par = dmax1(dwarf,p001*paru); 160: wa1(j) = dsqrt(par)*diag(j); qrsolv; dxnorm; fp = dxnorm - delta
unfoldable pub evaluated : (List Float → Float) → Float → Given → Before → Tried
evaluated enorm dwarf a b =
    let par = cond (eq b.par plus_zero) (max_of dwarf (mul binary64 p001 b.paru)) b.par in
    let wa1 = map (λ d. mul binary64 (root_s par) d) a.diag in
    let solved = qrsolv a.n a.r a.ipvt wa1 a.qtb in
    let wa2 = scaled a.diag solved.x in
    let dxnorm = enorm wa2 in
    record { par = par; solved = solved; wa2 = wa2; dxnorm = dxnorm; fp = sub binary64 dxnorm a.delta }

-- dabs(fp) .le. p1*delta .or. parl .eq. zero .and. fp .le. temp .and. temp .lt. zero, where temp is the fp before
unfoldable pub accepted : Given → Before → Tried → Bool
accepted a b t = le (abs_of t.fp) (mul binary64 p1 a.delta) || eq b.parl plus_zero && le t.fp b.fp && lt b.fp plus_zero

unfoldable pub parc_of : (List Float → Float) → Given → Tried → Float
parc_of enorm a t = newton_step enorm a t.fp (do210 a.n t.solved.r t.solved.sdiag a.n 0 (newton_side a t.wa2 t.dxnorm))

-- if (fp .gt. zero) parl = dmax1(parl,par); if (fp .lt. zero) paru = dmin1(paru,par); par = dmax1(parl,par+parc)
unfoldable pub improved : (List Float → Float) → Given → Before → Tried → Before
improved enorm a b t =
    let parl = cond (lt plus_zero t.fp) (max_of b.parl t.par) b.parl in
    let paru = cond (lt t.fp plus_zero) (min_of b.paru t.par) b.paru in
    record { iter = suc b.iter; par = max_of parl (add binary64 t.par (parc_of enorm a t)); parl = parl; paru = paru; fp = t.fp }

-- 150 to 220, where k more iterations may follow this one: .or. iter .eq. 10 is k = 0, and fp is then worked out and not looked at
unfoldable pub iterations : (List Float → Float) → Float → Given → ℕ → Before → Output
iterations enorm dwarf a zero b = let t = evaluated enorm dwarf a b in record { x = t.solved.x; par = t.par; qrsolvs = suc b.iter }
iterations enorm dwarf a (suc k) b =
    let t = evaluated enorm dwarf a b in
    elim (accepted a b t) [
      | true ↦ record { x = t.solved.x; par = t.par; qrsolvs = suc b.iter }
      | false ↦ iterations enorm dwarf a k (improved enorm a b t)
    ]

-- 60: x is wa1 where ipvt says; if (fp .le. p1*delta) go to 220, with iter = 0, where par = zero
unfoldable pub lmpar : (List Float → Float) → Float → Given → Float → Output
lmpar enorm dwarf a par =
    let x = permuted a.ipvt (gauss_newton a) in
    let wa2 = scaled a.diag x in
    let dxnorm = enorm wa2 in
    let fp = sub binary64 dxnorm a.delta in
    elim (le fp (mul binary64 p1 a.delta)) [
      | true ↦ record { x = x; par = plus_zero; qrsolvs = 0 }
      | false ↦
          let parl = parl_of enorm a wa2 dxnorm fp in
          let gnorm = enorm (gradient a a.r a.ipvt) in
          let paru = paru_of dwarf a gnorm in
          iterations enorm dwarf a 9 (record { iter = 0; par = par_of par parl paru gnorm dxnorm; parl = parl; paru = paru; fp = fp })
    ]
