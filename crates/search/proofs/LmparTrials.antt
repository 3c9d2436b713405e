-- An iteration of LMPAR is a trial of the search: the same par, x, dxnorm, fp and correction, and past the tests the same bounds. For any ENORM that is
-- the leaf rules' norm wherever that is no NaN: each norm that an answered search reads is tested finite, or divides into a number that is.
-- Assumes nothing.
use mathlib.Core.Path.{◌≡◌, refl, sym, ap, ◌∙◌}
use mathlib.Core.Bool.{Bool, true, false, cond, not, ◌||◌}
use mathlib.Core.List.{List, [], map}
use Prim.Native.Nat.{ℕ, zero, suc, ◌<◌}
use native.Mathlib.Omega.{arith}
use lib.ListN.{length, get_or}
use lib.Ieee.{Float, binary64, add, sub, mul, lt, eq, is_nan}
use Rattle.leaves.specs.Reply.{answered}
use Rattle.leaves.specs.Number.{plus_zero, dwarf, max_of, min_of, is_finite, is_negative}
use Rattle.leaves.specs.Norm.{norm}
use Rattle.leaves.specs.Root.{root_s}
use Rattle.leaves.specs.Vector.{scale_all}
use Rattle.leaves.proofs.Replies.{refused-answered, answered-same}
use Rattle.factor.specs.Held.{forward_lower}
use Rattle.eliminate.specs.Eliminate.{heads, tails}
use Rattle.eliminate.proofs.Triangular.{heads-length}
use Rattle.factor.specs.Tests.{is_permutation}
use Rattle.factor.specs.Solve.{gather}
use Rattle.factor.proofs.Solves.{gather-length}
use Rattle.search.specs.Problem.{Problem, placed, damped_rows, damped_step, scaled_step, scaled_norm, direction, damped_slope, newton}
use Rattle.search.specs.Bounds.{tenth, thousandth, band, raised}
use Rattle.search.specs.Run as run
use Rattle.search.specs.Run.{Run, stopped, last, ten, trial_lambda, trial_norm, Next, Trial, next, trial_of, is_within, is_falling, trials_from}
use Rattle.search.specs.Search.{Answer, answer, concluded}
use Rattle.search.specs.Qrsolv.{Solved, qrsolv}
use Rattle.search.specs.Lmpar.{Given, Output, Before, Tried, p1, p001, scaled, newton_step, evaluated, accepted, parc_of, improved, iterations}
use Rattle.search.proofs.Signs.{finite_not_nan}
use Rattle.search.proofs.Numbers.{next_falls, next_rises}
use Rattle.search.proofs.Trying.{tested}
use Rattle.search.proofs.Commuting.{times_comm}
use Rattle.search.proofs.LmparVectors.{scaled_is, root_scaled, do210_is, side_is}
use Rattle.search.proofs.Shapes.{Even, tri_length, damping-fits}
use Rattle.search.proofs.QrsolvPlaces.{laid, rising_of}
use Rattle.search.proofs.AgainstQrsolv.{qrsolv_is}
use Rattle.search.proofs.LmparSigns.{Bounded, difference_number, divisor_number, below_zero, above_zero, apart_not_zero}

-- ---- a search's problem, what a trial starts from, and its answer, in LMPAR's names
abbrev pub given_of : Problem → Given
given_of p = record { n = length p.upper; r = p.upper; ipvt = p.order; diag = p.diag; qtb = p.qtb; delta = p.radius }

abbrev pub before_of : ℕ → Next → Before
before_of iter s = record { iter = iter; par = s.lambda; parl = s.lower; paru = s.upper; fp = s.fp }

abbrev pub output_of : Answer → Output
output_of a = record { x = a.1; par = a.0.lambda; qrsolvs = a.0.trials }

-- as many places of the order list and of qt_b as R has columns, R's columns on and above its diagonal, and an order list that is a permutation
pub record Formed (p : Problem) : Type 0 where
  pub pivots : length p.order ≡ length p.upper
  pub rhs : length p.qtb ≡ length p.upper
  pub tall : (k : ℕ) → k < length p.upper → length (get_or p.upper k []) ≡ suc k
  pub permuted : is_permutation (length p.upper) p.order ≡ true

-- a norm that is the leaf rules' wherever that is no NaN
abbrev pub AsNorm : (List Float → Float) → Type 0
AsNorm enorm = (xs : List Float) → is_nan (norm xs) ≡ false → enorm xs ≡ norm xs

abbrev solved_of : Problem → Float → Solved
solved_of p lambda = let l = damped_rows p lambda in record { x = damped_step p lambda; sdiag = heads l.0; r = laid p.upper (tails l.0) }

-- by its dxnorm, and with the search's
abbrev tried_by : Problem → Float → Float → Tried
tried_by p lambda dxnorm =
    record { par = lambda; solved = solved_of p lambda; wa2 = scaled_step p (damped_step p lambda); dxnorm = dxnorm; fp = sub binary64 dxnorm p.radius }

abbrev tried_of : Problem → Float → Tried
tried_of p lambda = tried_by p lambda (scaled_norm p (damped_step p lambda))

-- ---- to the test
pub tenth_of : (radius : Float) → mul binary64 p1 radius ≡ band radius
unfolding p1 band tenth
tenth_of radius = times_comm binary64 _ radius

par_is : (par paru : Float) → cond (eq par plus_zero) (max_of dwarf (mul binary64 p001 paru)) par ≡ raised par paru
unfolding p001 raised thousandth
par_is par paru = ap (λ (x : Float). cond (eq par plus_zero) (max_of dwarf x) par) (times_comm binary64 _ paru)

-- for a par that is raised already
abbrev at : (List Float → Float) → Given → Float → Tried
at enorm a par =
    let solved = qrsolv a.n a.r a.ipvt (map (λ d. mul binary64 (root_s par) d) a.diag) a.qtb in
    let wa2 = scaled a.diag solved.x in
    record { par = par; solved = solved; wa2 = wa2; dxnorm = enorm wa2; fp = sub binary64 (enorm wa2) a.delta }

module _ (enorm : List Float → Float) (p : Problem) (w : Formed p) where
  solved_is : (lambda : Float) → qrsolv (length p.upper) p.upper p.order (map (λ d. mul binary64 (root_s lambda) d) p.diag) p.qtb ≡ solved_of p lambda
  unfolding placed damped_step damped_rows
  solved_is lambda = rw (root_scaled (root_s lambda) p.diag) (qrsolv_is p.upper p.order (scale_all (root_s lambda) p.diag) p.qtb w.pivots w.rhs w.tall w.permuted)

  at_is : (lambda : Float) → at enorm (given_of p) lambda ≡ tried_by p lambda (enorm (scaled_step p (damped_step p lambda)))
  at_is lambda = rw (solved_is lambda, scaled_is p.diag (damped_step p lambda))

  evaluated_is : (t : ℕ) (s : Next) → evaluated enorm dwarf (given_of p) (before_of t s) ≡ tried_by p (trial_of p s).lambda (enorm (scaled_step p (trial_of p s).step))
  unfolding evaluated trial_of
  evaluated_is t s = ap (at enorm (given_of p)) (par_is s.lambda s.upper) ∙ at_is (raised s.lambda s.upper)

-- ---- the tests
module _ (p : Problem) (t : ℕ) (s : Next) (z : eq s.fp plus_zero ≡ false) where
  accepted_is : (y : Tried) → accepted (given_of p) (before_of t s) y ≡ (is_within p y.fp || is_falling s y.fp)
  unfolding accepted is_within is_falling
  accepted_is y = rw (tenth_of p.radius, below_zero s.fp z)

-- ---- the correction, and what the next iteration starts from
correction_is : (enorm : List Float → Float) → AsNorm enorm → (p : Problem) → Formed p → (lambda : Float)
    → (let c = newton (tried_of p lambda).fp p.radius (damped_slope p lambda (damped_step p lambda)) in is_finite c ≡ true → parc_of enorm (given_of p) (tried_of p lambda) ≡ c)
unfolding parc_of newton_step newton damped_slope damped_rows direction
correction_is enorm same p w lambda finite =
    let n = length p.upper in
    let os = gather p.order (scale_all (root_s lambda) p.diag) in
    let l = damped_rows p lambda in
    let v = scaled_step p (damped_step p lambda) in
    let side = direction p (damped_step p lambda) in
    let even : Even n l = damping-fits os p.upper p.qtb (gather-length p.order (scale_all (root_s lambda) p.diag) ∙ w.pivots) w.rhs in
    let long : length side ≡ n = gather-length p.order _ ∙ w.pivots in
    rw (
      side_is (given_of p) v (norm v),
      do210_is n (laid p.upper (tails l.0)) (heads l.0) n 0 [] p.upper l.0 [] (heads l.0) [] side refl refl refl refl refl
          (rising_of 1 p.upper (λ k h. w.tall k h ∙ omega arith)) refl even.0 (heads-length l.0 ∙ tri_length n l.0 even.0) long (omega arith),
      same (forward_lower (heads l.0) (tails l.0) side) (divisor_number _ _ finite),
    )

-- by the signs of fp, where LMPAR compares
abbrev improved_by : ℕ → Trial → Float → Float → Before
improved_by iter u fp c =
    let parl = cond (lt plus_zero fp) (max_of u.lower u.lambda) u.lower in
    let paru = cond (lt fp plus_zero) (min_of u.upper u.lambda) u.upper in
    record { iter = suc iter; par = max_of parl (add binary64 u.lambda c); parl = parl; paru = paru; fp = fp }

improved_by_lem : (iter : ℕ) (u : Trial) (fp c : Float) → is_nan fp ≡ false → eq fp plus_zero ≡ false → improved_by iter u fp c ≡ before_of (suc iter) (next u fp c)
improved_by_lem iter u fp c n z = by (is_negative fp) refl
  where
    by : (b : Bool) → is_negative fp ≡ b → improved_by iter u fp c ≡ before_of (suc iter) (next u fp c)
    by true e = rw (above_zero fp n z ∙ ap not e, below_zero fp z ∙ e) (ap (before_of (suc iter)) (next_falls u fp c e))
    by false e = rw (above_zero fp n z ∙ ap not e, below_zero fp z ∙ e) (ap (before_of (suc iter)) (next_rises u fp c refl e))

next_fp : (u : Trial) (fp c : Float) → (next u fp c).fp ≡ fp
next_fp u fp c = by (is_negative fp) refl
  where
    by : (b : Bool) → is_negative fp ≡ b → (next u fp c).fp ≡ fp
    by true e = ap (λ (s : Next). s.fp) (sym (next_falls u fp c e))
    by false e = ap (λ (s : Next). s.fp) (sym (next_rises u fp c refl e))

-- ---- trial ten, and a trial before it, by their tests
module _ (t : ℕ) (a₀ : Answer) (u : Trial) where
  abbrev told : Answer
  told = answer u.lambda u.norm (suc t) u.step

  at_ten : {r : Answer} (x y : Bool) → concluded t a₀ (elim x [ true ↦ last u (elim y [ true ↦ stopped ten | false ↦ run.refused trial_norm ]) | false ↦ run.refused trial_lambda ]) ≡ answered r → output_of told ≡ output_of r
  unfolding concluded
  at_ten true true h = ap output_of (answered-same h)
  at_ten true false h = refused-answered h
  at_ten false y h = refused-answered h

  -- where the norm is finite LMPAR makes the same tests; and past them, the correction finite too, the rest of the two runs has to agree
  before_ten : {r : Answer} (fp : Float) (rest : Run) (whole onward : Output) (v w x y z : Bool) → concluded t a₀ (tested u fp rest v w x y z) ≡ answered r
      → (w ≡ true → whole ≡ elim (x || y) [ true ↦ output_of told | false ↦ onward ])
      → (w ≡ true → x ≡ false → z ≡ true → concluded (suc t) told rest ≡ answered r → onward ≡ output_of r) → whole ≡ output_of r
  unfolding concluded
  before_ten fp rest whole onward false w x y z h is on = refused-answered h
  before_ten fp rest whole onward true false x y z h is on = refused-answered h
  before_ten fp rest whole onward true true true y z h is on = is refl ∙ ap output_of (answered-same h)
  before_ten fp rest whole onward true true false true z h is on = is refl ∙ ap output_of (answered-same h)
  before_ten fp rest whole onward true true false false false h is on = refused-answered h
  before_ten fp rest whole onward true true false false true h is on = is refl ∙ on refl refl refl h

-- ---- the trials
module _ (enorm : List Float → Float) (same : AsNorm enorm) (p : Problem) (w : Formed p) (f : is_finite p.radius ≡ true) (b : Bounded (band p.radius)) where
  abbrev fp_of : Float → Float
  fp_of lambda = sub binary64 (scaled_norm p (damped_step p lambda)) p.radius

  abbrev corrected_of : Trial → Float
  corrected_of u = newton (fp_of u.lambda) p.radius (damped_slope p u.lambda u.step)

  improved_is : (t : ℕ) (s : Next) → is_finite (trial_of p s).norm ≡ true → is_within p (fp_of (trial_of p s).lambda) ≡ false → is_finite (corrected_of (trial_of p s)) ≡ true
      → improved enorm (given_of p) (before_of t s) (tried_of p (trial_of p s).lambda) ≡ before_of (suc t) (next (trial_of p s) (fp_of (trial_of p s).lambda) (corrected_of (trial_of p s)))
  unfolding improved trial_of is_within
  improved_is t s n o c =
      let u = trial_of p s in
      let fp = fp_of u.lambda in
      rw (correction_is enorm same p w u.lambda c)
      (improved_by_lem t u fp (corrected_of u) (difference_number binary64 u.norm p.radius n f) (apart_not_zero fp p.radius b o))

  -- an iteration that was evaluated, by its test
  abbrev ended : ℕ → ℕ → Next → Tried → Bool → Output
  ended k t s y z = elim z [
    | true ↦ record { x = y.solved.x; par = y.par; qrsolvs = suc t }
    | false ↦ iterations enorm dwarf (given_of p) k (improved enorm (given_of p) (before_of t s) y)
  ]

  pub trials_agree : (k t : ℕ) (s : Next) (a₀ : Answer) {r : Answer} → eq s.fp plus_zero ≡ false → concluded t a₀ (trials_from p k s) ≡ answered r
      → iterations enorm dwarf (given_of p) k (before_of t s) ≡ output_of r
  unfolding iterations trials_from trial_of is_within
  trials_agree zero t s a₀ z h = rw (evaluated_is enorm p w t s) (at_ten t a₀ (trial_of p s) (is_finite (trial_of p s).lambda) (is_finite (trial_of p s).norm) h)
  trials_agree (suc k) t s a₀ z h =
      let u = trial_of p s in
      let fp = fp_of u.lambda in
      let c = corrected_of u in
      let y = tried_of p u.lambda in
      before_ten t a₀ u fp (trials_from p k (next u fp c)) _ (iterations enorm dwarf (given_of p) k (improved enorm (given_of p) (before_of t s) y))
      (is_finite u.lambda) (is_finite u.norm) (is_within p fp) (is_falling s fp) (is_finite c) h
      (λ n.
      ap (λ (x : Tried). ended k t s x (accepted (given_of p) (before_of t s) x)) (evaluated_is enorm p w t s ∙ ap (tried_by p u.lambda) (same (scaled_step p u.step) (finite_not_nan u.norm n)))
      ∙ ap (ended k t s y) (accepted_is p t s z y))
      (λ n o d g.
      ap (iterations enorm dwarf (given_of p) k) (improved_is t s n o d)
      ∙ trials_agree k (suc t) (next u fp c) (told t a₀ u) (ap (λ (x : Float). eq x plus_zero) (next_fp u fp c) ∙ apart_not_zero fp p.radius b o) g)
