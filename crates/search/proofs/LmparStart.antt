-- Up to its trials LMPAR is the search: the same undamped step, lower bound, gnorm, upper bound and first lambda; and from there on the same
-- answer, where the search answers. For any ENORM that is the leaf rules' norm wherever that is no NaN. Assumes nothing.
use mathlib.Core.Path.{◌≡◌, refl, sym, ap, ◌∙◌}
use mathlib.Core.Bool.{Bool, true, false, cond, not, ◌&&◌}
use mathlib.Core.List.{List, []}
use Prim.Native.Nat.{ℕ}
use native.Mathlib.Omega.{arith}
use lib.Dec.{leb, ltb}
use lib.ListN.{length, take}
use lib.Ieee.{Float, binary64, sub, mul, le}
use Rattle.leaves.specs.Reply.{answered}
use Rattle.leaves.specs.Number.{plus_zero, dwarf, is_finite}
use Rattle.leaves.specs.Norm.{norm}
use Rattle.leaves.proofs.Replies.{refused-answered, answered-same}
use Rattle.leaves.specs.Square.{diagonal}
use Rattle.factor.specs.Tests.{is_permutation}
use Rattle.factor.specs.Solve.{rank, zero_solved, no_zero, non_singular_of}
use Rattle.factor.specs.Held.{forward_upper}
use Rattle.leaves.proofs.Squares.{diagonal-length}
use Rattle.search.specs.Problem.{Problem, placed, undamped_step, scaled_step, scaled_norm, direction, undamped_slope, newton}
use Rattle.search.specs.Bounds.{tenth, band, lower_bound_of, gnorm, upper_bound, first_lambda}
use Rattle.search.specs.Run as run
use Rattle.search.specs.Run.{Run, Next, stopped, undamped, undamped_norm, lower_bound, gradient_norm, trials_from, run_of}
use Rattle.search.specs.Search.{Answer, answer, concluded, answer_of}
use Rattle.search.specs.Qrsolv.{permuted}
use Rattle.search.specs.Lmpar.{Output, Before, p1, nsing_of, gauss_newton, scaled, newton_step, newton_side, forward, parl_of, gradient, paru_of, par_of, iterations, lmpar}
use Rattle.search.specs.declared.LMParameter.{LMParameter}
use Rattle.search.proofs.LmparVectors.{Enough, rank_rows, full_rows, scaled_is, backward_is, forward_is, side_is, gradient_is, nsing_is, rank_full}
use Rattle.search.proofs.Signs.{finite_not_nan}
use Rattle.search.proofs.QrsolvSolution.{permuted_is}
use Rattle.search.proofs.Shapes.{zero-length}
use Rattle.search.proofs.LmparSigns.{divisor_number, band-bounded, outside_not_zero}
use Rattle.search.proofs.LmparTrials.{Formed, AsNorm, given_of, before_of, output_of, tenth_of, trials_agree}

-- ---- what stands before the trials
module _ (p : Problem) (wide : Enough p.m (diagonal p.upper)) (formed : Formed p) where
  nsing_rank : nsing_of (given_of p) ≡ rank (diagonal p.upper)
  nsing_rank = nsing_is (length p.upper) 0 (diagonal p.upper) (omega (arith, diagonal-length 0 p.upper)) ∙ omega arith

  newton_is : gauss_newton (given_of p) ≡ zero_solved p.m p.upper p.qtb
  unfolding gauss_newton zero_solved
  newton_is = rw (nsing_rank, rank_rows p.m (diagonal p.upper) wide, backward_is p.upper (rank (diagonal p.upper)) (take (rank (diagonal p.upper)) p.qtb), formed.rhs)

  step_is : permuted p.order (gauss_newton (given_of p)) ≡ undamped_step p
  unfolding undamped_step placed
  step_is =
      let long : length (zero_solved p.m p.upper p.qtb) ≡ length p.upper = zero-length p.m p.upper p.qtb (sym formed.rhs) ∙ formed.rhs in
      ap (permuted p.order) newton_is
      ∙ permuted_is p.order (zero_solved p.m p.upper p.qtb) (ap (λ (n : ℕ). is_permutation n p.order) long ∙ formed.permuted) (formed.pivots ∙ sym long)

  module _ (enorm : List Float → Float) (same : AsNorm enorm) where
    parl_is : (step : List Float) (fp : Float) → is_finite (lower_bound_of p step fp) ≡ true → parl_of enorm (given_of p) (scaled_step p step) (scaled_norm p step) fp ≡ lower_bound_of p step fp
    unfolding parl_of lower_bound_of non_singular_of newton_step newton undamped_slope direction
    parl_is step fp finite =
        let n = length p.upper in
        let d = diagonal p.upper in
        let v = scaled_step p step in
        let l : length d ≡ n = diagonal-length 0 p.upper in
        let less : ltb (nsing_of (given_of p)) n ≡ not (no_zero d) = ap (λ (k : ℕ). ltb k n) nsing_rank ∙ ap (λ (k : ℕ). ltb (rank d) k) (sym l) ∙ rank_full d in
        let full : (leb n p.m && no_zero d) ≡ no_zero d = ap (λ (k : ℕ). leb k p.m && no_zero d) (sym l) ∙ full_rows p.m d wide in
        let solved : forward [] p.upper (newton_side (given_of p) v (norm v)) ≡ forward_upper [] p.upper (direction p step) =
        ap (forward [] p.upper) (side_is (given_of p) v (norm v)) ∙ forward_is [] p.upper (direction p step) in
        rw (less, full, solved) (by step fp (no_zero d) (rw full at finite))
      where
        by : (step : List Float) (fp : Float) (z : Bool) → is_finite (cond z (newton fp p.radius (undamped_slope p step)) plus_zero) ≡ true
            → cond (not z) plus_zero (newton_step enorm (given_of p) fp (forward_upper [] p.upper (direction p step))) ≡ cond z (newton fp p.radius (undamped_slope p step)) plus_zero
        by step fp true h = rw (same (forward_upper [] p.upper (direction p step)) (divisor_number _ _ h))
        by step fp false h = refl

gnorm_is : (enorm : List Float → Float) → AsNorm enorm → (p : Problem) → is_finite (gnorm p) ≡ true → enorm (gradient (given_of p) p.upper p.order) ≡ gnorm p
unfolding gnorm
gnorm_is enorm same p finite = ap enorm (gradient_is (given_of p) p.upper p.order) ∙ same _ (finite_not_nan _ finite)

paru_is : (p : Problem) (g : Float) → paru_of dwarf (given_of p) g ≡ upper_bound g p.radius
unfolding paru_of upper_bound p1 tenth
paru_is p g = refl

-- ---- the whole, by the tests before the trials: where the undamped norm is finite LMPAR makes the same first test
module _ (a₀ : Answer) (rest : Run) (whole onward : Output) where
  by_tests : {r : Answer} (x y v w : Bool) → concluded 0 a₀ (elim x [
    | true ↦ elim y [
      | true ↦ stopped undamped
      | false ↦ elim v [ true ↦ elim w [ true ↦ rest | false ↦ run.refused gradient_norm ] | false ↦ run.refused lower_bound ]
    ]
    | false ↦ run.refused undamped_norm
  ]) ≡ answered r
      → (x ≡ true → whole ≡ elim y [ true ↦ output_of a₀ | false ↦ onward ])
      → (y ≡ false → v ≡ true → w ≡ true → concluded 0 a₀ rest ≡ answered r → onward ≡ output_of r) → whole ≡ output_of r
  unfolding concluded
  by_tests true true v w h is on = is refl ∙ ap output_of (answered-same h)
  by_tests true false true true h is on = is refl ∙ on refl refl refl h
  by_tests true false true false h is on = refused-answered h
  by_tests true false false w h is on = refused-answered h
  by_tests false y v w h is on = refused-answered h

module _ (enorm : List Float → Float) (p : Problem) (initial : Float) where
  -- what the trials start from, in LMPAR's terms and in the search's
  abbrev pub first_by : List Float → Float → Before
  first_by wa2 dxnorm =
      let fp = sub binary64 dxnorm p.radius in
      let parl = parl_of enorm (given_of p) wa2 dxnorm fp in
      let g = enorm (gradient (given_of p) p.upper p.order) in
      let paru = paru_of dwarf (given_of p) g in
      record { iter = 0; par = par_of initial parl paru g dxnorm; parl = parl; paru = paru; fp = fp }

  abbrev first : Next
  first =
      let step = undamped_step p in
      let fp = sub binary64 (scaled_norm p step) p.radius in
      let lower = lower_bound_of p step fp in
      let upper = upper_bound (gnorm p) p.radius in
      record { lambda = first_lambda initial lower upper (gnorm p) (scaled_norm p step); lower = lower; upper = upper; fp = fp }

  -- LMPAR by its first test
  abbrev pub ended : List Float → Before → Bool → Output
  ended x b z = elim z [ true ↦ record { x = x; par = plus_zero; qrsolvs = 0 } | false ↦ iterations enorm dwarf (given_of p) 9 b ]

  module _ (wide : Enough p.m (diagonal p.upper)) (formed : Formed p) where
    pub tested_is : (let v = scaled_step p (undamped_step p) in
        lmpar enorm dwarf (given_of p) initial ≡ ended (undamped_step p) (first_by v (enorm v)) (le (sub binary64 (enorm v) p.radius) (band p.radius)))
    unfolding lmpar
    tested_is =
        let step = undamped_step p in
        let test : List Float → Float → Bool = λ wa2 y. le (sub binary64 (enorm wa2) p.radius) y in
        let tenth = mul binary64 p1 p.radius in
        ap (λ (x : List Float). ended x (first_by (scaled p.diag x) (enorm (scaled p.diag x))) (test (scaled p.diag x) tenth)) (step_is p wide formed)
        ∙ ap (λ (v : List Float). ended step (first_by v (enorm v)) (test v tenth)) (scaled_is p.diag step)
        ∙ ap (λ (y : Float). ended step (first_by (scaled_step p step) (enorm (scaled_step p step))) (test (scaled_step p step) y)) (tenth_of p.radius)

    module _ (same : AsNorm enorm) where
      first_is : is_finite first.lower ≡ true → is_finite (gnorm p) ≡ true → first_by (scaled_step p (undamped_step p)) (scaled_norm p (undamped_step p)) ≡ before_of 0 first
      unfolding par_of first_lambda
      first_is l g =
          let step = undamped_step p in
          rw (gnorm_is enorm same p g, paru_is p (gnorm p), parl_is p wide formed enorm same step (sub binary64 (scaled_norm p step) p.radius) l)

      pub answer_is_lmpar : (a : LMParameter) (step : List Float) → is_finite p.radius ≡ true → le p.radius plus_zero ≡ false
          → answer_of p initial ≡ answered (a, step) → lmpar enorm dwarf (given_of p) initial ≡ record { x = step; par = a.lambda; qrsolvs = a.trials }
      unfolding answer_of run_of
      answer_is_lmpar a step f above e =
          let s = undamped_step p in
          let n = scaled_norm p s in
          let v = scaled_step p s in
          let fp = sub binary64 n p.radius in
          let a₀ = answer plus_zero n 0 s in
          let b = band-bounded p.radius f above in
          by_tests a₀ (trials_from p 9 first) _ (iterations enorm dwarf (given_of p) 9 (first_by v n)) (is_finite n) (le fp (band p.radius)) (is_finite first.lower) (is_finite (gnorm p)) e
          (λ h. tested_is ∙ ap (λ (x : Float). ended s (first_by v x) (le (sub binary64 x p.radius) (band p.radius))) (same v (finite_not_nan n h)))
          (λ out l g h. ap (iterations enorm dwarf (given_of p) 9) (first_is l g) ∙ trials_agree enorm same p formed f b 9 0 first a₀ (outside_not_zero fp p.radius b out) h)
