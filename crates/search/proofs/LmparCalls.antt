-- An answered call of the search, read for LMPAR: its tests were passed, it wrote its step, and the step has n entries. Assumes nothing.
use mathlib.Core.Path.{◌≡◌, refl, sym, ap, ap₂, ◌∙◌}
use mathlib.Core.Bool.{Bool, true, false}
use mathlib.Core.List.{List}
use Prim.Native.Nat.{ℕ, zero, suc}
use native.Mathlib.Omega.{arith}
use lib.Dec.{eqb}
use lib.ListN.{length, take, drop}
use lib.Seq.{take_at, take-take, length-take-le}
use lib.Ieee.{Float, binary64, sub, le}
use borrow.Author.Tests.{eqb-true, not-false}
use Rattle.leaves.specs.Reply.{Reply, answered, refused}
use Rattle.leaves.specs.Number.{plus_zero, dwarf, is_finite}
use Rattle.leaves.specs.Norm.{ranges_of}
use Rattle.leaves.specs.declared.norm.Ranges.{Ranges}
use Rattle.leaves.proofs.Replies.{refused-answered, answered-same}
use Rattle.factor.specs.Room.{Room, load, lay, emptied}
use Rattle.leaves.specs.Square.{diagonal}
use Rattle.leaves.specs.Tests.{Test, first_of}
use Rattle.factor.specs.Solve.{gather, zero_solved, damped_solved}
use Rattle.eliminate.specs.Eliminate.{damping, heads, tails}
use Rattle.factor.specs.Tests.{distinct_below}
use Rattle.factor.specs.Outcome.{Ended, ended, written}
use Rattle.factor.specs.declared.state.State.{State}
use Rattle.leaves.proofs.Refusals.{passed_iff}
use Rattle.factor.proofs.Solves.{gather-length}
use Rattle.search.specs.Problem.{Problem, placed, undamped_step, scaled_step}
use Rattle.search.specs.Bounds.{band}
use Rattle.search.specs.Measured.{measured_by}
use Rattle.search.specs.Search.{Answer, Flagged, answer_of, problem_of, search_tests, searched, search_call}
use Rattle.search.specs.Qrsolv.{Solved, qrsolv}
use Rattle.search.specs.Lmpar.{Given, Output, Before, Tried, evaluated, accepted, improved, iterations, lmpar}
use Rattle.search.specs.declared.LMParameter.{LMParameter}
use Rattle.search.proofs.Shapes.{placed-length, zero-length, damped-length, damping-fits}
use Rattle.search.proofs.Workings.{shaped, order_long, permuted}
use Rattle.search.proofs.Calling.{ready}
use Rattle.search.proofs.AgainstQrsolv.{qrsolv_is}
use Rattle.search.proofs.LmparVectors.{Enough}
use Rattle.search.proofs.LmparTrials.{Formed, AsNorm, given_of}
use Rattle.search.proofs.LmparStart.{first_by, tested_is, answer_is_lmpar}
use Rattle.search.proofs.LmparStart as start
use Rattle.factor.specs.inner.Rooms.{Shaped}

-- ---- x has n entries
module _ (enorm : List Float → Float) (p : Problem) (w : Formed p) where
  abbrev n : ℕ
  n = length p.upper

  abbrev a : Given
  a = given_of p

  qrsolv_long : (wa1 : List Float) → length (qrsolv n p.upper p.order wa1 p.qtb).x ≡ n
  qrsolv_long wa1 =
      let rows = damping (gather p.order wa1) p.upper p.qtb in
      ap (λ (x : Solved). length x.x) (qrsolv_is p.upper p.order wa1 p.qtb w.pivots w.rhs w.tall w.permuted)
      ∙ placed-length p.order (damped_solved (heads rows.0) (tails rows.0) rows.1)
      ∙ damped-length (heads rows.0) (tails rows.0) rows.1
      ∙ (damping-fits (gather p.order wa1) p.upper p.qtb (gather-length p.order wa1 ∙ w.pivots) w.rhs).1

  evaluated_long : (b : Before) → length (evaluated enorm dwarf a b).solved.x ≡ n
  unfolding evaluated
  evaluated_long b = qrsolv_long _

  iterations_long : (k : ℕ) (b : Before) → length (iterations enorm dwarf a k b).x ≡ n
  unfolding iterations
  iterations_long zero b = evaluated_long b
  iterations_long (suc k) b = let t = evaluated enorm dwarf a b in by (accepted a b t) t (evaluated_long b) (iterations_long k (improved enorm a b t))
    where
      by : (z : Bool) (t : Tried) → length t.solved.x ≡ n → length (iterations enorm dwarf a k (improved enorm a b t)).x ≡ n
          → length (elim z as (λ _. Output) [ true ↦ record { x = t.solved.x; par = t.par; qrsolvs = suc b.iter } | false ↦ iterations enorm dwarf a k (improved enorm a b t) ]).x ≡ n
      by true t h r = h
      by false t h r = r

  undamped_long : length (undamped_step p) ≡ n
  unfolding undamped_step placed
  undamped_long = placed-length p.order (zero_solved p.m p.upper p.qtb) ∙ zero-length p.m p.upper p.qtb (sym w.rhs) ∙ w.rhs

  x_long : (initial : Float) → Enough p.m (diagonal p.upper) → length (lmpar enorm dwarf a initial).x ≡ n
  x_long initial wide =
      let v = scaled_step p (undamped_step p) in
      ap (λ (x : Output). length x.x) (tested_is enorm p initial wide w)
      ∙ by (first_by enorm p initial v (enorm v)) (le (sub binary64 (enorm v) p.radius) (band p.radius))
    where
      by : (b : Before) (z : Bool) → length (start.ended enorm p initial (undamped_step p) b z).x ≡ n
      by b true = undamped_long
      by b false = iterations_long 9 b

-- ---- an answer comes from the working alone, and writes its step
module _ (st : State) (s store out : List Float) (seen : Ranges) (c : ℕ) where
  abbrev outcome : Reply Answer → Bool → Ended Flagged
  outcome x z = elim z [ true ↦ searched st s out seen x | false ↦ ended (refused c) st store out ]

  abbrev Worked : Reply Answer → LMParameter → List Float → Type 0
  Worked x a after = (c ≡ 0) × ((step : List Float) × ((x ≡ answered (a, step)) × (after ≡ written step out)))

  by_test : (x : Reply Answer) (a : Flagged) (z : Bool) → eqb c 0 ≡ z → (outcome x z).reply ≡ answered a → Worked x a.0 (outcome x z).out
  by_test (answered b) a true e h = (eqb-true c 0 e, (b.1, (ap (λ (y : Flagged). answered (y.0, b.1)) (answered-same h), refl)))
  by_test (refused k) a true e h = refused-answered h
  by_test x a false e h = refused-answered h

module _ (st : State) (order : List ℕ) (diag : List Float) (radius lambda : Float) (store out : List Float) where
  abbrev call : Ended Flagged
  call = search_call st order diag radius lambda store out

  abbrev room : Room
  room = load st.n store

  abbrev asked : Problem
  asked = problem_of st order diag radius (load st.n store)

  abbrev tests : List Test
  tests = search_tests st (length store) order diag radius lambda (length out)

  abbrev given : Given
  given = record { n = st.n; r = room.upper; ipvt = take st.n order; diag = take st.n diag; qtb = room.qtb; delta = radius }

  module _ (a : Flagged) (h : call.reply ≡ answered a) where
    abbrev seen : Ranges
    seen = ranges_of (measured_by asked lambda)

    worked : Worked st (lay (emptied room)) store out seen (first_of tests) (answer_of asked lambda) a.0 call.out
    unfolding search_call
    worked = by_test st (lay (emptied room)) store out seen (first_of tests) (answer_of asked lambda) a (eqb (first_of tests) 0) refl h

    -- the tests of the radius
    numbers : (is_finite radius ≡ true) × (le radius plus_zero ≡ false)
    numbers =
        let k = (passed_iff tests refl).0 worked.0 in
        (not-false (is_finite radius) k.1.1.1.1.1.0, k.1.1.1.1.1.1.1.0)

    pub fits : Shaped st.n room
    fits = shaped st store order (ready st store order diag radius lambda out refl worked.0)

    formed : Formed asked
    formed =
        let e = ready st store order diag radius lambda out refl worked.0 in
        let w = fits.upper_wide in
        record {
          pivots = length-take-le st.n order (order_long st store order e) ∙ sym w;
          rhs = fits.qtb_long ∙ sym w;
          tall = λ k l. fits.upper_tall k (rw w at l);
          permuted = ap₂ (λ (n : ℕ) (os : List ℕ). distinct_below n os) w (ap (λ (n : ℕ). take n (take st.n order)) w ∙ take-take st.n st.n order (omega arith)) ∙ permuted st store order e;
        }

    given_is : given ≡ given_of asked
    given_is = rw fits.upper_wide

    pub answers_as_lmpar : (enorm : List Float → Float) → AsNorm enorm → Enough st.m (diagonal room.upper)
        → lmpar enorm dwarf given lambda ≡ record { x = take st.n call.out; par = a.0.lambda; qrsolvs = a.0.trials }
    answers_as_lmpar enorm same wide =
        let step = worked.1.0 in
        let is = answer_is_lmpar enorm asked lambda wide formed same a.0 step numbers.0 numbers.1 worked.1.1.0 in
        let long : length step ≡ st.n = ap (λ (x : Output). length x.x) (sym is) ∙ x_long enorm asked formed lambda wide ∙ fits.upper_wide in
        let e : take st.n call.out ≡ step = ap (take st.n) worked.1.1.1 ∙ take_at step (drop (length step) out) st.n long in
        ap (λ (x : Given). lmpar enorm dwarf x lambda) given_is ∙ is ∙ ap (λ (x : List Float). record { x = x; par = a.0.lambda; qrsolvs = a.0.trials }) (sym e)
