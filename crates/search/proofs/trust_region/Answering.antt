-- The answer of a search, by the two tests after its undamped step. Assumes nothing.
use mathlib.Core.Path.{◌≡◌, refl, sym, ap, ◌∙◌}
use mathlib.Core.Bool.{Bool, true, false}
use mathlib.Core.List.{List, ◌∷◌, ◌++◌}
use lib.Ieee.{Float, binary64, sub, le}
use Rattle.std.specs.Prelude.{Result}
use Rattle.leaves.specs.declared.reply.Refusal.{Refusal}
use Rattle.search.specs.declared.LMParameter.{LMParameter}
use Rattle.leaves.specs.Reply.{Reply, answered, refused}
use Rattle.leaves.specs.Number.{plus_zero, is_finite}
use Rattle.leaves.specs.Norm.{either, ranges, ranges_of}
use Rattle.leaves.specs.declared.norm.Ranges.{Ranges}
use Rattle.leaves.proofs.Seen.{ranges_of_one, ranges_of-append}
use Rattle.search.specs.Problem.{Problem, undamped_step, scaled_step, scaled_norm}
use Rattle.search.specs.Bounds.{lower_bound_of, gnorm, band}
use Rattle.search.specs.Run as run
use Rattle.search.specs.Run.{Run, lower_bound, gradient_norm, run_of}
use Rattle.search.specs.Measured.{measured_bounds, unless_stopped, measured_trials, measured_by}
use Rattle.search.specs.Search.{Answer, answer, concluded, answer_of}
use Rattle.search.specs.inner.Read.{unanswered, damped, Saw}
use Rattle.search.proofs.Trying.{any_answer, trials_unless}
use Rattle.search.proofs.Seeing.{saw_same}

-- ---- a run from the bounds on does not begin with a stop
bounds_unless : (rest : Run) (vs : List (List Float)) (x y : Bool) → unless_stopped rest vs ≡ vs
    → unless_stopped (elim x [ true ↦ elim y [ true ↦ rest | false ↦ run.refused gradient_norm ] | false ↦ run.refused lower_bound ]) vs ≡ vs
unfolding unless_stopped
bounds_unless rest vs true true h = h
bounds_unless rest vs true false h = refl
bounds_unless rest vs false y h = refl

damped_unless : (p : Problem) (initial : Float) (step : List Float) (vs : List (List Float)) → unless_stopped (damped p initial step) vs ≡ vs
damped_unless p initial step vs =
    let fp = sub binary64 (scaled_norm p step) p.radius in
    bounds_unless _ vs (is_finite (lower_bound_of p step fp)) (is_finite (gnorm p)) (trials_unless p 9 _ vs)

-- ---- it is not read before its first trial
bounds_any : (a b : Answer) (rest : Run) (x y : Bool) → concluded 0 a rest ≡ concluded 0 b rest
    → concluded 0 a (elim x [ true ↦ elim y [ true ↦ rest | false ↦ run.refused gradient_norm ] | false ↦ run.refused lower_bound ])
    ≡ concluded 0 b (elim x [ true ↦ elim y [ true ↦ rest | false ↦ run.refused gradient_norm ] | false ↦ run.refused lower_bound ])
unfolding concluded
bounds_any a b rest true true h = h
bounds_any a b rest true false h = refl
bounds_any a b rest false y h = refl

damped-any : (a b : Answer) (p : Problem) (initial : Float) (step : List Float) → concluded 0 a (damped p initial step) ≡ concluded 0 b (damped p initial step)
damped-any a b p initial step =
    let fp = sub binary64 (scaled_norm p step) p.radius in
    bounds_any a b _ (is_finite (lower_bound_of p step fp)) (is_finite (gnorm p)) (any_answer 0 a b p 9 _)

module _ (p : Problem) (initial : Float) {step : List Float} {n : Float} (e : step ≡ undamped_step p) (d : n ≡ scaled_norm p step) where
  norm_is : scaled_norm p (undamped_step p) ≡ n
  norm_is = ap (scaled_norm p) (sym e) ∙ sym d

  pub no_norm : is_finite n ≡ false → refused 8 ≡ answer_of p initial
  unfolding answer_of run_of concluded
  no_norm h = let f : is_finite (scaled_norm p (undamped_step p)) ≡ false = rw norm_is h in rw (f, concluded)

  module _ (h : is_finite n ≡ true) where
    abbrev finite_norm : is_finite (scaled_norm p (undamped_step p)) ≡ true
    finite_norm = rw norm_is h

    pub taken : le (sub binary64 n p.radius) (band p.radius) ≡ true → answered (answer plus_zero n 0 step) ≡ answer_of p initial
    unfolding answer_of run_of concluded
    taken w =
        let w' : le (sub binary64 (scaled_norm p (undamped_step p)) p.radius) (band p.radius) ≡ true = rw norm_is w in
        rw (finite_norm, w', concluded, d, e)

    -- the norm of its scaled step is the only one
    pub taken_seen : {seen : Ranges} → le (sub binary64 n p.radius) (band p.radius) ≡ true → seen ≡ ranges (scaled_step p step) → seen ≡ ranges_of (measured_by p initial)
    unfolding measured_by unless_stopped measured_trials run_of
    taken_seen w k =
        let w' : le (sub binary64 (scaled_norm p (undamped_step p)) p.radius) (band p.radius) ≡ true = rw norm_is w in
        k ∙ ap (λ (x : List Float). ranges (scaled_step p x)) e ∙ sym (ranges_of_one (scaled_step p (undamped_step p)))
        ∙ ap (λ (r : Run). ranges_of (scaled_step p (undamped_step p) ∷ (unless_stopped r (measured_bounds p (undamped_step p)) ++ measured_trials p r))) (by (damped p initial (undamped_step p)) finite_norm w')
      where
        by : (rest : Run) {x y : Bool} → x ≡ true → y ≡ true
            → run.stopped run.undamped ≡ elim x [ true ↦ elim y [ true ↦ run.stopped run.undamped | false ↦ rest ] | false ↦ run.refused run.undamped_norm ]
        by rest u w = rw (u, w)

    module _ (w : le (sub binary64 n p.radius) (band p.radius) ≡ false) where
      run_on : damped p initial (undamped_step p) ≡ run_of p initial
      unfolding run_of
      run_on =
          let w' : le (sub binary64 (scaled_norm p (undamped_step p)) p.radius) (band p.radius) ≡ false = rw norm_is w in
          by (damped p initial (undamped_step p)) finite_norm w'
        where
          by : (rest : Run) {x y : Bool} → x ≡ true → y ≡ false
              → rest ≡ elim x [ true ↦ elim y [ true ↦ run.stopped run.undamped | false ↦ rest ] | false ↦ run.refused run.undamped_norm ]
          by rest u w = rw (u, w)

      pub not_taken : {r : Reply Answer} → r ≡ concluded 0 unanswered (damped p initial step) → r ≡ answer_of p initial
      unfolding answer_of
      not_taken k =
          let a = answer plus_zero (scaled_norm p (undamped_step p)) 0 (undamped_step p) in
          k ∙ ap (λ (x : List Float). concluded 0 unanswered (damped p initial x)) e ∙ damped-any unanswered a p initial (undamped_step p) ∙ ap (concluded 0 a) run_on

      pub not_taken_seen : (r : Result (LMParameter × Ranges) Refusal) {seen : Ranges} → seen ≡ ranges (scaled_step p step)
          → Saw r (either seen (either (ranges_of (measured_bounds p step)) (ranges_of (measured_trials p (damped p initial step))))) → Saw r (ranges_of (measured_by p initial))
      unfolding measured_by ranges_of
      not_taken_seen r {seen} k h =
          let s = undamped_step p in
          let d = damped p initial s in
          let v = scaled_step p s in
          saw_same r h
          (ap (λ (x : List Float). either seen (either (ranges_of (measured_bounds p x)) (ranges_of (measured_trials p (damped p initial x))))) e
          ∙ ap (λ (x : Ranges). either x (either (ranges_of (measured_bounds p s)) (ranges_of (measured_trials p d)))) (k ∙ ap (λ (x : List Float). ranges (scaled_step p x)) e)
          ∙ ap (either (ranges v)) (sym (ranges_of-append (measured_bounds p s) (measured_trials p d)))
          ∙ ap (λ (vs : List (List Float)). ranges_of (v ∷ (vs ++ measured_trials p d))) (sym (damped_unless p initial s (measured_bounds p s)))
          ∙ ap (λ (x : Run). ranges_of (v ∷ (unless_stopped x (measured_bounds p s) ++ measured_trials p x))) run_on)

pub band_test : (x radius : Float) {y : Float} {b : Bool} → y ≡ band radius → le x y ≡ b → le x (band radius) ≡ b
band_test x radius e h = ap (le x) (sym e) ∙ h
