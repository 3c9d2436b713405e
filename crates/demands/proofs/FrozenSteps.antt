-- 02, #108: the steps of the calls with marks: +0 at every frozen column; and a search is MINPACK-1's LMPAR, and has document 01's rule on lambda, on the
-- problem without the frozen columns. Assumes nothing.
use mathlib.Core.Path.{◌≡◌, refl, sym, ap, ◌∙◌, subst}
use mathlib.Core.Bool.{Bool, true, false, true≢false}
use mathlib.Core.List.{List, [], ◌∷◌}
use mathlib.Core.Logic.{◌↔◌, ◌⊎◌, inl}
use Prim.Native.Nat.{ℕ, zero, suc, ◌<◌, ◌≤◌}
use native.Mathlib.Omega.{arith}
use lib.ListN.{length, take, drop, get_or, length-replicate, get_or-replicate, get_or-append}
use lib.Seq.{take_at, take_all}
use lib.Ieee.{Float, nan, binary64, sub, lt, le}
use Rattle.leaves.specs.Number.{plus_zero, dwarf}
use Rattle.leaves.specs.Reply.{Reply, answered, refused}
use Rattle.leaves.specs.Square.{zeros}
use Rattle.frozen.specs.Frozen.{marks_of, free_of, merged}
use Rattle.frozen.proofs.Reduces.{marks-length, free_of_merged, merged_length, merged_frozen}
use Rattle.factor.specs.Outcome.{written, Ended}
use Rattle.factor.specs.Room.{load}
use Rattle.search.specs.Bounds.{band}
use Rattle.search.specs.Enorm.{minpack_enorm}
use Rattle.search.specs.Lmpar.{lmpar}
use Rattle.search.specs.Against.{lent_of}
use Rattle.search.specs.Problem.{Problem, undamped_step, scaled_norm}
use Rattle.search.specs.Ending.{ending}
use Rattle.search.specs.Run.{within, falling, run_of}
use Rattle.search.specs.Search.{Flagged, problem_of}
use Rattle.search.specs.Search as plain
use Rattle.search.proofs.AgainstLmpar.{search-answers_as_lmpar}
use Rattle.calls.specs.declared.state.State.{State}
use Rattle.calls.specs.State.{marks_in, cols, without_frozen}
use Rattle.calls.specs.Outcome.{narrowed_in}
use Rattle.calls.specs.Search.{marked_search}
use Rattle.demands.specs.Calls.{reply_number, zero_solve, damped_solve, held_solve, held_product, gradient, above, jx_norm, scaling, determined, non_singular}
use Rattle.demands.specs.History.{Call, base, search, AnyAnswer, of_base, found, perform, is_solve}
use Rattle.demands.specs.Marked.{MarkedOutcome, perform_marked, refusal_marked, reduced_call, reduced_outcome, answers, answered_out, read_back}
use Rattle.demands.proofs.MarkedForms.{marked_cases}
use Rattle.demands.proofs.FrozenTable.{frozen_answered, frozen_is_reduced}
use Rattle.demands.proofs.SearchAnswers as told

-- ---- a frozen column has a mark, and is one of the n
set-within : (ms : List Bool) (k : ℕ) → get_or ms k false ≡ true → k < length ms
set-within [] k h = absurd (true≢false (sym h))
set-within (b ∷ ms) zero h = omega arith
set-within (b ∷ ms) (suc k) h = let l = set-within ms k h in omega arith

none_set : (n k : ℕ) → get_or (marks_of n 0) k false ≡ true → ⊥
unfolding marks_of
none_set zero k h = true≢false (sym h)
none_set (suc n) zero h = true≢false (sym h)
none_set (suc n) (suc k) h = none_set n k h

some_mark : (st : State) (k : ℕ) → get_or (marks_in st) k false ≡ true → st.marks ≡ 0 → ⊥
some_mark st k h e = none_set st.n k (subst (λ (x : ℕ). get_or (marks_of st.n x) k false ≡ true) e h)

-- ---- a step that is written
module _ (st : State) (x out : List Float) where
  abbrev step : List Float
  step = merged (marks_in st) (zeros st.n) x

  step_length : length step ≡ st.n
  step_length = merged_length (marks_in st) (zeros st.n) x ∙ length-replicate st.n plus_zero

  step_zero : (k : ℕ) → get_or (marks_in st) k false ≡ true → get_or (written step out) k nan ≡ plus_zero
  step_zero k h =
      let l = set-within (marks_in st) k h in
      let e = marks-length st.n st.marks in
      let f = step_length in
      get_or-append step (drop (length step) out) nan k (omega arith) ∙ merged_frozen (marks_in st) (zeros st.n) x k nan h ∙ get_or-replicate st.n k plus_zero nan (omega arith)

  -- what was worked out is read at the free columns
  step_free : length x ≡ cols st → free_of (marks_in st) (take st.n (written step out)) ≡ x
  step_free l =
      let e = marks-length st.n st.marks in
      let f = length-replicate st.n plus_zero in
      ap (λ (y : List Float). free_of (marks_in st) y) (take_at step (drop (length step) out) st.n step_length) ∙ free_of_merged (marks_in st) (zeros st.n) x (omega arith) l

-- ---- an answer comes from the reduced problem
refusal-answers : (c : Call) (k : ℕ) (st : State) (s : List Float) → answers (refusal_marked c k st s).answer ≡ false
refusal-answers (base (zero_solve out)) k st s = refl
refusal-answers (base (damped_solve diag out)) k st s = refl
refusal-answers (base (held_solve rhs out)) k st s = refl
refusal-answers (base (held_product out)) k st s = refl
refusal-answers (base (gradient bnorm)) k st s = refl
refusal-answers (base (above bnorm limit)) k st s = refl
refusal-answers (base (jx_norm x)) k st s = refl
refusal-answers (base (scaling md diag x bound)) k st s = refl
refusal-answers (base determined) k st s = refl
refusal-answers (base non_singular) k st s = refl
refusal-answers (search diag radius lambda out) k st s = refl

chosen : (b : Bool) (x y : List Float) → b ≡ true → elim b [ true ↦ x | false ↦ y ] ≡ x
chosen true x y e = refl
chosen false x y e = absurd (true≢false (sym e))

-- LAW: the output of an answered call
pub answered_out_lem : (c : Call) (st : State) (order : List ℕ) (s : List Float) → (st.marks ≡ 0 → ⊥) → answers (perform_marked c st order s).answer ≡ true
    → (perform_marked c st order s).out ≡ answered_out c st (reduced_outcome c st order s).out
answered_out_lem c st order s m = marked_cases st order s c m (λ (o : MarkedOutcome). answers o.answer ≡ true → o.out ≡ answered_out c st (reduced_outcome c st order s).out)
    (λ z a. chosen _ _ _ a)
    (λ z a. absurd (true≢false (sym a ∙ refusal-answers c _ st s)))

solved-zero : (c : Call) → is_solve c ≡ true → (st : State) (x : List Float) (k : ℕ) → get_or (marks_in st) k false ≡ true → get_or (answered_out c st x) k nan ≡ plus_zero
unfolding answered_out
solved-zero (base (zero_solve out)) i st x k h = step_zero st x out k h
solved-zero (base (damped_solve diag out)) i st x k h = step_zero st x out k h
solved-zero (base (held_solve rhs out)) i st x k h = absurd (true≢false (sym i))
solved-zero (base (held_product out)) i st x k h = absurd (true≢false (sym i))
solved-zero (base (gradient bnorm)) i st x k h = absurd (true≢false (sym i))
solved-zero (base (above bnorm limit)) i st x k h = absurd (true≢false (sym i))
solved-zero (base (jx_norm y)) i st x k h = absurd (true≢false (sym i))
solved-zero (base (scaling md diag y bound)) i st x k h = absurd (true≢false (sym i))
solved-zero (base determined) i st x k h = absurd (true≢false (sym i))
solved-zero (base non_singular) i st x k h = absurd (true≢false (sym i))
solved-zero (search diag radius lambda out) i st x k h = step_zero st x out k h

-- LAW: a step is +0 at every frozen column
pub frozen_step_zero : (c : Call) (st : State) (order : List ℕ) (s : List Float) → is_solve c ≡ true → answers (perform_marked c st order s).answer ≡ true
    → (k : ℕ) → get_or (marks_in st) k false ≡ true → get_or (perform_marked c st order s).out k nan ≡ plus_zero
frozen_step_zero c st order s i a k h = rw (answered_out_lem c st order s (some_mark st k h) a) (solved-zero c i st (reduced_outcome c st order s).out k h)

-- ---- the search
abbrev found_in : AnyAnswer → Reply Flagged
found_in (of_base a) = refused 0
found_in (found r) = r

module _ (st : State) (order : List ℕ) (diag : List Float) (radius lambda : Float) (store out : List Float) (a : Flagged) (m : st.marks ≡ 0 → ⊥)
    (h : (marked_search st order diag radius lambda store out).reply ≡ answered a) where
  abbrev this : Call
  this = search diag radius lambda out

  -- the search without marks on the problem without the frozen columns
  abbrev small : Ended Flagged
  small = plain.search_call (without_frozen st) (take (cols st) order) (free_of (marks_in st) diag) radius lambda (narrowed_in st store) (zeros (cols st))

  read_back_lem : perform_marked this st order store ≡ read_back this st store (reduced_outcome this st order store)
  unfolding perform_marked
  read_back_lem = frozen_is_reduced this st order store m ((frozen_answered this st order store m).0 (ap reply_number h)).0

  small_answers : small.reply ≡ answered a
  unfolding perform_marked reduced_call perform
  small_answers = sym (ap (λ (o : MarkedOutcome). found_in o.answer) read_back_lem) ∙ h

  out_is : (marked_search st order diag radius lambda store out).out ≡ written (merged (marks_in st) (zeros st.n) small.out) out
  unfolding perform_marked reduced_call perform answered_out
  out_is = answered_out_lem this st order store m (rw h)

  out_free : free_of (marks_in st) (take st.n (marked_search st order diag radius lambda store out).out) ≡ take (cols st) small.out
  out_free =
      let l : length small.out ≡ cols st = told.out_length (without_frozen st) (take (cols st) order) (free_of (marks_in st) diag) radius lambda (narrowed_in st store) (zeros (cols st)) a small_answers (length-replicate (cols st) plus_zero) in
      ap (λ (y : List Float). free_of (marks_in st) (take st.n y)) out_is ∙ step_free st small.out out l ∙ sym (take_all (cols st) small.out (omega arith))

  -- LAW
  pub frozen_search-lmpar : (unset : Float) → cols st ≤ st.m
      → lmpar (minpack_enorm unset) dwarf (lent_of (without_frozen st) (take (cols st) order) (free_of (marks_in st) diag) radius (narrowed_in st store)) lambda
      ≡ record { x = free_of (marks_in st) (take st.n (marked_search st order diag radius lambda store out).out); par = a.0.lambda; qrsolvs = a.0.trials }
  frozen_search-lmpar unset l =
      rw out_free (search-answers_as_lmpar unset (without_frozen st) (take (cols st) order) (free_of (marks_in st) diag) radius lambda (narrowed_in st store) (zeros (cols st)) a small_answers l)

  -- LAW: the rule on lambda, by the reduced problem's undamped step
  abbrev pub asked : Problem
  asked = problem_of (without_frozen st) (take (cols st) order) (free_of (marks_in st) diag) radius (load (cols st) (narrowed_in st store))

  abbrev pub overshoot : Float
  overshoot = sub binary64 (scaled_norm asked (undamped_step asked)) radius

  pub frozen_lambda : (a.0.lambda ≡ plus_zero) ↔ (le overshoot (band radius) ≡ true)
  frozen_lambda = told.lambda_rule (without_frozen st) (take (cols st) order) (free_of (marks_in st) diag) radius lambda (narrowed_in st store) (zeros (cols st)) a small_answers

  -- LAW: and that on trials
  pub frozen_trials : le overshoot (band radius) ≡ false
      → (lt plus_zero a.0.lambda ≡ true)
      × ((1 ≤ a.0.trials) × ((a.0.trials ≤ 10) × (a.0.trials < 10 → (ending (run_of asked lambda) ≡ inl within) ⊎ (ending (run_of asked lambda) ≡ inl falling))))
  frozen_trials = told.trial_rule (without_frozen st) (take (cols st) order) (free_of (marks_in st) diag) radius lambda (narrowed_in st store) (zeros (cols st)) a small_answers
