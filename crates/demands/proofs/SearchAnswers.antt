-- What an answered search tells its caller, for any state, store and order list: the rule on lambda and the rule on trials; a finite step that
-- is written, with the surplus of the output as it was; a finite lambda that is not below zero; a scaled norm that is finite and is the norm of
-- scaling times step. Assumes nothing.
use mathlib.Core.Path.{◌≡◌, refl, sym, ap, ◌∙◌, subst}
use mathlib.Core.Bool.{Bool, true, false, true≢false}
use mathlib.Core.List.{List}
use mathlib.Core.Logic.{◌↔◌, ◌⊎◌, inl, inr}
use Prim.Native.Nat.{ℕ, ◌<◌, ◌≤◌}
use native.Mathlib.Omega.{arith}
use lib.ListN.{length, take, drop, length-append, length-drop}
use lib.Seq.{length-take-le, take_at, drop_at}
use lib.Ieee.{Float, binary64, sub, lt, le}
use borrow.Author.Tests.{not-false}
use Rattle.leaves.specs.declared.norm.Ranges.{Ranges}
use Rattle.search.specs.Measured.{measured_by}
use Rattle.search.specs.declared.LMParameter.{LMParameter}
use Rattle.leaves.specs.Reply.{Reply, answered, refused}
use Rattle.leaves.specs.Number.{plus_zero, is_finite, abs_of}
use Rattle.leaves.specs.Norm.{norm, ranges_of}
use Rattle.leaves.specs.Product.{product_all}
use Rattle.leaves.specs.Root.{root_s}
use Rattle.leaves.specs.Vector.{scale_all}
use Rattle.leaves.proofs.Replies.{answered-same, refused-answered}
use Rattle.leaves.proofs.Normed.{norm_products}
use Rattle.factor.specs.Room.{Room, load, lay, emptied}
use Rattle.leaves.specs.Tests.{all_finite}
use Rattle.factor.specs.Solve.{zero_solved, gather, damped_solved}
use Rattle.eliminate.specs.Eliminate.{damping, heads, tails}
use Rattle.factor.specs.Outcome.{Ended, written}
use Rattle.demands.specs.Calls.{reply_number}
use Rattle.factor.specs.declared.state.State.{State}
use Rattle.leaves.proofs.Refusals.{passed_iff}
use Rattle.factor.proofs.Passed.{finite_all}
use Rattle.search.specs.Problem.{Problem, placed, undamped_step, damped_rows, damped_step, scaled_norm}
use Rattle.search.specs.Bounds.{band}
use Rattle.search.specs.Run.{Stop, undamped, ten, within, falling, is_within, run_of}
use Rattle.search.specs.Search.{Flagged, Answer, answer_of, searched, search_call}
use Rattle.search.specs.inner.Read.{Ready}
use Rattle.search.proofs.Shapes.{placed-length, zero-length, damped-length, gathered_even}
use Rattle.search.proofs.Workings.{shaped, order_long}
use Rattle.search.proofs.Calling.{ready, diag_long}
use Rattle.demands.proofs.SearchTable.{tests, tested, asked, call, ends, passed_is, answered_otherwise}
use Rattle.search.proofs.Runs.{Counted, stop-same}
use Rattle.search.proofs.Signs.{above_not_below}
use Rattle.search.proofs.Falling.{falling_not_first}
use Rattle.search.proofs.Rules.{Undamped, Damped, Answered, answered_rules}
use Rattle.factor.specs.inner.Rooms.{Shaped}
use Rattle.leaves.specs.Refusing.{NoneHold}

searched-answers : (st : State) (s out : List Float) (seen : Ranges) (x : Reply Answer) (a : Flagged) → (searched st s out seen x).reply ≡ answered a
    → (b : Answer) × ((x ≡ answered b) × ((b.0 ≡ a.0) × ((searched st s out seen x).out ≡ written b.1 out)))
searched-answers st s out seen (answered b) a h = (b, (refl, (ap (λ (p : Flagged). p.0) (answered-same h), refl)))
searched-answers st s out seen (refused k) a h = refused-answered h

-- ---- a step has a number for each column
module _ (st : State) (order : List ℕ) (diag : List Float) (radius : Float) (room : Room) (z : Shaped st.n room) (ol : st.n ≤ length order) where
  abbrev problem : Problem
  problem = record { m = st.m; upper = room.upper; qtb = room.qtb; order = take st.n order; diag = take st.n diag; radius = radius }

  undamped_long : length (undamped_step problem) ≡ st.n
  unfolding undamped_step placed
  undamped_long =
      placed-length (take st.n order) (zero_solved st.m room.upper room.qtb) ∙ zero-length st.m room.upper room.qtb (z.upper_wide ∙ sym z.qtb_long) ∙ z.qtb_long

  damped_long : (lambda : Float) → length (damped_step problem lambda) ≡ st.n
  unfolding damped_step damped_rows placed
  damped_long lambda =
      let ds = scale_all (root_s lambda) (take st.n diag) in
      let l = damping (gather (take st.n order) ds) room.upper room.qtb in
      placed-length (take st.n order) (damped_solved (heads l.0) (tails l.0) l.1) ∙ damped-length (heads l.0) (tails l.0) l.1 ∙ (gathered_even st.n order ds room z ol).1

module _ (st : State) (order : List ℕ) (diag : List Float) (radius lambda : Float) (store out : List Float) (a : Flagged) where
  abbrev room : Room
  room = load st.n store

  abbrev problem_asked : Problem
  problem_asked = asked st order diag radius lambda store out

  -- the computed undamped scaled norm less the radius
  abbrev pub overshoot : Float
  overshoot = sub binary64 (scaled_norm problem_asked (undamped_step problem_asked)) radius

  module _ (h : (search_call st order diag radius lambda store out).reply ≡ answered a) where
    none_held : NoneHold (tests st order diag radius lambda store out)
    none_held = ((answered_otherwise st order diag radius lambda store out).0 (ap reply_number h)).0

    all_passed : tested st order diag radius lambda store out ≡ 0
    all_passed = (passed_iff (tests st order diag radius lambda store out) refl).1 none_held

    is_ready : Ready st store order
    is_ready = ready st store order diag radius lambda out refl all_passed

    the_answer : (b : Answer) × ((answer_of problem_asked lambda ≡ answered b) × ((b.0 ≡ a.0) × ((call st order diag radius lambda store out).out ≡ written b.1 out)))
    the_answer =
        let e = passed_is st order diag radius lambda store out all_passed in
        let r = searched-answers st (lay (emptied room)) out (ranges_of (measured_by problem_asked lambda)) (answer_of problem_asked lambda) a (ap (λ (x : Ended Flagged). x.reply) (sym e) ∙ h) in
        (r.0, (r.1.0, (r.1.1.0, ap (λ (x : Ended Flagged). x.out) e ∙ r.1.1.1)))

    abbrev step : List Float
    step = the_answer.0.1

    rules : Answered problem_asked (run_of problem_asked lambda) (a.0, step)
    rules =
        let n = none_held in
        subst (λ (x : LMParameter). Answered problem_asked (run_of problem_asked lambda) (x, step)) the_answer.1.1.0
        (answered_rules problem_asked (not-false (is_finite radius) n.1.1.1.1.1.0) n.1.1.1.1.1.1.1.0 lambda n.1.1.1.1.1.1.1.1.0 the_answer.0 the_answer.1.0)

    step_long : length step ≡ st.n
    step_long = by rules.by_rule
      where
        z : Shaped st.n room
        z = shaped st store order is_ready

        by : Undamped problem_asked (run_of problem_asked lambda) (a.0, step) ⊎ Damped problem_asked (run_of problem_asked lambda) (a.0, step) → length step ≡ st.n
        by (inl u) = ap length u.step_is ∙ undamped_long st order diag radius room z (order_long st store order is_ready)
        by (inr d) = ap length d.step_is ∙ damped_long st order diag radius room z (order_long st store order is_ready) a.0.lambda

    written_step : (search_call st order diag radius lambda store out).out ≡ written step out
    written_step = the_answer.1.1.1

    step_read : take st.n (search_call st order diag radius lambda store out).out ≡ step
    step_read = ap (take st.n) written_step ∙ take_at step (drop (length step) out) st.n step_long

    -- LAW: the surplus of the output is as it was
    pub surplus_kept : drop st.n (search_call st order diag radius lambda store out).out ≡ drop st.n out
    surplus_kept = ap (drop st.n) written_step ∙ drop_at step (drop (length step) out) st.n step_long ∙ ap (λ (k : ℕ). drop k out) step_long

    -- LAW: an output with a number for each column is written whole
    pub out_length : length out ≡ st.n → length (search_call st order diag radius lambda store out).out ≡ st.n
    out_length l =
        let a = step_long in
        let b = length-append step (drop (length step) out) in
        let d = length-drop (length step) out in
        ap length written_step ∙ omega arith

    -- LAW: the norm is that of scaling times step, and finite
    pub norm_of_step : a.0.dp_norm ≡ norm (product_all (take st.n (search_call st order diag radius lambda store out).out) (take st.n diag))
    norm_of_step = rules.norm_is ∙ ap (λ (x : List Float). norm (product_all x (take st.n diag))) (sym step_read)

    pub norm_finite : is_finite a.0.dp_norm ≡ true
    norm_finite = rules.norm_finite

    -- LAW: every entry of the step is finite
    pub step_finite : all_finite (take st.n (search_call st order diag radius lambda store out).out) ≡ true
    step_finite =
        let dl = length-take-le st.n diag (diag_long st store order diag radius lambda out refl all_passed) in
        rw step_read (finite_all step (λ i l. norm_products (take st.n diag) step (step_long ∙ sym dl) (rw rules.norm_is at norm_finite) i l))

    -- LAW: and lambda is finite and not below zero
    pub lambda_finite : is_finite a.0.lambda ≡ true
    lambda_finite = rules.lambda_finite

    abbrev Zero : Type 0
    Zero = Undamped problem_asked (run_of problem_asked lambda) (a.0, step)

    abbrev Above : Type 0
    Above = Damped problem_asked (run_of problem_asked lambda) (a.0, step)

    by_rule : {X : Type 0} → (Zero → X) → (Above → X) → X
    by_rule {X} f g = by rules.by_rule
      where
        by : Zero ⊎ Above → X
        by (inl u) = f u
        by (inr d) = g d

    zero-not_above : lt plus_zero plus_zero ≡ false
    unfolding lt
    zero-not_above = refl

    pub lambda_not_below : lt a.0.lambda plus_zero ≡ false
    lambda_not_below = by_rule (λ u. rw u.lambda_zero zero-not_above) (λ d. above_not_below a.0.lambda d.lambda_above)

    -- LAW: lambda is zero exactly when the overshoot is at most the computed tenth of the radius; then there is no trial
    pub lambda_rule : (a.0.lambda ≡ plus_zero) ↔ (le overshoot (band radius) ≡ true)
    lambda_rule = (
      λ e. by_rule (λ u. u.taken) (λ d. absurd (true≢false (sym d.lambda_above ∙ ap (λ (x : Float). lt plus_zero x) e ∙ zero-not_above))),
      λ w. by_rule (λ u. u.lambda_zero) (λ d. absurd (true≢false (sym w ∙ d.not_taken))),
    )

    pub no_trial : le overshoot (band radius) ≡ true → a.0.trials ≡ 0
    no_trial w = by_rule (λ u. u.no_trial) (λ d. absurd (true≢false (sym w ∙ d.not_taken)))

    -- LAW: otherwise lambda is above zero after one to ten trials, and fewer than ten only for a stop rule
    abbrev by_stop_rule : Type 0
    by_stop_rule = (ends st order diag radius lambda store out ≡ inl within) ⊎ (ends st order diag radius lambda store out ≡ inl falling)

    pub trial_rule : le overshoot (band radius) ≡ false
        → (lt plus_zero a.0.lambda ≡ true) × ((1 ≤ a.0.trials) × ((a.0.trials ≤ 10) × (a.0.trials < 10 → by_stop_rule)))
    trial_rule w = by_rule (λ u. absurd (true≢false (sym u.taken ∙ w))) (λ d. by d.lambda_above d.rule d.stopped_by d.counted)
      where
        by : lt plus_zero a.0.lambda ≡ true → (x : Stop) → ends st order diag radius lambda store out ≡ inl x → Counted 9 a.0.trials x
            → (lt plus_zero a.0.lambda ≡ true) × ((1 ≤ a.0.trials) × ((a.0.trials ≤ 10) × (a.0.trials < 10 → by_stop_rule)))
        by l undamped e c = absurd c
        by l ten e c = (l, (omega arith, (omega arith, λ f. absurd (omega arith))))
        by l within e c = (l, (c.0, (omega (arith, c.1), λ f. inl e)))
        by l falling e c = (l, (c.0, (omega (arith, c.1), λ f. inr e)))

    pub trials_few : a.0.trials ≤ 10
    trials_few = by (le overshoot (band radius)) refl
      where
        by : (b : Bool) → le overshoot (band radius) ≡ b → a.0.trials ≤ 10
        by true e = let z = no_trial e in omega arith
        by false e = (trial_rule e).1.1.0

    -- LAW: the last of them takes two trials at least
    pub falling_later : ends st order diag radius lambda store out ≡ inl falling → 2 ≤ a.0.trials
    falling_later e = subst (λ (k : ℕ). 2 ≤ k) (sym rules.counts) (falling_not_first problem_asked lambda e)

    -- LAW: by the first of them the scaled norm is within a tenth of the radius of it
    pub within-band : ends st order diag radius lambda store out ≡ inl within → le (abs_of (sub binary64 a.0.dp_norm radius)) (band radius) ≡ true
    unfolding is_within
    within-band e =
        by_rule (λ u. absurd (true≢false (ap starts (stop-same undamped within (sym u.stopped_by ∙ e))))) (λ d. d.by_within (stop-same d.rule within (sym d.stopped_by ∙ e)))
      where
        starts : Stop → Bool
        starts undamped = true
        starts ten = false
        starts within = false
        starts falling = false
