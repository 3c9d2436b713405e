-- What an answered search is: the rule on lambda and the rule on trials of demand 3, its scaled norm, and that its numbers are finite; for any
-- problem whose radius is finite and above zero, from an initial lambda that is not below zero. Assumes nothing.
use mathlib.Core.Path.{◌≡◌, refl, sym, ap, ◌∙◌, subst}
use mathlib.Core.Bool.{true, false, true≢false}
use mathlib.Core.Logic.{◌⊎◌, inl, inr}
use Prim.Native.Nat.{ℕ, suc, ◌+◌}
use native.Mathlib.Omega.{arith}
use lib.Ieee.{Float, binary64, sub, lt, le}
use Rattle.leaves.specs.Reply.{answered}
use Rattle.leaves.specs.Number.{plus_zero, is_finite}
use Rattle.leaves.proofs.Replies.{answered-same, refused-answered}
use Rattle.search.specs.Problem.{Problem, undamped_step, damped_step, scaled_norm}
use Rattle.search.specs.Bounds.{band}
use Rattle.search.specs.Run.{Run, Trial, Stop, stopped, last, trial, undamped, within, is_within, trials_from, run_of}
use Rattle.search.specs.Run as run
use Rattle.search.specs.Ending.{ending, RuledFrom}
use Rattle.search.specs.Search.{Answer, answer, concluded, answer_of}
use Rattle.search.proofs.Sound.{first_sound}
use Rattle.search.proofs.Runs.{EachTrial, Good, Counted, each_good, each_counted, each_ruled, undamped_fp, first, run_cases, some_trial}
use Rattle.search.specs.inner.Counting.{trial_count}

-- ---- an answer that is read off a run: what was there before the first trial, or the last trial
module _ (P : Trial → Run → Type 0) where
  abbrev Last : Stop → Answer → Type 0
  Last x b = (t : Trial) × (P t (stopped x) × (b ≡ answer t.lambda t.norm b.0.trials t.step))

  record ReadOff (k : ℕ) (a : Answer) (r : Run) (b : Answer) : Type 0 where
    stop : Stop
    ends : ending r ≡ inl stop
    count : b.0.trials ≡ k + trial_count r
    of : ((r ≡ stopped stop) × (b ≡ a)) ⊎ Last stop b

  was_last : (j : ℕ) (t : Trial) (r : Run) (b : Answer) (x : Stop) → P t r → ((r ≡ stopped x) × (b ≡ answer t.lambda t.norm j t.step)) ⊎ Last x b → Last x b
  was_last j t r b x p (inl q) =
      (t, (subst (λ (y : Run). P t y) q.0 p, q.1 ∙ ap (λ (i : ℕ). answer t.lambda t.norm i t.step) (ap (λ (y : Answer). y.0.trials) (sym q.1))))
  was_last j t r b x p (inr q) = q

  read_off : (k : ℕ) (a : Answer) (r : Run) (b : Answer) → a.0.trials ≡ k → EachTrial P r → concluded k a r ≡ answered b → ReadOff k a r b
  unfolding concluded ending trial_count
  read_off k a (stopped s) b h e c =
      let d = answered-same c in
      let n : b.0.trials ≡ k = ap (λ (x : Answer). x.0.trials) (sym d) ∙ h in
      record { stop = s; ends = refl; count = omega arith; of = inl (refl, sym d) }
  read_off k a (run.refused q) b h e c = refused-answered c
  read_off k a (last t r) b h e c =
      let i = read_off (suc k) (answer t.lambda t.norm (suc k) t.step) r b refl e.1 c in
      let n = i.count in
      record { stop = i.stop; ends = i.ends; count = omega arith; of = inr (was_last (suc k) t r b i.stop e.0 i.of) }
  read_off k a (trial t fp r) b h e c =
      let i = read_off (suc k) (answer t.lambda t.norm (suc k) t.step) r b refl e.1 c in
      let n = i.count in
      record { stop = i.stop; ends = i.ends; count = omega arith; of = inr (was_last (suc k) t r b i.stop e.0 i.of) }

-- ---- an answered search

-- no trial: the undamped step is taken, and lambda is +0
pub record Undamped (p : Problem) (r : Run) (b : Answer) : Type 0 where
  pub taken : le (sub binary64 (scaled_norm p (undamped_step p)) p.radius) (band p.radius) ≡ true
  pub lambda_zero : b.0.lambda ≡ plus_zero
  pub no_trial : b.0.trials ≡ 0
  pub step_is : b.1 ≡ undamped_step p
  pub stopped_by : ending r ≡ inl undamped

-- one to ten trials: lambda is above zero, fewer than ten only for a stop rule
pub record Damped (p : Problem) (r : Run) (b : Answer) : Type 0 where
  pub not_taken : le (sub binary64 (scaled_norm p (undamped_step p)) p.radius) (band p.radius) ≡ false
  pub lambda_above : lt plus_zero b.0.lambda ≡ true
  pub step_is : b.1 ≡ damped_step p b.0.lambda
  pub rule : Stop
  pub stopped_by : ending r ≡ inl rule
  pub counted : Counted 9 b.0.trials rule
  pub by_within : rule ≡ within → is_within p (sub binary64 b.0.dp_norm p.radius) ≡ true

pub record Answered (p : Problem) (r : Run) (b : Answer) : Type 0 where
  pub lambda_finite : is_finite b.0.lambda ≡ true
  pub norm_finite : is_finite b.0.dp_norm ≡ true
  pub norm_is : b.0.dp_norm ≡ scaled_norm p b.1
  pub counts : b.0.trials ≡ trial_count r
  pub by_rule : Undamped p r b ⊎ Damped p r b

module _ (p : Problem) (rf : is_finite p.radius ≡ true) (ra : le p.radius plus_zero ≡ false) (initial : Float) (hi : lt initial plus_zero ≡ false) where
  abbrev before : Answer
  before = answer plus_zero (scaled_norm p (undamped_step p)) 0 (undamped_step p)

  undamped_answer : (b : Answer) → is_finite (scaled_norm p (undamped_step p)) ≡ true → le (undamped_fp p initial) (band p.radius) ≡ true → b ≡ before → Answered p (stopped undamped) b
  unfolding ending trial_count is_finite
  undamped_answer b f w e = rw e (record {
    lambda_finite = refl;
    norm_finite = f;
    norm_is = refl;
    counts = refl;
    by_rule = inl (record { taken = w; lambda_zero = refl; no_trial = refl; step_is = refl; stopped_by = refl });
  })

  by_last : (r : Run) (b : Answer) → le (undamped_fp p initial) (band p.radius) ≡ false → (x : Stop) → ending r ≡ inl x → b.0.trials ≡ trial_count r → Counted 9 b.0.trials x → Last (Good p) x b → Answered p r b
  unfolding ending
  by_last r b w x e n c l =
      let t = l.0 in
      let g = l.1.0 in
      let is = l.1.1 in
      rw is (record {
        lambda_finite = g.lambda_finite;
        norm_finite = g.norm_finite x refl;
        norm_is = g.norm_is;
        counts = n;
        by_rule = inr (record {
          not_taken = w;
          lambda_above = g.lambda_above;
          step_is = g.step_is;
          rule = x;
          stopped_by = e;
          counted = c;
          by_within = λ q. g.by_within (ap stopped q);
        });
      })

  damped_answer : (b : Answer) → le (undamped_fp p initial) (band p.radius) ≡ false → ReadOff (Good p) 0 before (trials_from p 9 (first p initial)) b → Answered p (trials_from p 9 (first p initial)) b
  damped_answer b w h =
      let s = first p initial in
      let n = h.count in
      let c = subst (λ (i : ℕ). Counted 9 i h.stop) (let z : trial_count (trials_from p 9 s) ≡ b.0.trials = omega arith in z) (each_counted p 9 s h.stop h.ends) in
      by_last (trials_from p 9 s) b w h.stop h.ends (omega arith) c (only_last h.of)
    where
      only_last : {x : Stop} → ((trials_from p 9 (first p initial) ≡ stopped x) × (b ≡ before)) ⊎ Last (Good p) x b → Last (Good p) x b
      only_last {x} (inl q) = some_trial p 9 (first p initial) x q.0
      only_last (inr q) = q

  -- LAW
  pub answered_rules : (b : Answer) → answer_of p initial ≡ answered b → Answered p (run_of p initial) b
  unfolding answer_of concluded
  answered_rules b =
      run_cases p initial (λ (r : Run). concluded 0 before r ≡ answered b → Answered p r b) (λ f c. refused-answered c)
      (λ f w c. undamped_answer b f w (sym (answered-same c))) (λ c. refused-answered c) (λ c. refused-answered c)
      (λ f w l c. damped_answer b w (read_off (Good p) 0 before _ b refl (each_good p 9 (first p initial) (first_sound p rf ra initial (undamped_step p) (undamped_fp p initial) hi w l)) c))

-- LAW: a run, answered or not, that begins with a trial stops only where its rule holds
pub rules_hold : (p : Problem) (initial : Float) → le (undamped_fp p initial) (band p.radius) ≡ false → RuledFrom p (undamped_fp p initial) (run_of p initial)
rules_hold p initial w =
    run_cases p initial (RuledFrom p (undamped_fp p initial)) (λ f. tt) (λ f v. absurd (true≢false (sym v ∙ w))) tt tt (λ f v l. each_ruled p 9 (first p initial))
