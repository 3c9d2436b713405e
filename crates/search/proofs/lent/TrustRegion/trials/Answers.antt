use Prim.Native.Nat.{ℕ, suc, ◌+◌, ◌-◌, ◌≤◌}
use mathlib.Core.Path.{◌≡◌, refl, sym, ap, ◌∙◌}
use mathlib.Core.List.{List, [], ◌∷◌}
use native.Mathlib.Numerals.{add-one}
use native.Mathlib.Omega.{arith}
use lib.Ieee.{Float}
use Rattle.leaves.specs.Norm.{norm, either, ranges, ranges_of}
use Rattle.leaves.specs.declared.norm.Normed.{Normed}
use Rattle.leaves.specs.declared.norm.Ranges.{Ranges}
use Rattle.factor.specs.Room.{emptied}
use Rattle.search.specs.Bounds.{raised}
use Rattle.search.specs.Problem.{Problem, placed, scaled_step, damped_step}
use Rattle.search.specs.Run.{Run}
use Rattle.search.specs.Measured.{measured_trials}
use Rattle.search.specs.declared.bounds.Going.{Going}
use Rattle.search.specs.declared.lent.TrustRegion.{TrustRegion}
use Rattle.search.specs.inner.Read.{unanswered, next_of, bare}
use Rattle.search.specs.inner.Asked.{asked, room, Kept}
use Rattle.search.proofs.Trying.{Tried, at_lambda, at_norm, at_ten, at_within, at_falling, at_correction, goes_on, again, next_same, mine, told}
use Rattle.search.proofs.Seeing.{seen_last, seen_again}
use Rattle.search.proofs.trials.Turning.{same_room, kept_on, step_asked, scaled-asked, damped-kept, correction-asked}
use Rattle.search.proofs.lent.TrustRegion.trials.Goals as goal

-- what the solve of a turn left, of the problem that the search was asked
record Solved (p : Problem) (s : Going) (i : ℕ) (lambda : Float) (step v : List Float) (m : Normed) : Type 0 where
  scaled : v ≡ scaled_step p step
  tried : Tried p (next_of s) i unanswered lambda step m.value
  seen : m.seen ≡ ranges (scaled_step p step)

solved : (t₀ t t' : TrustRegion) → Kept t₀ t → emptied (room t) ≡ emptied (room t₀) → Kept t t' → (s : Going) (i : ℕ) (lambda : Float) (m : Normed) → lambda ≡ raised s.lambda s.upper
    → m.value ≡ norm t'.v.now → t'.v.now ≡ scaled_step (asked t) (placed (asked t) t'.w.now) → placed (asked t) t'.w.now ≡ damped_step (asked t) lambda → m.seen ≡ ranges t'.v.now
    → Solved (asked t₀) s i lambda (placed (asked t₀) t'.w.now) t'.v.now m
solved t₀ t t' k same k' s i lambda m raised value scaled step seen =
    let z = scaled-asked t₀ t t' k same k' lambda scaled in
    record {
      scaled = z;
      tried = record { lambda_is = raised; step_is = step_asked t₀ t t' k same k' lambda step; norm_is = value ∙ ap norm z };
      seen = seen ∙ ap ranges z;
    }

-- where it stops: what is seen is all that was to be seen
all₂ : (p : Problem) (step : List Float) (before told : Ranges) {mine all : Ranges} → told ≡ either before mine → mine ≡ ranges (scaled_step p step)
    → (r : Run) → measured_trials p r ≡ scaled_step p step ∷ [] → either before (ranges_of (measured_trials p r)) ≡ all → told ≡ all
all₂ p step before told e s r m h = e ∙ seen_last before _ _ s m h

pub turns-preserved : goal.turns-preserved
turns-preserved c =
    let p = asked c.args.self.now in
    let i = c.turns.invariant in
    let d = c.damped-d.ensures in
    let y = solved _ _ _ i.kept i.room d.kept c.turns.s c.turns.t _ c.damped-d.result c.raised_of-lambda.ensures d.value_value d.v_after d.w_after d.seen_value in
    let f₁ = sym c.is_finite.ensures ∙ c.if-not-is_finite.false in
    let f₂ = sym c.is_finite-in-turns.ensures ∙ c.if-not-is_finite-2.false in
    let k = c.correction-c.ensures in
    let fewer : c.turns.t + 1 ≤ 9 = omega (arith, i.few, c.if-t-eq10.false) in
    let n : 9 - c.turns.t ≡ suc (9 - (c.turns.t + 1)) = omega (arith, i.few, c.if-t-eq10.false) in
    let q = correction-asked _ _ _ i.kept i.room d.kept _ d.store_after _ _ _ d.value_value y.scaled k.value_value k.seen_value in
    let on = goes_on p (next_of c.turns.s) c.turns.t unanswered y.tried f₁ f₂ (9 - (c.turns.t + 1)) refl (sym c.is_within.ensures ∙ c.if-is_within.false) (sym c.is_falling.ensures ∙ c.if-is_falling.false) q.0 (sym c.is_finite-in-turns-2.ensures ∙ c.if-not-is_finite-3.false) in
    let mine₁ = mine p (next_of c.turns.s) c.turns.t unanswered c.raised_of-lambda.result (placed p c.damped-d.new.self.w.now) c.damped-d.result.value in
    let next-is = next_same mine₁ (bare c.turns.s c.raised_of-lambda.result) _ _ refl refl refl in
    record {
      few = fewer;
      kept = kept_on i.kept (kept_on d.kept k.kept.kept);
      room = ap emptied (same_room _ _ k.kept.kept k.kept.store) ∙ damped-kept _ _ _ i.kept i.room d.kept _ d.store_after;
      same = again p c.turns.t (9 - (c.turns.t + 1)) (next_of c.turns.s) _ mine₁ (bare c.turns.s c.raised_of-lambda.result) _ _ (told p (next_of c.turns.s) c.turns.t unanswered c.raised_of-lambda.result (placed p c.damped-d.new.self.w.now) c.damped-d.result.value) unanswered (rw n at i.same) on.0 next-is c.next_of-s.ensures.result_value;
      seen = seen_again p (9 - (c.turns.t + 1)) (next_of c.turns.s) _ mine₁ (bare c.turns.s c.raised_of-lambda.result) _ _ c.turns.s.seen _ _ c.either-seen.ensures c.next_of-s.ensures.seen_value y.seen q.1 on.1 next-is c.next_of-s.ensures.result_value (rw n at i.seen);
    }

pub returns-then-not-is_finite-clause-w_after : goal.returns-then-not-is_finite-clause-w_after
returns-then-not-is_finite-clause-w_after c =
    sym (at_lambda (asked c.args.self.now) (next_of c.turns.s) c.turns.t unanswered (9 - c.turns.t) c.raised_of-lambda.ensures (sym c.is_finite.ensures ∙ c.if-not-is_finite.true)) ∙ c.turns.invariant.same

pub returns-then-not-is_finite-2-clause-w_after : goal.returns-then-not-is_finite-2-clause-w_after
returns-then-not-is_finite-2-clause-w_after c =
    let p = asked c.args.self.now in
    let i = c.turns.invariant in
    let d = c.damped-d.ensures in
    let y = solved _ _ _ i.kept i.room d.kept c.turns.s c.turns.t _ c.damped-d.result c.raised_of-lambda.ensures d.value_value d.v_after d.w_after d.seen_value in
    let f₁ = sym c.is_finite.ensures ∙ c.if-not-is_finite.false in
    sym (at_norm p (next_of c.turns.s) c.turns.t unanswered y.tried f₁ (9 - c.turns.t) (sym c.is_finite-in-turns.ensures ∙ c.if-not-is_finite-2.true)) ∙ i.same

pub returns-then-not-is_finite-2-clause-store_unchanged : goal.returns-then-not-is_finite-2-clause-store_unchanged
returns-then-not-is_finite-2-clause-store_unchanged c = let i = c.turns.invariant in let d = c.damped-d.ensures in damped-kept _ _ _ i.kept i.room d.kept _ d.store_after

pub returns-then-t-eq10 : goal.returns-then-t-eq10
returns-then-t-eq10 c =
    let p = asked c.args.self.now in
    let i = c.turns.invariant in
    let d = c.damped-d.ensures in
    let y = solved _ _ _ i.kept i.room d.kept c.turns.s c.turns.t _ c.damped-d.result c.raised_of-lambda.ensures d.value_value d.v_after d.w_after d.seen_value in
    let f₁ = sym c.is_finite.ensures ∙ c.if-not-is_finite.false in
    let f₂ = sym c.is_finite-in-turns.ensures ∙ c.if-not-is_finite-2.false in
    let n : 9 - c.turns.t ≡ 0 = omega (arith, i.few, c.if-t-eq10.true) in
    let x = at_ten p (next_of c.turns.s) c.turns.t unanswered y.tried f₁ f₂ in
    record {
      kept = kept_on i.kept d.kept;
      w_after = rw (c.told-answer.ensures, add-one) (sym x.0 ∙ (rw n at i.same));
      store_unchanged = damped-kept _ _ _ i.kept i.room d.kept _ d.store_after;
      saw = rw c.told-answer.ensures (all₂ p (placed p c.damped-d.new.self.w.now) c.turns.s.seen _ c.either-seen.ensures y.seen _ x.1 (rw n at i.seen));
    }

pub returns-then-is_within : goal.returns-then-is_within
returns-then-is_within c =
    let p = asked c.args.self.now in
    let i = c.turns.invariant in
    let d = c.damped-d.ensures in
    let y = solved _ _ _ i.kept i.room d.kept c.turns.s c.turns.t _ c.damped-d.result c.raised_of-lambda.ensures d.value_value d.v_after d.w_after d.seen_value in
    let f₁ = sym c.is_finite.ensures ∙ c.if-not-is_finite.false in
    let f₂ = sym c.is_finite-in-turns.ensures ∙ c.if-not-is_finite-2.false in
    let n : 9 - c.turns.t ≡ suc (9 - (c.turns.t + 1)) = omega (arith, i.few, c.if-t-eq10.false) in
    let x = at_within p (next_of c.turns.s) c.turns.t unanswered y.tried f₁ f₂ (9 - (c.turns.t + 1)) refl (sym c.is_within.ensures ∙ c.if-is_within.true) in
    record {
      kept = kept_on i.kept d.kept;
      w_after = rw (c.told-answer-then-is_within.ensures, add-one) (sym x.0 ∙ (rw n at i.same));
      store_unchanged = damped-kept _ _ _ i.kept i.room d.kept _ d.store_after;
      saw = rw c.told-answer-then-is_within.ensures (all₂ p (placed p c.damped-d.new.self.w.now) c.turns.s.seen _ c.either-seen.ensures y.seen _ x.1 (rw n at i.seen));
    }

pub returns-then-is_falling : goal.returns-then-is_falling
returns-then-is_falling c =
    let p = asked c.args.self.now in
    let i = c.turns.invariant in
    let d = c.damped-d.ensures in
    let y = solved _ _ _ i.kept i.room d.kept c.turns.s c.turns.t _ c.damped-d.result c.raised_of-lambda.ensures d.value_value d.v_after d.w_after d.seen_value in
    let f₁ = sym c.is_finite.ensures ∙ c.if-not-is_finite.false in
    let f₂ = sym c.is_finite-in-turns.ensures ∙ c.if-not-is_finite-2.false in
    let n : 9 - c.turns.t ≡ suc (9 - (c.turns.t + 1)) = omega (arith, i.few, c.if-t-eq10.false) in
    let x = at_falling p (next_of c.turns.s) c.turns.t unanswered y.tried f₁ f₂ (9 - (c.turns.t + 1)) refl (sym c.is_within.ensures ∙ c.if-is_within.false) (sym c.is_falling.ensures ∙ c.if-is_falling.true) in
    record {
      kept = kept_on i.kept d.kept;
      w_after = rw (c.told-answer-then-is_falling.ensures, add-one) (sym x.0 ∙ (rw n at i.same));
      store_unchanged = damped-kept _ _ _ i.kept i.room d.kept _ d.store_after;
      saw = rw c.told-answer-then-is_falling.ensures (all₂ p (placed p c.damped-d.new.self.w.now) c.turns.s.seen _ c.either-seen.ensures y.seen _ x.1 (rw n at i.seen));
    }

pub returns-then-not-is_finite-3-clause-w_after : goal.returns-then-not-is_finite-3-clause-w_after
returns-then-not-is_finite-3-clause-w_after c =
    let p = asked c.args.self.now in
    let i = c.turns.invariant in
    let d = c.damped-d.ensures in
    let y = solved _ _ _ i.kept i.room d.kept c.turns.s c.turns.t _ c.damped-d.result c.raised_of-lambda.ensures d.value_value d.v_after d.w_after d.seen_value in
    let f₁ = sym c.is_finite.ensures ∙ c.if-not-is_finite.false in
    let f₂ = sym c.is_finite-in-turns.ensures ∙ c.if-not-is_finite-2.false in
    let k = c.correction-c.ensures in
    let n : 9 - c.turns.t ≡ suc (9 - (c.turns.t + 1)) = omega (arith, i.few, c.if-t-eq10.false) in
    let q = correction-asked _ _ _ i.kept i.room d.kept _ d.store_after _ _ _ d.value_value y.scaled k.value_value k.seen_value in
    sym (at_correction p (next_of c.turns.s) c.turns.t unanswered y.tried f₁ f₂ (9 - (c.turns.t + 1)) refl (sym c.is_within.ensures ∙ c.if-is_within.false) (sym c.is_falling.ensures ∙ c.if-is_falling.false) q.0 (sym c.is_finite-in-turns-2.ensures ∙ c.if-not-is_finite-3.true)) ∙ (rw n at i.same)

pub returns-then-not-is_finite-3-clause-store_unchanged : goal.returns-then-not-is_finite-3-clause-store_unchanged
returns-then-not-is_finite-3-clause-store_unchanged c =
    let i = c.turns.invariant in
    let d = c.damped-d.ensures in
    let k = c.correction-c.ensures.kept in
    ap emptied (same_room _ _ k.kept k.store) ∙ damped-kept _ _ _ i.kept i.room d.kept _ d.store_after
