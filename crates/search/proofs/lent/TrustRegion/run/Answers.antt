use mathlib.Core.Path.{◌≡◌, sym, ap, subst, ◌∙◌}
use lib.Ieee.{of_bits}
use Rattle.leaves.specs.Norm.{norm, either, ranges, ranges_of}
use Rattle.factor.specs.Room.{emptied}
use Rattle.search.specs.Problem.{Problem, placed}
use Rattle.search.specs.Measured.{measured_bounds, measured_trials}
use Rattle.search.specs.Search.{concluded}
use Rattle.search.specs.inner.Read.{unanswered, with_step, damped, Saw}
use Rattle.search.specs.inner.Asked.{asked}
use Rattle.search.proofs.trials.Turning.{same_room, kept_problem, kept_on}
use Rattle.search.proofs.trust_region.Answering.{no_norm, taken, taken_seen, not_taken, not_taken_seen, band_test}
use Rattle.search.proofs.lent.TrustRegion.run.Goals as goal

pub returns-then-not-is_finite : goal.returns-then-not-is_finite
returns-then-not-is_finite c =
    let u = c.undamped-start.ensures in
    record {
      kept = u.kept;
      w_after = no_norm (asked c.args.self.now) c.args.lambda u.w_after (u.value_value ∙ ap norm u.v_after) (sym c.is_finite.ensures ∙ c.if-not-is_finite.true);
      store_unchanged = ap emptied (same_room _ _ u.kept u.store_unchanged);
      saw = tt;
    }

pub returns-then-norm-radius : goal.returns-then-norm-radius
unfolding of_bits
returns-then-norm-radius c =
    let p = asked c.args.self.now in
    let u = c.undamped-start.ensures in
    let nrm = u.value_value ∙ ap norm u.v_after in
    let finite = sym c.is_finite.ensures ∙ c.if-not-is_finite.false in
    let test = band_test _ _ c.band_of.ensures c.if-norm-radius.true in
    record {
      kept = u.kept;
      w_after = taken p c.args.lambda u.w_after nrm finite test;
      store_unchanged = ap emptied (same_room _ _ u.kept u.store_unchanged);
      saw = taken_seen p c.args.lambda u.w_after nrm finite test (u.seen_value ∙ ap ranges u.v_after);
    }

pub returns : goal.returns
returns c =
    let t = c.args.self.now in
    let u = c.undamped-start.ensures in
    let x = c.undamped-start.new.self.w.now in
    let k = c.bounded in
    let nrm = u.value_value ∙ ap norm u.v_after in
    let finite = sym c.is_finite.ensures ∙ c.if-not-is_finite.false in
    let test = band_test _ _ c.band_of.ensures c.if-norm-radius.false in
    let same = kept_problem _ _ u.kept u.store_unchanged in
    let after = subst (λ (p : Problem). with_step k.result (placed p k.new.self.w.now) ≡ concluded 0 unanswered (damped p c.args.lambda (placed p x))) same k.ensures.w_after in
    let seen = subst (λ (p : Problem). Saw k.result (either c.undamped-start.result.seen (either (ranges_of (measured_bounds p (placed p x))) (ranges_of (measured_trials p (damped p c.args.lambda (placed p x))))))) same k.ensures.saw in
    record {
      kept = kept_on u.kept k.ensures.kept;
      w_after = not_taken (asked t) c.args.lambda u.w_after nrm finite test after;
      store_unchanged = k.ensures.store_unchanged ∙ ap emptied (same_room _ _ u.kept u.store_unchanged);
      saw = not_taken_seen (asked t) c.args.lambda u.w_after nrm finite test k.result (u.seen_value ∙ ap ranges u.v_after) seen;
    }
