use mathlib.Core.Path.{sym, ap, ◌∙◌}
use lib.Ieee.{Float, binary64, sub}
use Rattle.leaves.specs.Norm.{norm, ranges}
use Rattle.factor.specs.Room.{emptied}
use Rattle.search.specs.Problem.{Problem, placed}
use Rattle.search.specs.Bounds.{lower_bound_of, gnorm}
use Rattle.search.specs.Measured.{gradient_by}
use Rattle.search.specs.Search.{concluded}
use Rattle.search.specs.inner.Read.{unanswered}
use Rattle.search.specs.inner.Asked.{asked}
use Rattle.search.proofs.Seeing.{saw_same}
use Rattle.search.proofs.trials.Turning.{same_room, kept_problem, kept_on}
use Rattle.search.proofs.trials.Bounding.{lower-asked, no_lower_lem, no_gnorm, to_trials, first_is, asked-trials, trials_same, lower-seen, seen_first, seen_same}
use Rattle.search.proofs.lent.TrustRegion.bounded.Goals as goal

pub returns-then-not-is_finite-clause-w_after : goal.returns-then-not-is_finite-clause-w_after
returns-then-not-is_finite-clause-w_after c =
    let t = c.args.self.now in
    let step = placed (asked t) t.w.now in
    let r = c.requires.value_value in
    let l = lower-asked t _ _ step r.0 r.1 c.lower_bound-low.ensures.value_value ∙ ap (λ (x : Float). lower_bound_of (asked t) step (sub binary64 x t.radius)) (r.0 ∙ ap norm r.1) in
    no_lower_lem (asked t) c.args.lambda step unanswered l (sym c.is_finite.ensures ∙ c.if-not-is_finite.true)

pub returns-then-not-is_finite-2-clause-w_after : goal.returns-then-not-is_finite-2-clause-w_after
returns-then-not-is_finite-2-clause-w_after c =
    let t = c.args.self.now in
    let step = placed (asked t) t.w.now in
    let r = c.requires.value_value in
    let low = c.lower_bound-low.ensures in
    let l = lower-asked t _ _ step r.0 r.1 low.value_value ∙ ap (λ (x : Float). lower_bound_of (asked t) step (sub binary64 x t.radius)) (r.0 ∙ ap norm r.1) in
    let q = c.gradient_norm-g.ensures.value_value ∙ ap gnorm (kept_problem _ _ low.kept.kept low.kept.store) in
    no_gnorm (asked t) c.args.lambda step unanswered l (sym c.is_finite.ensures ∙ c.if-not-is_finite.false) q (sym c.is_finite-2.ensures ∙ c.if-not-is_finite-2.true)

pub returns : goal.returns
returns c =
    let t = c.args.self.now in
    let step = placed (asked t) t.w.now in
    let r = c.requires.value_value in
    let low = c.lower_bound-low.ensures in
    let g = c.gradient_norm-g.ensures in
    let nrm = r.0 ∙ ap norm r.1 in
    let l = lower-asked t _ _ step r.0 r.1 low.value_value ∙ ap (λ (x : Float). lower_bound_of (asked t) step (sub binary64 x t.radius)) nrm in
    let e = kept_problem _ _ low.kept.kept low.kept.store in
    let q = g.value_value ∙ ap gnorm e in
    let f = first_is (asked t) c.args.lambda step unanswered nrm l q c.upper_bound-upper.ensures c.first_lambda.ensures in
    let whole = to_trials (asked t) c.args.lambda step unanswered l (sym c.is_finite.ensures ∙ c.if-not-is_finite.false) q (sym c.is_finite-2.ensures ∙ c.if-not-is_finite-2.false) in
    let same = asked-trials (asked t) _ _ _ f whole in
    let on = kept_problem _ _ g.kept.kept g.kept.store ∙ e in
    let k = c.trials.ensures in
    let by = g.seen_value ∙ ap (λ (p : Problem). ranges (gradient_by p)) e in
    let all = seen_first (asked t) step c.args.start.seen _ _ c.either-seen.ensures c.either.ensures (lower-seen t _ step r.0 r.1 low.seen_value) by same in
    record {
      kept = kept_on low.kept.kept (kept_on g.kept.kept k.kept);
      w_after = trials_same on _ _ _ k.w_after ∙ ap (concluded 0 unanswered) same;
      store_unchanged = k.store_unchanged ∙ ap emptied (same_room _ _ g.kept.kept g.kept.store ∙ same_room _ _ low.kept.kept low.kept.store);
      saw = saw_same c.trials.result k.saw (seen_same on _ _ ∙ all);
    }
