use mathlib.Core.Path.{sym, ap, ◌∙◌}
use Rattle.factor.specs.Room.{lay}
use Rattle.factor.specs.declared.state.State.{State}
use Rattle.search.specs.Problem.{placed}
use Rattle.search.specs.inner.Asked.{asked}
use Rattle.search.proofs.Calling.{placed_long, step_placed, step_written}
use Rattle.search.proofs.lent.TrustRegion.run_into.Goals as goal

pub returns-then-is_ok-clause-ended : goal.returns-then-is_ok-clause-ended
returns-then-is_ok-clause-ended c =
    let t = c.args.self.now in
    let r = c.run-found in
    let m = c.empty in
    let w = r.new.self.w.now in
    let l = r.new.self.w_len ∙ ap (λ (st : State). st.n) r.ensures.kept.st in
    step_written t.st _ c.args.out.now r.result (placed (asked t) w) _ (sym c.is_ok.ensures.value ∙ c.if-is_ok.true) r.ensures.w_after r.ensures.saw (m.ensures.store_after ∙ ap lay r.ensures.store_unchanged)
    (step_placed t w l _ _ c.args.out.now (m.ensures.kept.order ∙ r.ensures.kept.order) m.ensures.w_unchanged c.requires.out_len c.place.ensures) (placed_long t w l ∙ sym c.requires.out_len)
