use mathlib.Core.Path.{◌∙◌}
use Rattle.eliminate.proofs.Keeping.{kept_on}
use Rattle.eliminate.proofs.eliminate.Mirroring.{all_turn, all_done}
use Rattle.eliminate.proofs.elimination.Elimination.mirror.Goals as goal

pub loop-k-preserved : goal.loop-k-preserved
loop-k-preserved c =
    let l = c.loop-k in
    let r = c.args.self.now in
    let m = c.mirror_column in
    let k = l.invariant.0 in (
      kept_on k m.ensures.kept,
      m.ensures.rhs_same ∙ l.invariant.1,
      all_turn r.n l.k r.upper_r.now l.self.upper_r.now m.new.self.upper_r.now c.loop-k-test.true l.invariant.2 (rw k.size at m.ensures.mirrored),
    )

pub returns-clause-mirrored : goal.returns-clause-mirrored
returns-clause-mirrored c =
    let l = c.loop-k in
    let r = c.args.self.now in
    all_done r.n l.k r.upper_r.now l.self.upper_r.now c.loop-k-test.false l.invariant.2
