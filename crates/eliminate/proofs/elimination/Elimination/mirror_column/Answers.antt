use mathlib.Core.Path.{refl}
use native.Mathlib.Omega.{arith}
use Rattle.eliminate.proofs.Keeping.{kept_as}
use Rattle.eliminate.proofs.eliminate.Mirroring.{column_start, column_turn, column_done}
use Rattle.eliminate.proofs.elimination.Elimination.mirror_column.Goals as goal

pub loop-i-init : goal.loop-i-init
loop-i-init c = (kept_as c.args.self.now, refl, column_start _ _ c.args.self.now.square _ c.requires)

pub loop-i-preserved : goal.loop-i-preserved
loop-i-preserved c =
    let l = c.loop-i in
    let g = c.args in
    let r = g.self.now in
    let k = l.invariant.0 in (
      record { size = k.size; square = k.square; right = k.right },
      l.invariant.1,
      rw (c.cell_at-q.ensures.value, c.cell_at-p.ensures.value, k.size)
          (column_turn r.n r.upper_r.now r.square g.k c.requires l.self.upper_r.now l.i (rw k.size at l.self.square) (omega arith) (omega (arith, k.size)) l.invariant.2),
    )

pub returns-clause-mirrored : goal.returns-clause-mirrored
returns-clause-mirrored c =
    let l = c.loop-i in
    let r = c.args.self.now in
    column_done r.n r.upper_r.now r.square c.args.k c.requires l.self.upper_r.now l.i c.loop-i-test.false l.invariant.2
