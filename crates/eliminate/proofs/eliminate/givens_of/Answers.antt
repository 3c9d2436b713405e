use mathlib.Core.Path.{◌≡◌}
use native.Mathlib.Omega.{arith}
use Prim.Native.Nat.{ℕ}
use Rattle.eliminate.proofs.Rotations.{by_cot_lem, by_tan_lem}
use Rattle.eliminate.proofs.eliminate.givens_of.Goals as goal
use Rattle.eliminate.proofs.eliminate.givens_of.Goals.{then-cot, else-cot}

pub returns-then-cot-2 : goal.returns-then-cot-2
returns-then-cot-2 c =
    let g = c.args in
    elim c.if-cot.branch [
      | then-cot w ↦ by_cot_lem g.r g.l _ _ c.abs.ensures c.abs_below-cot.ensures c.lesser_of-c.ensures c.if-cot-2.true w.t-is
      | else-cot w ↦ let f = w.if-cot.false in let t = c.if-cot-2.true in let z : ◌≡◌ {A = ℕ} 0 1 = cc in absurd (omega arith)
    ]

pub returns-else-cot-2 : goal.returns-else-cot-2
returns-else-cot-2 c =
    let g = c.args in
    elim c.if-cot.branch [
      | then-cot w ↦ let f = w.if-cot.true in let t = c.if-cot-2.false in let z : ◌≡◌ {A = ℕ} 0 1 = cc in absurd (omega arith)
      | else-cot w ↦ by_tan_lem g.r g.l _ _ c.abs.ensures c.abs_below-cot.ensures c.lesser_of-c.ensures c.if-cot-2.false w.t-is
    ]
