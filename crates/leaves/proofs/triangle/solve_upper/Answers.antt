use native.Mathlib.Omega.{arith}
use borrow.Author.Rules.{rules}
use Rattle.leaves.proofs.Folds.{nonzero}
use Rattle.leaves.proofs.Triangles.{narrow, short, few, solved, empty-solved, few_by, enough_by}
use Rattle.leaves.proofs.triangle.solve_upper.Goals as goal

pub returns-then-apart-n : goal.returns-then-apart-n
returns-then-apart-n c = narrow _ _ _ _ c.if-apart-n.true

pub returns-then-x-n : goal.returns-then-x-n
returns-then-x-n c = short _ _ _ _ c.if-apart-n.false c.if-x-n.true

pub returns-then-n-eq0 : goal.returns-then-n-eq0
returns-then-n-eq0 c = empty-solved _ _ _ _ c.if-n-eq0.true

pub nonzero_div-r : goal.nonzero_div-r
nonzero_div-r c = let p = nonzero _ c.if-n-eq0.false in search rules

pub returns-then-r-apart : goal.returns-then-r-apart
returns-then-r-apart c =
    let p = nonzero _ c.if-n-eq0.false in
    few _ _ _ _ c.if-apart-n.false c.if-x-n.false (few_by _ _ _ (omega arith) c.if-r-apart.true)

pub solve_down-requires : goal.solve_down-requires
solve_down-requires c =
    let p = nonzero _ c.if-n-eq0.false in
    record { n_le_apart = c.if-apart-n.false; apart_in_bounds = enough_by _ _ _ (omega arith) c.if-r-apart.false; n_in_bounds = c.if-x-n.false }

pub returns : goal.returns
returns c =
    let p = nonzero _ c.if-n-eq0.false in
    solved _ _ _ _ _ c.if-apart-n.false c.if-x-n.false (enough_by _ _ _ (omega arith) c.if-r-apart.false) c.solve_down.ensures
