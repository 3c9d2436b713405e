use mathlib.Core.Path.{sym, ap, ◌∙◌}
use mathlib.Core.List.{List}
use Prim.Native.Nat.{ℕ}
use lib.Ieee.{Float}
use Rattle.leaves.specs.Reply.{answered, refused}
use Rattle.leaves.proofs.Refusals.{call-worked}
use Rattle.factor.specs.Outcome.{read}
use Rattle.factor.specs.Parts.{rest_in}
use borrow.Author.Rules.{rules}
use Rattle.factor.proofs.Lends.{cols_some, store_sized}
use Rattle.factor.proofs.Answers.{handed_on, refused_by}
use Rattle.factor.proofs.parts.rest.Goals as goal

pub returns-in_err-sizes : goal.returns-in_err-sizes
unfolding rest_in
returns-in_err-sizes c =
    let g = c.args in
    rw (handed_on _ _ c.from_residual.ensures.1) (refused_by _ (λ (k : ℕ). read (refused k) g.store.now) _ _ c.in_err-sizes.ensures)

pub invariant_of-rest_room : goal.invariant_of-rest_room
invariant_of-rest_room c =
    let g = c.args in
    let e = c.in_ok-sizes.ensures in
    record { some = cols_some 1 g.n g.store.now g.n e; sized = store_sized 1 g.n g.store.now g.n e }

pub returns : goal.returns
unfolding rest_in
returns c =
    let g = c.args in
    ap (λ (s : List Float). read (answered tt) s) (search rules ∙ c.rest_room.ensures.cells)
    ∙ call-worked _ (λ (k : ℕ). read (refused k) g.store.now) _ (sym c.in_ok-sizes.ensures)
