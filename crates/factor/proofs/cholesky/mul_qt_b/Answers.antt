use mathlib.Core.Path.{sym, ◌∙◌}
use borrow.Author.Rules.{rules}
use Rattle.factor.proofs.Holds.{mul_ready, mul-refused, mul-answered, mul-refused_8}
use Rattle.factor.proofs.cholesky.mul_qt_b.Goals as goal

pub returns-in-Err : goal.returns-in-Err
returns-in-Err c =
    let g = c.args in
    mul-refused g.st g.store.now g.out.now _ c.in-Err.ensures.failed

pub invariant_of-held : goal.invariant_of-held
invariant_of-held c =
    let g = c.args in
    record { sized = (mul_ready g.st g.store.now g.out.now (sym c.in-Ok.ensures.failed)).sized }

pub mul_into-good-requires : goal.mul_into-good-requires
mul_into-good-requires c =
    let g = c.args in
    (mul_ready g.st g.store.now g.out.now (sym c.in-Ok.ensures.failed)).out_long

pub invariant_of-rest_room : goal.invariant_of-rest_room
invariant_of-rest_room c =
    let g = c.args in
    let r = mul_ready g.st g.store.now g.out.now (sym c.in-Ok.ensures.failed) in
    record { some = r.some; sized = r.sized }

pub returns-then-good : goal.returns-then-good
returns-then-good c =
    let g = c.args in
    let e = c.mul_into-good.ensures in
    let l = c.in-Ok.ensures in
    mul-answered g.st g.store.now g.out.now l.value l.failed (sym c.if-good.true ∙ e.value) (search rules ∙ c.rest_room.ensures.cells) (e.out_after c.if-good.true)

pub returns : goal.returns
returns c =
    let g = c.args in
    let e = c.mul_into-good.ensures in
    let l = c.in-Ok.ensures in
    mul-refused_8 g.st g.store.now g.out.now l.value l.failed (sym c.if-good.false ∙ e.value) (search rules ∙ c.rest_room.ensures.cells) (e.out_unchanged c.if-good.false)
