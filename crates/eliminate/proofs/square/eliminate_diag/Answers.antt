use borrow.Author.Rules.{rules}
use lib.ListN.{length}
use Rattle.std.proofs.lemmas.Result.{err_from_is_err_and}
use Rattle.eliminate.proofs.Lent.{fitting, diag_refused, diag_worked}
use Rattle.eliminate.proofs.square.eliminate_diag.Goals as goal

pub returns-in_err-check : goal.returns-in_err-check
returns-in_err-check c =
    let g = c.args in
    let p = err_from_is_err_and c.from_residual.result c.from_residual.ensures.1 in
    rw (p.1, p.2) (diag_refused g.n g.ds.now g.square.now g.rhs.now g.ldiag.now _ c.in_err-check.ensures)

pub invariant_of-elimination : goal.invariant_of-elimination
invariant_of-elimination c =
    let g = c.args in
    let f = fitting g.n (length g.square.now) (length g.ds.now) (length g.rhs.now) (length g.ldiag.now) c.in_ok-check.ensures in
    record { square = record { small = f.sizes.few; whole = f.cells }; rhs_len = f.right }

pub eliminate-requires : goal.eliminate-requires
eliminate-requires c =
    let g = c.args in
    let f = fitting g.n (length g.square.now) (length g.ds.now) (length g.rhs.now) (length g.ldiag.now) c.in_ok-check.ensures in
    (f.scales, f.diagonal)

pub returns-then-n-eq1 : goal.returns-then-n-eq1
returns-then-n-eq1 c =
    let g = c.args in
    let e = c.eliminate in
    let r = e.new.self in
    diag_worked g.n g.ds.now g.square.now g.rhs.now g.ldiag.now r e.new.ldiag c.in_ok-check.ensures e.ensures.kept.size e.ensures.eliminated (search rules) (search rules)

pub invariant_of-elimination-2 : goal.invariant_of-elimination-2
invariant_of-elimination-2 c =
    let g = c.args in
    let f = fitting g.n (length g.square.now) (length g.ds.now) (length g.rhs.now) (length g.ldiag.now) c.in_ok-check.ensures in
    record { square = record { small = f.sizes.few; whole = f.cells }; rhs_len = f.right }

pub eliminate-requires-2 : goal.eliminate-requires-2
eliminate-requires-2 c =
    let g = c.args in
    let f = fitting g.n (length g.square.now) (length g.ds.now) (length g.rhs.now) (length g.ldiag.now) c.in_ok-check.ensures in
    (f.scales, f.diagonal)

pub returns : goal.returns
returns c =
    let g = c.args in
    let e = c.eliminate-2 in
    let r = e.new.self in
    diag_worked g.n g.ds.now g.square.now g.rhs.now g.ldiag.now r e.new.ldiag c.in_ok-check.ensures e.ensures.kept.size e.ensures.eliminated (search rules) (search rules)
