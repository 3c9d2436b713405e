use native.Mathlib.Omega.{arith}
use mathlib.Core.Path.{sym}
use Rattle.sheet.proofs.Testing.{search_ends, start_ends}
use Rattle.sheet.proofs.job.Jobs.{as_search, as_start}
use lib.Seq.{length-take-le}
use Rattle.sheet.proofs.sized.Rest.work.Goals as goal

pub bounds-rest-n : goal.bounds-rest-n
bounds-rest-n c = omega (arith, search_ends c.args.self.now.call c.args.self.now.n c.args.self.now.xs.now c.args.self.now.xs_len c.if-self-eq1.true)

pub bounds-rest-n-then-self-eq1 : goal.bounds-rest-n-then-self-eq1
bounds-rest-n-then-self-eq1 c = omega (arith, search_ends c.args.self.now.call c.args.self.now.n c.args.self.now.xs.now c.args.self.now.xs_len c.if-self-eq1.true)

pub slice_bounds-search-end : goal.slice_bounds-search-end
slice_bounds-search-end c = sym (length-take-le c.args.self.now.n c.args.self.now.xs.now (omega (arith, search_ends c.args.self.now.call c.args.self.now.n c.args.self.now.xs.now c.args.self.now.xs_len c.if-self-eq1.true)))

pub returns-then-self-eq1 : goal.returns-then-self-eq1
returns-then-self-eq1 c =
    let g = c.args in
    as_search g.self.now.call g.self.now.n g.self.now.xs.now g.st g.order.now g.store.now g.step.now c.if-self-eq1.true c.search.ensures

pub bounds-rest-n-2 : goal.bounds-rest-n-2
bounds-rest-n-2 c = omega (arith, start_ends c.args.self.now.call c.args.self.now.n c.args.self.now.xs.now c.args.self.now.xs_len c.if-self-eq1.false)

pub slice_bounds-start-end : goal.slice_bounds-start-end
slice_bounds-start-end c = sym (length-take-le c.args.self.now.n c.args.self.now.xs.now (omega (arith, start_ends c.args.self.now.call c.args.self.now.n c.args.self.now.xs.now c.args.self.now.xs_len c.if-self-eq1.false)))

pub returns : goal.returns
returns c =
    let g = c.args in
    as_start g.self.now.call g.self.now.n g.self.now.xs.now g.st g.order.now g.store.now g.step.now c.if-self-eq1.false c.start.ensures
