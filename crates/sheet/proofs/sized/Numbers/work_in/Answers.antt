use Rattle.std.proofs.lemmas.Result.{err_from_is_err_and}
use native.Mathlib.Omega.{arith}
use mathlib.Core.Path.{sym}
use Rattle.sheet.proofs.Testing.{rest_in_lem, whole}
use Rattle.sheet.proofs.job.Jobs.{work_on, work-refused}
use lib.Seq.{length-take-le}
use Rattle.sheet.proofs.sized.Numbers.work_in.Goals as goal

pub overflow_mul-a : goal.overflow_mul-a
overflow_mul-a c = omega (arith, rest_in_lem c.args.self.now.of.head c.args.self.now.xs.now c.args.self.now.xs_len c.args.self.now.of.sizes, whole c.args.self.now.of.head c.args.self.now.xs.now c.args.self.now.xs_len c.args.self.now.of.sizes)

pub overflow_add-a : goal.overflow_add-a
overflow_add-a c = omega (arith, rest_in_lem c.args.self.now.of.head c.args.self.now.xs.now c.args.self.now.xs_len c.args.self.now.of.sizes)

pub slice_bounds-pivoted_qr-end : goal.slice_bounds-pivoted_qr-end
slice_bounds-pivoted_qr-end c = sym (length-take-le _ c.args.self.now.xs.now (omega (arith, whole c.args.self.now.of.head c.args.self.now.xs.now c.args.self.now.xs_len c.args.self.now.of.sizes)))

pub offset_bounds-xs-a : goal.offset_bounds-xs-a
offset_bounds-xs-a c = omega (arith, rest_in_lem c.args.self.now.of.head c.args.self.now.xs.now c.args.self.now.xs_len c.args.self.now.of.sizes, whole c.args.self.now.of.head c.args.self.now.xs.now c.args.self.now.xs_len c.args.self.now.of.sizes)

pub slice_bounds-pivoted_qr-end-2 : goal.slice_bounds-pivoted_qr-end-2
slice_bounds-pivoted_qr-end-2 c = omega (arith, rest_in_lem c.args.self.now.of.head c.args.self.now.xs.now c.args.self.now.xs_len c.args.self.now.of.sizes, whole c.args.self.now.of.head c.args.self.now.xs.now c.args.self.now.xs_len c.args.self.now.of.sizes)

pub returns-in_err-f : goal.returns-in_err-f
returns-in_err-f c =
    let g = c.args in
    let p = err_from_is_err_and c.from_residual.result c.from_residual.ensures.1 in
    rw (p.1, p.2) (work-refused g.self.now.of.head g.self.now.xs.now g.store.now g.order.now g.bench.now g.step.now c.pivoted_qr-f.ensures c.in_err-f.was)

pub returns : goal.returns
returns c =
    let g = c.args in
    work_on g.self.now.of.head g.self.now.xs.now g.store.now g.order.now g.bench.now g.step.now c.pivoted_qr-f.ensures c.in_ok-f.was c.rest-rest.ensures c.work.ensures
