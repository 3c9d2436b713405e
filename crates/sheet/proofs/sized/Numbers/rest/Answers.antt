use Prim.Native.Nat.{◌+◌, ◌*◌}
use native.Mathlib.Omega.{arith}
use mathlib.Core.Path.{ap, ◌∙◌}
use borrow.Author.Rules.{part_to_end}
use Rattle.sheet.specs.Sheet.{task_of}
use Rattle.sheet.proofs.Testing.{rest_in_lem, whole, rest_long, task_is}
use Rattle.sheet.proofs.sized.Numbers.rest.Goals as goal

pub overflow_mul-a : goal.overflow_mul-a
overflow_mul-a c = omega (arith, rest_in_lem c.args.self.now.of.head c.args.self.now.xs.now c.args.self.now.xs_len c.args.self.now.of.sizes)

pub overflow_add-a : goal.overflow_add-a
overflow_add-a c = omega (arith, rest_in_lem c.args.self.now.of.head c.args.self.now.xs.now c.args.self.now.xs_len c.args.self.now.of.sizes)

pub offset_bounds-xs-a : goal.offset_bounds-xs-a
offset_bounds-xs-a c = omega (arith, rest_in_lem c.args.self.now.of.head c.args.self.now.xs.now c.args.self.now.xs_len c.args.self.now.of.sizes)

pub slice_bounds-result-count : goal.slice_bounds-result-count
slice_bounds-result-count c = omega (arith, whole c.args.self.now.of.head c.args.self.now.xs.now c.args.self.now.xs_len c.args.self.now.of.sizes)

pub slice_bounds-result-start : goal.slice_bounds-result-start
slice_bounds-result-start c = omega (arith, whole c.args.self.now.of.head c.args.self.now.xs.now c.args.self.now.xs_len c.args.self.now.of.sizes)

pub invariant_of-result : goal.invariant_of-result
invariant_of-result c = record { xs_len = rw (part_to_end c.args.self.now.xs.now) (rest_long c.args.self.now.of.head c.args.self.now.xs.now c.args.self.now.xs_len c.args.self.now.of.sizes) }

pub returns : goal.returns
returns c =
    let h = c.args.self.now.of.head in
    let xs = c.args.self.now.xs.now in
    ap (λ l. task_of h.call h.n l) (part_to_end xs (h.m * h.n + h.m)) ∙ task_is h xs c.args.self.now.xs_len c.args.self.now.of.sizes
