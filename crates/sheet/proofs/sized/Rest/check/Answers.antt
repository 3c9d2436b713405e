use native.Mathlib.Omega.{arith}
use Rattle.leaves.proofs.Refusals.{test_met, past, none_left}
use mathlib.Core.Path.{sym, ap, ◌∙◌}
use lib.Ieee.{of_bits}
use Rattle.sheet.proofs.Testing.{search-task, start-task, search_ends, start_ends}
use Rattle.sheet.specs.Sheet.{Task}
use Rattle.sheet.specs.Tests.{task_tests}
use Rattle.leaves.specs.Tests.{first_of}
use Rattle.sheet.proofs.sized.Rest.check.Goals as goal

pub bounds-rest-n : goal.bounds-rest-n
bounds-rest-n c = omega (arith, search_ends c.args.self.now.call c.args.self.now.n c.args.self.now.xs.now c.args.self.now.xs_len c.if-self-eq1.true)

pub bounds-rest-n-then-self-eq1 : goal.bounds-rest-n-then-self-eq1
bounds-rest-n-then-self-eq1 c = omega (arith, search_ends c.args.self.now.call c.args.self.now.n c.args.self.now.xs.now c.args.self.now.xs_len c.if-self-eq1.true)

pub check_search-requires : goal.check_search-requires
check_search-requires c = omega (arith, search_ends c.args.self.now.call c.args.self.now.n c.args.self.now.xs.now c.args.self.now.xs_len c.if-self-eq1.true)

pub returns-then-self-eq1 : goal.returns-then-self-eq1
returns-then-self-eq1 c = c.check_search.ensures ∙ ap (λ (u : Task). first_of (task_tests u)) (search-task c.args.self.now.call c.args.self.now.n c.args.self.now.xs.now c.if-self-eq1.true)

pub bounds-rest-n-2 : goal.bounds-rest-n-2
bounds-rest-n-2 c = omega (arith, start_ends c.args.self.now.call c.args.self.now.n c.args.self.now.xs.now c.args.self.now.xs_len c.if-self-eq1.false)

pub returns-then-rest-n : goal.returns-then-rest-n
unfolding of_bits
returns-then-rest-n c = sym (test_met _ _ c.if-rest-n.true) ∙ ap (λ (u : Task). first_of (task_tests u)) (start-task c.args.self.now.call c.args.self.now.n c.args.self.now.xs.now c.if-self-eq1.false)

pub returns-else-rest-n : goal.returns-else-rest-n
unfolding of_bits
returns-else-rest-n c = past _ _ c.if-rest-n.false none_left ∙ ap (λ (u : Task). first_of (task_tests u)) (start-task c.args.self.now.call c.args.self.now.n c.args.self.now.xs.now c.if-self-eq1.false)
