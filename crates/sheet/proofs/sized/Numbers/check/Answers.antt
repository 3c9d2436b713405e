use mathlib.Core.Bool.{not}
use mathlib.Core.Path.{ap, ◌∙◌}
use Rattle.leaves.specs.Tests.{first_of}
use Rattle.sheet.specs.Sheet.{Task}
use Rattle.sheet.specs.Tests.{task_tests}
use Rattle.sheet.proofs.Testing.{numbers-bad, numbers_good}
use Rattle.sheet.proofs.sized.Numbers.check.Goals as goal

pub returns-then-not-all_finite : goal.returns-then-not-all_finite
returns-then-not-all_finite c = numbers-bad c.args.self.now.of.head c.args.self.now.xs.now c.all_finite.ensures (ap not c.if-not-all_finite.true)

pub returns : goal.returns
returns c = numbers_good c.args.self.now.of.head c.args.self.now.xs.now c.all_finite.ensures (ap not c.if-not-all_finite.false) (c.check.ensures ∙ ap (λ (u : Task). first_of (task_tests u)) c.rest-rest.ensures)
