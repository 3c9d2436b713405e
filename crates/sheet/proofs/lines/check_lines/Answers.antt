use mathlib.Core.Path.{sym, ap, ◌∙◌}
use Rattle.std.specs.Prelude.{Result}
use Rattle.leaves.proofs.Refusals.{none_left}
use Rattle.leaves.specs.Tests.{first_of}
use Rattle.sheet.specs.Fit.{numbered_of}
use Rattle.sheet.specs.Lines.{lines_tests}
use Rattle.sheet.specs.declared.answer.Answer.{Answer}
use Prim.Native.Nat.{ℕ}
use Rattle.sheet.proofs.lines.check_lines.Goals as goal

pub returns-in-Err : goal.returns-in-Err
returns-in-Err c = none_left ∙ ap (λ (x : Result Answer ℕ). first_of (lines_tests (numbered_of x) c.args.step)) (sym c.in-Err.is)
