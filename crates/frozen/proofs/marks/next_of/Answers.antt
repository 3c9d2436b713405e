use mathlib.Core.Path.{sym}
use Rattle.frozen.proofs.Turns.{next_free, next_frozen}
use Rattle.frozen.proofs.marks.next_of.Goals as goal

pub returns-then-x-lt32768 : goal.returns-then-x-lt32768
returns-then-x-lt32768 c = sym (next_free c.args.x c.if-x-lt32768.true)

pub returns-else-x-lt32768 : goal.returns-else-x-lt32768
returns-else-x-lt32768 c = sym (next_frozen c.args.x c.if-x-lt32768.false)
