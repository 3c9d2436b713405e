use Rattle.lines.specs.Scan.{word_at}
use Rattle.lines.proofs.scan.word.Goals as goal

pub returns-in_err-f : goal.returns-in_err-f
unfolding word_at
returns-in_err-f c = rw (c.from_residual.ensures, ← c.number.ensures, c.in_err-f.was, word_at)

pub returns : goal.returns
unfolding word_at
returns c = rw (← c.number.ensures, c.in_ok-f.was, c.past_space.ensures, word_at)
