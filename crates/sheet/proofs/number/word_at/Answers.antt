use Rattle.sheet.proofs.Packed.{word_is}
use Rattle.sheet.proofs.number.word_at.Goals as goal

pub returns : goal.returns
returns c = rw (c.half_at-high.ensures.0, c.half_at-low.ensures.0) (word_is c.args.s.now c.args.at c.requires)
