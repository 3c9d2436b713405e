use Rattle.lines.proofs.Parts.{below, whole}
use Rattle.lines.proofs.part.within.Goals as goal

pub returns-then-n-s : goal.returns-then-n-s
returns-then-n-s g c = let h = below _ c.args.s.now c.if-n-s.true in record { value = h.0; part = h.1 }

pub returns-else-n-s : goal.returns-else-n-s
returns-else-n-s g c = let h = whole _ c.args.s.now c.if-n-s.false in record { value = h.0; part = h.1 }
