use Rattle.std.proofs.Common.{rules}
use Rattle.sheet.proofs.Texts.{print_short, print_all}
use Rattle.sheet.proofs.lines.print.Goals as goal

pub returns-then-text-n : goal.returns-then-text-n
returns-then-text-n c = print_short c.args.source.now c.args.text.now c.if-text-n.true

pub returns : goal.returns
returns c = let h = print_all c.args.source.now c.args.text.now c.if-text-n.false c.bytes.ensures.wrote in search (rules, h)
