use Rattle.std.proofs.Common.{◌≡◌, ◌-◌, length, arith, sym, ◌∙◌}
use Rattle.sheet.proofs.Packed.{read_turn, read_end}
use Rattle.sheet.proofs.number.doubles_into.Goals as goal

pub loop-i-preserved : goal.loop-i-preserved
loop-i-preserved c =
    let l = c.loop-i in
    read_turn c.args.s.now l.out _ l.i c.loop-i-test.true (sym l.auto.out) c.word_at.ensures c.of_bits.ensures ∙ l.invariant

pub returns : goal.returns
returns c =
    let l = c.loop-i in
    let g = c.args in
    let z : length g.out.now - 0 ≡ length g.out.now = omega arith in
    sym (read_end g.s.now l.out _ l.i c.loop-i-test.false (sym l.auto.out)) ∙ (rw z at l.invariant)
