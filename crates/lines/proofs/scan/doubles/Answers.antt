use Rattle.std.proofs.Common.{rules, sym, ◌∙◌}
use Rattle.lines.proofs.scan.Scanning.{too_many, rest_start, rest_stop, rest_go, rest_end}
use Rattle.lines.proofs.scan.doubles.Goals as goal

pub returns-then-room-len-clause-room_after : goal.returns-then-room-len-clause-room_after
returns-then-room-len-clause-room_after c = too_many _ _ _ _ c.if-room-len.true

pub loop-i-init : goal.loop-i-init
loop-i-init c = (search rules, rest_start _ _ _ _ c.if-room-len.false)

pub returns-in_default-clause-room_after : goal.returns-in_default-clause-room_after
returns-in_default-clause-room_after c =
    let l = c.loop-i in
    rest_stop _ _ l.i l.next _ _ c.loop-i-test.true (sym c.word.ensures ∙ c.in_default.is) l.invariant.1

pub loop-i-preserved : goal.loop-i-preserved
loop-i-preserved c =
    let l = c.loop-i in
    (search rules, rest_go _ _ l.i l.next _ _ _ _ c.loop-i-test.true (sym c.word.ensures ∙ c.in-Some.is) c.of_bits.ensures l.invariant.1)

pub returns-clause-room_after : goal.returns-clause-room_after
returns-clause-room_after c = let l = c.loop-i in rest_end _ _ l.i l.next _ _ c.loop-i-test.false l.invariant.1
