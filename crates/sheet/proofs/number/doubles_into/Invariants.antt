use Rattle.std.proofs.Common.{◌≡◌, length}
use Rattle.sheet.proofs.Packed.{after}
use Rattle.sheet.proofs.number.doubles_into.Given as goal

abbrev pub invariant-loop-i : goal.invariant-loop-i
invariant-loop-i l = after l.s l.out (length l.initial.out) l.i ≡ after l.s l.initial.out (length l.initial.out) 0
