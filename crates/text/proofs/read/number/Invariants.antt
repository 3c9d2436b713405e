use Rattle.std.proofs.Common.{◌≡◌, ◌≤◌, length, max, drop}
use Rattle.text.specs.Read.{read_from}
use Rattle.text.proofs.read.number.Given as goal

abbrev pub invariant-loop-i : goal.invariant-loop-i
invariant-loop-i l = (l.i ≤ max l.at (length l.s)) × (read_from l.at l.v l.i (drop l.i l.s) ≡ read_from l.at 0 l.at (drop l.at l.s))
