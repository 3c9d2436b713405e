-- `lines::scan::doubles` meets its contract. Assumes nothing.
use Rattle.std.proofs.Common.{◌≡◌, ◌-◌, ◌≤◌, length}
use Rattle.lines.specs.Scan.{rest_from, doubles_at}
use Rattle.lines.proofs.scan.doubles.Given as goal

abbrev pub invariant-loop-i : goal.invariant-loop-i
invariant-loop-i l = (l.len ≤ length l.initial.room) × (rest_from l.s l.len (l.len - l.i) l.i l.next l.room ≡ doubles_at l.s l.at l.len l.initial.room)
