-- `lines::feed::line` meets its contract. Assumes nothing.
use Rattle.std.proofs.Common.{◌≡◌, ◌≤◌, length, max, drop}
use Rattle.lines.specs.Feed.{fed_from}
use Rattle.lines.proofs.feed.line.Given as goal

abbrev pub invariant-loop-i : goal.invariant-loop-i
invariant-loop-i l = (l.i ≤ max l.at (length l.chunk)) × (fed_from l.i l.k (drop l.i l.chunk) l.room ≡ fed_from l.at l.fill (drop l.at l.chunk) l.initial.room)
