-- `lines::put::row` meets its contract. Assumes nothing.
use Rattle.std.proofs.Common.{◌≡◌, drop}
use Rattle.lines.specs.Put.{row_from}
use Rattle.lines.proofs.put.row.Given as goal

abbrev pub invariant-loop-x : goal.invariant-loop-x
invariant-loop-x l =
    (row_from (drop l.x-index l.v) l.page.at l.page.out.now ≡ row_from l.v l.initial.page.at l.initial.page.out.now)
    × (l.page.out.ghost_name ≡ l.initial.page.out.ghost_name)
