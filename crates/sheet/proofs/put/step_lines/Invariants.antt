use Rattle.std.proofs.Common.{◌≡◌, ◌+◌, ◌*◌, ◌≤◌, length, drop}
use Rattle.sheet.specs.Lines.{step_lines}
use Rattle.sheet.specs.inner.Handed.{put}
use Rattle.sheet.proofs.put.step_lines.Given as goal

abbrev pub invariant-loop-i : goal.invariant-loop-i
invariant-loop-i l =
    let first = l.initial.page in
    (l.page.at ≤ first.at + 43 * l.i)
    × (length l.page.out.now ≡ length first.out.now)
    × (put (step_lines l.i (drop l.i l.step)) l.page.at l.page.out.now ≡ put (step_lines 0 l.step) first.at first.out.now)
    × (l.page.out.ghost_name ≡ first.out.ghost_name)
