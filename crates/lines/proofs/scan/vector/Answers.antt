use Rattle.std.proofs.Common.{sym, ◌∙◌}
use Rattle.lines.specs.Scan.{vector_at}
use Rattle.lines.proofs.scan.vector.Goals as goal

pub returns-in_default-clause-room_after : goal.returns-in_default-clause-room_after
unfolding vector_at
returns-in_default-clause-room_after c = rw (sym c.word.ensures ∙ c.in_default.is, vector_at)

pub returns-clause-room_after : goal.returns-clause-room_after
unfolding vector_at
returns-clause-room_after c = rw (sym c.word.ensures ∙ c.in-Some.is, vector_at) c.doubles.ensures.room_after
