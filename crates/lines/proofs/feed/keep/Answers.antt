use Rattle.std.proofs.Common.{sym}
use lib.Seq.{set_out}
use Rattle.lines.proofs.feed.keep.Goals as goal

pub returns-else-i-room : goal.returns-else-i-room
returns-else-i-room c = sym (set_out _ _ _ c.if-i-room.false)
