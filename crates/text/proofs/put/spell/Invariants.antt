use Rattle.std.proofs.Common.{◌≡◌}
use Rattle.text.specs.inner.Spelling.{put_from}
use Rattle.text.proofs.put.spell.Given as goal

abbrev pub invariant-loop-i : goal.invariant-loop-i
invariant-loop-i l = put_from l.base l.i l.rest l.at l.out ≡ put_from l.base l.k l.n l.at l.initial.out
