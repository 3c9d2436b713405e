-- How the norm reads its flags off its sums. No public contract cites it: what is promised stands in `Norm`.
use Rattle.std.specs.Float.Ieee.{ne}
use Rattle.leaves.specs.Number.{plus_zero}
use Rattle.leaves.specs.Norm.{flags}
use Rattle.leaves.specs.declared.norm.Sums.{Sums}
use Rattle.leaves.specs.declared.norm.Ranges.{Ranges}

abbrev pub flags_of : Sums → Ranges
flags_of t = flags (ne t.x3max plus_zero) (ne t.s1 plus_zero)
