-- 01, 'Refusal numbers': a scaling's answer, read as answered or refused.
use Rattle.std.specs.Prelude.{Result, Ok, Err}
use Rattle.leaves.specs.Reply.{Reply, answered, refused, refusal_number}
use Rattle.leaves.specs.declared.reply.Refusal.{Refusal}
use Rattle.measures.specs.Rescale.{Scaled, first, later}
use Rattle.measures.specs.declared.scaling.Scaling.{Scaling}
use Rattle.measures.specs.declared.scaling.Scaling.TheVariants as scaling

-- The first scaling alone gives xnorm and radius.
abbrev pub scaling_of : Result Scaling Refusal → Reply Scaled
scaling_of (Ok (scaling.First t f)) = answered (first t f)
scaling_of (Ok (scaling.Later f)) = answered (later f)
scaling_of (Err r) = refused (refusal_number r)
