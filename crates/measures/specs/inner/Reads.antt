-- What the inner functions of `update_diag` are lent. No public contract cites it.
use Rattle.std.specs.Prelude.{ℕ}
use Rattle.measures.specs.declared.scaling.Mode.{Mode}
use Rattle.measures.specs.declared.scaling.Mode.TheVariants as mode

-- how many parameters a mode reads
abbrev pub parameters_read : Mode → ℕ → ℕ
parameters_read mode.FirstScaled n = n
parameters_read mode.FirstUnscaled n = n
parameters_read mode.LaterScaled n = 0
parameters_read mode.LaterUnscaled n = 0
