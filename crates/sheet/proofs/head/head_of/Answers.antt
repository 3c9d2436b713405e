use native.Mathlib.Omega.{arith}
use Rattle.sheet.proofs.Packed.{head_is}
use Rattle.sheet.proofs.head.head_of.Goals as goal

pub returns : goal.returns
returns c = head_is c.args.s.now c.requires (omega (arith, c.type_inv.s 1)) (omega (arith, c.type_inv.s 2))
