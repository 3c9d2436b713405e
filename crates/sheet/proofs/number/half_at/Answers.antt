use Prim.Native.Nat.{◌+◌}
use native.Mathlib.Omega.{arith}
use Rattle.sheet.proofs.Packed.{half_is}
use Rattle.sheet.proofs.number.half_at.Goals as goal

pub returns : goal.returns
returns c =
    let t = c.type_inv.s in
    let p = c.args.at in
    (half_is c.args.s.now p c.requires, omega (arith, t p, t (p + 1), t (p + 2), t (p + 3)))
