-- `root::split` meets its contract: t and z are those of the pattern's magnitude, subnormal or not. Assumes nothing.
use mathlib.Core.Path.{◌≡◌}
use Prim.Native.Nat.{◌*◌, ◌/◌, ◌%◌, ◌^◌}
use native.Mathlib.Omega.{arith}
use Rattle.leaves.proofs.root.Scaled.{normed_low, normed_high}
use Rattle.leaves.proofs.root.split.Goals as goal

pub returns-then-b-lt4503599627370496 : goal.returns-then-b-lt4503599627370496
returns-then-b-lt4503599627370496 c = normed_low c.args.b c.raise.result.t c.raise.result.z c.if-b-lt4503599627370496.true c.raise.ensures

pub returns-else-b-lt4503599627370496 : goal.returns-else-b-lt4503599627370496
returns-else-b-lt4503599627370496 c =
    let b = c.args.b in
    let e : b * 2 ^ 12 % 2 ^ 64 / 2 ^ 12 ≡ b % 2 ^ 52 = omega arith in
    rw e (normed_high b c.if-b-lt4503599627370496.false c.requires.1)
