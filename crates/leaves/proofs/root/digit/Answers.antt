-- `root::digit` meets its contract: either digit keeps what is promised of it. Assumes nothing.
use native.Mathlib.Omega.{arith}
use Rattle.leaves.proofs.root.Digits.{digit_one}
use Rattle.leaves.proofs.root.digit.Goals as goal

pub returns-then-t-rem : goal.returns-then-t-rem
returns-then-t-rem c = digit_one c.args.s c.args.rem c.args.r _ (omega arith) c.requires.0
