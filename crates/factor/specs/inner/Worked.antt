-- What the working of a factoring hands the call above it: whether it stands, and the lent slices.
use Rattle.std.specs.Prelude.{ℕ, ◌*◌, ◌≡◌, List, length, Float, Result, Ok, Err}
use Rattle.leaves.specs.Reply.{answered, refused, refusal_number}
use Rattle.leaves.specs.declared.reply.Refusal.{Refusal}
use Rattle.leaves.specs.declared.norm.Ranges.{Ranges}
use Rattle.factor.specs.State.{empty}
use Rattle.leaves.specs.Square.{joined}
use Rattle.reduce.specs.Reduction.{Reduction}
use Rattle.factor.specs.Factoring.{uppers, no_lower, Factored, factored}
use Rattle.factor.specs.declared.state.Held.TheVariants as held

-- R, qt_b and the norms are finite, with the flags of the norms; or they are not
abbrev pub outcome : Result Ranges Refusal → ℕ → ℕ → List Float → List ℕ → List Float → Factored
outcome (Ok seen) m n store order bench = factored (answered seen) (record { m = m; n = n; held = held.Nothing }) store order bench
outcome (Err r) m n store order bench = factored (refused (refusal_number r)) empty store order bench

-- a reduction whose R fills the square
abbrev pub SquareLong : ℕ → ℕ → Reduction → Type 0
SquareLong m n f = length (joined (uppers m 0 f.cols f.diag) (no_lower n)) ≡ n * n
