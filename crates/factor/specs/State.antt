-- 01, 'Lent room and what stays in it': the state that goes in and comes back by value.
use Rattle.std.specs.Prelude.{ℕ, ◌+◌, ◌*◌, Bool, true, false}
use Rattle.factor.specs.declared.state.Held.{Held}
use Rattle.factor.specs.declared.state.Held.TheVariants as held
use Rattle.factor.specs.declared.state.State.{State}

-- The empty state has m = n = 0.
abbrev pub empty : State
empty = record { m = 0; n = 0; held = held.Empty }

-- a state by its parts
abbrev pub state_of : ℕ → ℕ → Held → State
state_of m n h = record { m = m; n = n; held = h }

-- the same problem, with something else held
abbrev pub with_held : State → Held → State
with_held st h = record { m = st.m; n = st.n; held = h }

-- Empty is decided by what is held alone.
abbrev pub is_empty : Held → Bool
is_empty held.Empty = true
is_empty held.Nothing = false
is_empty held.Zero = false
is_empty held.Damped = false

abbrev pub is_nothing : Held → Bool
is_nothing held.Empty = false
is_nothing held.Nothing = true
is_nothing held.Zero = false
is_nothing held.Damped = false

-- The caller lends a store of n·n + 4n doubles and for factoring a bench of m·n + m.
abbrev pub store_need : ℕ → ℕ
store_need n = n * n + 4 * n

abbrev pub bench_need : ℕ → ℕ → ℕ
bench_need m n = m * n + m
