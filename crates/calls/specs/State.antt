-- 02, #108: 'The state gains one mark for each column, given at factoring.' The problem with all its columns, and the one without the frozen
-- ones, are states of the calls that know no marks.
use Rattle.std.specs.Prelude.{ℕ, Bool, List}
use Rattle.frozen.specs.Frozen.{marks_of, free_count}
use Rattle.factor.specs.State.{state_of}
use Rattle.factor.specs.declared.state.Held.{Held}
use Rattle.factor.specs.declared.state.Held.TheVariants as held
use Rattle.factor.specs.declared.state.State.{State as Plain}
use Rattle.calls.specs.declared.state.State.{State}

-- The empty state has m = n = 0, and no mark.
abbrev pub no_problem : State
no_problem = record { m = 0; n = 0; held = held.Empty; marks = 0 }

-- the same problem, with something else held: its marks stay
abbrev pub marked_held : State → Held → State
marked_held st h = record { m = st.m; n = st.n; held = h; marks = st.marks }

-- a state that knows no marks, and marks
abbrev pub marked : ℕ → Plain → State
marked marks st = record { m = st.m; n = st.n; held = st.held; marks = marks }

-- a mark for each column, and how many columns are free
abbrev pub marks_in : State → List Bool
marks_in st = marks_of st.n st.marks

abbrev pub cols : State → ℕ
cols st = free_count (marks_in st)

-- the problem with all its columns
abbrev pub whole : State → Plain
whole st = state_of st.m st.n st.held

-- the problem without the frozen columns
abbrev pub without_frozen : State → Plain
without_frozen st = state_of st.m (cols st) st.held
