-- What a call leaves, as its callers see it: answer, state and every lent slice.
use Rattle.std.specs.Prelude.{true, false, eqb, ℕ, List, ◌++◌, length, drop, Float}
use Rattle.leaves.specs.Reply.{Reply, answered, refused}
use Rattle.factor.specs.declared.state.State.{State}

-- a call's answer and state, and the store after it
pub record Told (A : Type 0) : Type 0 where
  pub reply : Reply A
  pub state : State
  pub store : List Float

-- and with a lent output or a lent scaling
pub record Ended (A : Type 0) : Type 0 where
  pub reply : Reply A
  pub state : State
  pub store : List Float
  pub out : List Float

abbrev pub told : {A : Type 0} → Reply A → State → List Float → Told A
told a st s = record { reply = a; state = st; store = s }

abbrev pub ended : {A : Type 0} → Reply A → State → List Float → List Float → Ended A
ended a st s o = record { reply = a; state = st; store = s; out = o }

-- the first n of an output written, its surplus kept
abbrev pub written : List Float → List Float → List Float
written xs out = xs ++ drop (length xs) out

-- an answer, and the one slice that is written, where the store is only read
pub record Read : Type 0 where
  pub reply : Reply (Unit {0})
  pub out : List Float

abbrev pub read : Reply (Unit {0}) → List Float → Read
read a o = record { reply = a; out = o }

abbrev pub read_of : Ended (Unit {0}) → Read
read_of e = read e.reply e.out

-- a working's answer, and the store and the output after it
pub record Left : Type 0 where
  pub reply : Reply (Unit {0})
  pub store : List Float
  pub out : List Float

abbrev pub left_in : Reply (Unit {0}) → List Float → List Float → Left
left_in a s o = record { reply = a; store = s; out = o }

-- a working that only reads the store: the first n of w written where the tests are passed
abbrev pub written_if : ℕ → List Float → List Float → Read
written_if c xs w = elim (eqb c 0) [ true ↦ read (answered tt) (written xs w) | false ↦ read (refused c) w ]
