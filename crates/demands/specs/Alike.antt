-- Demand 3: rooms in which the same stands, and calls that tell the same.
use Rattle.std.specs.Prelude.{◌≡◌, List, ◌≤◌, length, Float}
use Rattle.factor.specs.Room.{Room, load}
use Rattle.factor.specs.State.{store_need}
use Rattle.demands.specs.Calls.{OutcomeOf}
use Rattle.factor.specs.declared.state.State.{State}

-- two rooms with the same R, qt_b and norms
pub record Alike (r t : Room) : Type 0 where
  pub upper : r.upper ≡ t.upper
  pub qtb : r.qtb ≡ t.qtb
  pub norms : r.norms ≡ t.norms

-- and with the same left in them by a solve
pub record HeldAlike (r t : Room) : Type 0 where
  pub below : r.below ≡ t.below
  pub ldiag : r.ldiag ≡ t.ldiag

-- R with its diagonal, qt_b, norms and surplus are the same
pub record Kept (r t : Room) : Type 0 where
  pub upper : t.upper ≡ r.upper
  pub qtb : t.qtb ≡ r.qtb
  pub norms : t.norms ≡ r.norms
  pub rest : t.rest ≡ r.rest

-- whatever else is in the stores, the caller is told the same
pub record ToldAlike {A : Type 0} (o p : OutcomeOf A) : Type 0 where
  pub answer : o.answer ≡ p.answer
  pub state : o.state ≡ p.state
  pub out : o.out ≡ p.out

abbrev pub Long : State → List Float → Type 0
Long st s = store_need st.n ≤ length s

-- two stores of enough numbers, with the same in them but work and surplus
pub record SameContents (st : State) (s t : List Float) : Type 0 where
  pub long_left : Long st s
  pub long_right : Long st t
  pub alike : Alike (load st.n s) (load st.n t)
  pub held_alike : HeldAlike (load st.n s) (load st.n t)
