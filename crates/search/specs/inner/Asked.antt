-- What a search works on, read as the problem that it is asked; and what its workings leave of that.
use Rattle.std.specs.Prelude.{◌≡◌, List, take, Float}
use Rattle.factor.specs.Room.{Room, load}
use Rattle.factor.specs.Solve.{gather}
use Rattle.factor.specs.Held.{held_solved}
use Rattle.factor.specs.declared.state.Held.{Held}
use Rattle.search.specs.Problem.{Problem}
use Rattle.search.specs.inner.Read.{lent, turned_by}
use Rattle.search.specs.declared.lent.TrustRegion.{TrustRegion}

abbrev pub asked : TrustRegion → Problem
asked t = lent t.st t.order.places.now t.diag.now t.radius t.store.now

abbrev pub room : TrustRegion → Room
room t = load t.st.n t.store.now

-- the same problem, in the same slices, whatever stands in the last three
pub record Kept (before after : TrustRegion) : Type 0 where
  pub st : after.st ≡ before.st
  pub order : after.order ≡ before.order
  pub diag : after.diag ≡ before.diag
  pub radius : after.radius ≡ before.radius
  pub store : after.store.ghost_name ≡ before.store.ghost_name
  pub v : after.v.ghost_name ≡ before.v.ghost_name
  pub w : after.w.ghost_name ≡ before.w.ghost_name

-- and all but w is as it was
pub record OnlyW (before after : TrustRegion) : Type 0 where
  pub kept : Kept before after
  pub store : after.store.now ≡ before.store.now
  pub v : after.v.now ≡ before.v.now

-- what the held solve makes of the scaled step in v, whose norm is given
abbrev pub held_by : Held → TrustRegion → Float → List Float
held_by h t norm = held_solved h (gather (take t.st.n t.order.places.now) (turned_by norm t.v.now t.diag.now)) (room t)
