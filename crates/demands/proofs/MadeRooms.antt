-- What an answered factoring leaves, with marks or without: its state, and a room as factored. Assumes nothing.
use Prim.Native.Nat.{ℕ}
use mathlib.Core.Path.{◌≡◌, refl, sym, ap, ◌∙◌, subst}
use mathlib.Core.Bool.{Bool, true, false}
use mathlib.Core.List.{List, [], ◌++◌}
use native.Mathlib.Omega.{arith}
use lib.Dec.{eqb}
use lib.ListN.{length, take, drop, length-replicate, drop_of_length-le}
use lib.Ieee.{Float}
use borrow.Author.Tests.{eqb-true, eqb-false}
use Rattle.leaves.specs.Number.{plus_zero}
use Rattle.leaves.specs.Reply.{answered}
use Rattle.leaves.specs.Square.{zeros}
use Rattle.leaves.specs.declared.norm.Ranges.{Ranges}
use Rattle.frozen.specs.Narrowed.{spread_out}
use Rattle.factor.specs.AsFactored.{AsFactored}
use Rattle.factor.specs.Factoring as plain
use Rattle.factor.specs.Room.{Room, load, lay}
use Rattle.factor.specs.State.{state_of, store_need, bench_need}
use Rattle.factor.specs.declared.state.Held.TheVariants as held
use Rattle.factor.specs.declared.state.State.{State as Plain}
use Rattle.factor.specs.inner.Rooms.{Shaped}
use Rattle.factor.proofs.Answered.{answered_shaped, answered_room, answered-state, answered-lower, answered_as_factored}
use Rattle.factor.proofs.Layouts.{lay-load}
use Rattle.calls.specs.State.{marked}
use Rattle.calls.specs.Factoring.{MarkedFactored, factored_as, marked_factoring}
use Rattle.calls.proofs.Passed.{free_count-fits}
use Rattle.demands.proofs.MarkedForms.{factoring_no_marks}
use Rattle.demands.proofs.FrozenFactored.{free, free_jacobian, small, is_spread, spread-state}
use Rattle.demands.proofs.SpreadRooms.{spread_as_factored}

pub record Made (m n marks : ℕ) (g : MarkedFactored) : Type 0 where
  pub state : g.state ≡ marked marks (state_of m n held.Nothing)
  pub as_factored : AsFactored n (load n g.store)

module _ (m n marks : ℕ) (jacobian residuals s : List Float) (order : List ℕ) (bench : List Float) where
  abbrev one : MarkedFactored
  one = marked_factoring m n marks jacobian residuals s order bench

  -- with marks: the factoring of the free columns, spread out
  abbrev few : ℕ
  few = free m n marks jacobian residuals

  abbrev small_one : plain.Factored
  small_one = small m n marks jacobian residuals s order bench

  abbrev reduced : Room
  reduced = load few small_one.store

  some_made : (marks ≡ 0 → ⊥) → {f : Ranges} → one.reply ≡ answered f → Made m n marks one
  some_made k h =
      let jac = free_jacobian m n marks jacobian residuals in
      let lent = zeros (store_need few) in
      let places = take few order in
      let scratch = zeros (bench_need m few) in
      let z = is_spread m n marks jacobian residuals s order bench k h in
      let a = answered_as_factored m few jac residuals lent places scratch z.answer in
      let shape : Shaped few reduced = rw (answered_room m few jac residuals lent places scratch z.answer) (answered_shaped m few jac residuals lent places scratch z.answer) in
      let l = length-replicate (store_need few) plus_zero in
      let alone : reduced.rest ≡ [] = (answered-lower m few jac residuals lent places scratch z.answer).1.1.1 ∙ drop_of_length-le lent {i = store_need few} (omega arith) in
      let rest = drop (length (spread_out n few small_one.store)) s in
      let e : one.store ≡ spread_out n few (lay reduced) ++ rest = z.store ∙ ap (λ (x : List Float). spread_out n few x ++ rest) (sym (lay-load few small_one.store)) in
      record {
        state = spread-state m n marks jacobian residuals s order bench k h;
        as_factored = rw e (spread_as_factored n few (free_count-fits n marks) reduced shape a alone rest);
      }

  -- with none: the factoring without marks
  abbrev plain_one : plain.Factored
  plain_one = plain.factor_call m n jacobian residuals s order bench

  none_made : marks ≡ 0 → {f : Ranges} → one.reply ≡ answered f → Made m n marks one
  none_made k h =
      let i : one ≡ factored_as plain_one = ap (λ (z : ℕ). marked_factoring m n z jacobian residuals s order bench) k ∙ factoring_no_marks m n jacobian residuals s order bench in
      let x = sym (ap (λ (z : MarkedFactored). z.reply) i) ∙ h in
      subst (λ (z : MarkedFactored). Made m n marks z) (sym i) (record {
        state = ap (λ (z : Plain). marked 0 z) (answered-state m n jacobian residuals s order bench x) ∙ ap (λ (z : ℕ). marked z (state_of m n held.Nothing)) (sym k);
        as_factored = answered_as_factored m n jacobian residuals s order bench x;
      })

  -- LAW
  pub made : {f : Ranges} → one.reply ≡ answered f → Made m n marks one
  made {f} h = by (eqb marks 0) refl
    where
      by : (z : Bool) → eqb marks 0 ≡ z → Made m n marks one
      by true e = none_made (eqb-true marks 0 e) h
      by false e = some_made (eqb-false marks 0 e) h
