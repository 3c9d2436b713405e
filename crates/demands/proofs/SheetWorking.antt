-- 01, 'Job sheet and its program': where no test of a sheet holds, its working is answered or refused 8: its factoring passes every test, and an
-- answered one leaves slices that pass the tests of a solve. Assumes nothing.
use mathlib.Core.Path.{◌≡◌, refl, sym, ap, subst}
use mathlib.Core.Bool.{Bool, true, false}
use mathlib.Core.List.{List}
use mathlib.Core.Logic.{◌⊎◌, inl, inr}
use Prim.Native.Nat.{ℕ, ◌*◌, ◌≤◌}
use native.Mathlib.Omega.{arith}
use lib.ListN.{length, take, replicate, length-replicate}
use lib.Ieee.{Float}
use borrow.Author.Tests.{le-ltb}
use Rattle.leaves.specs.declared.norm.Ranges.{Ranges}
use Rattle.leaves.specs.Norm.{ranges_of}
use Rattle.leaves.specs.Triangle.{columns}
use Rattle.reduce.specs.Reduction.{measured}
use Rattle.leaves.specs.Reply.{Reply, answered, refused}
use Rattle.leaves.specs.Number.{plus_zero}
use Rattle.leaves.specs.Square.{zeros}
use Rattle.leaves.proofs.Insides.{Inside, within, square_small, jacobian_small}
use Rattle.factor.specs.State.{store_need, bench_need}
use Rattle.factor.specs.Room.{Room}
use Rattle.factor.specs.Tests.{is_permutation}
use Rattle.factor.specs.Factoring.{Factored, factor_tests, finite_room, factor_call}
use Rattle.factor.specs.declared.state.State.{State}
use Rattle.factor.proofs.Passed.{Ordered}
use Rattle.factor.proofs.Answered.{answered-state, answered-order}
use Rattle.sheet.specs.Sheet.{Task, Job}
use Rattle.sheet.specs.Fit.{task_from, by_factoring, worked_in, worked}
use Rattle.demands.proofs.Alikes.{refactored, reordered}
use Rattle.demands.proofs.FactoringTable as factoring
use Rattle.demands.proofs.SheetNumbers.{Asked, Workable}
use Rattle.demands.proofs.SheetSeeking.{Ends, task_ends}
use Rattle.leaves.specs.Refusing.{NoneHold}

-- ---- the factoring, in rooms for the largest problem
factored_ends : (task : Task) (step : List Float) (f : Factored) (seen : Ranges) → (f.reply ≡ answered seen → Ends step (task_from task f.state f.order f.store step))
    → (f.reply ≡ answered seen) ⊎ (f.reply ≡ refused 8) → Ends step (by_factoring task f.reply f.state f.order f.store step)
factored_ends task step f seen g (inl e) = subst (λ (r : Reply Ranges). Ends step (by_factoring task r f.state f.order f.store step)) (sym e) (g e)
factored_ends task step f seen g (inr e) = subst (λ (r : Reply Ranges). Ends step (by_factoring task r f.state f.order f.store step)) (sym e) (inr refl)

module _ (j : Job) (step : List Float) (w : Workable j (length step)) where
  abbrev store : List Float
  store = zeros 320

  abbrev order : List ℕ
  order = replicate 16 0

  abbrev bench : List Float
  bench = zeros 2176

  abbrev call : Factored
  call = factor_call j.m j.n j.jacobian j.residuals store order bench

  factor_free : NoneHold (factor_tests j.m j.n j.jacobian j.residuals (length store) (length order) (length bench))
  factor_free =
      let i = w.sizes in
      let s : length store ≡ 320 = length-replicate 320 plus_zero in
      let o : length order ≡ 16 = length-replicate {A = ℕ} 16 0 in
      let b : length bench ≡ 2176 = length-replicate 2176 plus_zero in (
        within j.m j.n i,
        (
          rw (
            le-ltb (length j.jacobian) (j.m * j.n) w.jacobian_long,
            le-ltb (length j.residuals) j.m w.residuals_long,
            le-ltb (length store) (store_need j.n) (omega (arith, s, square_small i, i.cols_few)),
            le-ltb (length order) j.n (omega (arith, o, i.cols_few)),
            le-ltb (length bench) (bench_need j.m j.n) (omega (arith, b, jacobian_small i, i.rows_few)),
          ),
          (rw w.jacobian_finite, (rw w.residuals_finite, tt)),
        ),
      )

  -- of every norm that it works out
  abbrev flags : Ranges
  flags = ranges_of (measured j.m j.n (columns j.m j.n j.jacobian) (take j.m j.residuals))

  -- its two ends
  factor_either : (call.reply ≡ answered flags) ⊎ (call.reply ≡ refused 8)
  factor_either = by (finite_room room) refl
    where
      room : Room
      room = factoring.room j.m j.n j.jacobian j.residuals store order bench

      by : (b : Bool) → finite_room room ≡ b → (call.reply ≡ answered flags) ⊎ (call.reply ≡ refused 8)
      by true e =
          inl (ap (λ (f : Factored). f.reply) (factoring.answered_whole j.m j.n j.jacobian j.residuals store order bench
          ((factoring.answered_otherwise j.m j.n j.jacobian j.residuals store order bench).1 (factor_free, e))))
      by false e =
          inr (ap (λ (f : Factored). f.reply) (factoring.eight_whole j.m j.n j.jacobian j.residuals store order bench
          ((factoring.refused_eight j.m j.n j.jacobian j.residuals store order bench).1 (factor_free, e))))

  -- what an answered one leaves passes the tests of a solve
  factor_ordered : call.reply ≡ answered flags → Ordered call.state (length call.store) call.order (length step)
  factor_ordered h =
      let e = sym (answered-state j.m j.n j.jacobian j.residuals store order bench h) in
      let r = refactored j.m j.n j.jacobian j.residuals store store order order bench bench h h in
      let q = reordered j.m j.n j.jacobian j.residuals store store order order bench bench h h in
      let p = answered-order j.m j.n j.jacobian j.residuals store order bench h in
      record {
        room = record {
          filled = r.2;
          sizes = subst (λ (s : State). Inside s.m s.n) e w.sizes;
          store_long = r.0.long_left;
          each_long = subst (λ (s : State). s.n ≤ length step) e w.step_long;
        };
        order_long = subst (λ (s : State). s.n ≤ length call.order) e q.0;
        permuted = subst (λ (s : State). is_permutation s.n call.order ≡ true) e p;
      }

  factor_asked : call.reply ≡ answered flags → Asked call.state.n j.task
  factor_asked h = subst (λ (s : State). Asked s.n j.task) (sym (answered-state j.m j.n j.jacobian j.residuals store order bench h)) w.asked

  -- LAW: the working is answered, or refused 8 and the step as it came
  pub worked_ends : Ends step (worked j step)
  unfolding worked worked_in
  worked_ends = factored_ends j.task step call flags (λ h. task_ends call.state call.order step call.store (factor_ordered h) j.task (factor_asked h)) factor_either
