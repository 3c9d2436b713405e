use mathlib.Core.Path.{◌≡◌, refl, sym, ap, ◌∙◌}
use mathlib.Core.List.{List, [], ◌∷◌, ◌++◌}
use Prim.Native.Nat.{ℕ, ◌≤◌, min}
use native.Mathlib.Omega.{arith}
use lib.ListN.{length, take}
use lib.Ieee.{Float}
use Rattle.std.specs.Prelude.{is_ok}
use Rattle.leaves.specs.declared.reply.Refusal.{Refusal}
use Rattle.leaves.specs.Reply.{refused, refusal_number}
use Rattle.leaves.proofs.Replies.{refusal_number-some}
use Rattle.leaves.specs.Square.{zeros}
use Rattle.leaves.specs.Tests.{Test, first_of}
use Rattle.factor.specs.Outcome as outcome
use Rattle.factor.specs.Solves as plain
use Rattle.factor.specs.declared.state.State.{State as Plain}
use Rattle.calls.specs.declared.state.State.{State}
use Rattle.calls.specs.State.{cols, whole, without_frozen}
use Rattle.calls.specs.Tests.{form_test, marked_solve_tests, free_test}
use Rattle.calls.specs.Outcome.{MarkedEnded, marked_ended, ended_as, narrowed_in, emptied_by}
use Rattle.calls.specs.Solves.{marked_zero}
use Rattle.calls.proofs.Passed.{Ready, room_ready, by_no_mark, by_refusal, by_working}
use Rattle.calls.proofs.Ways.{empty-worked}
use Rattle.calls.proofs.Resting.{counted_in}
use Rattle.calls.proofs.Backs.{ended-unmarked, first_long, with-store}
use Rattle.calls.proofs.least_squares.solve_with_zero_diagonal.Goals as goal

module _ (st : State) (order : List ℕ) (store out : List Float) where
  abbrev tests : List Test
  tests = marked_solve_tests st (length store) order (length out) ++ (free_test st ∷ [])

  abbrev unmarked : MarkedEnded (Unit {0})
  unmarked = ended_as st (plain.zero_call (whole st) order store out)

  abbrev working : List ℕ → List Float → MarkedEnded (Unit {0})
  working o x = emptied_by st store out (plain.zero_call (without_frozen st) o (narrowed_in st store) x)

  abbrev worked : MarkedEnded (Unit {0})
  worked = working (take (cols st) order) (zeros (cols st))

  abbrev refusal : ℕ → MarkedEnded (Unit {0})
  refusal k = marked_ended (refused k) st store out

  is_unmarked : {x : MarkedEnded (Unit {0})} → st.marks ≡ 0 → x ≡ unmarked → x ≡ marked_zero st order store out
  unfolding marked_zero
  is_unmarked m h = h ∙ by_no_mark st.marks tests unmarked worked refusal m

  is_refused : (r : Refusal) → (st.marks ≡ 0 → ⊥) → refusal_number r ≡ first_of tests → refusal (refusal_number r) ≡ marked_zero st order store out
  unfolding marked_zero
  is_refused r m e = by_refusal st.marks tests unmarked worked refusal m e (refusal_number-some r)

  is_worked : {x : MarkedEnded (Unit {0})} → (st.marks ≡ 0 → ⊥) → 0 ≡ first_of tests → x ≡ worked → x ≡ marked_zero st order store out
  unfolding marked_zero
  is_worked m e h = h ∙ by_working st.marks tests unmarked worked refusal m e refl

  module _ (e : 0 ≡ first_of tests) where
    ready : Ready st store (min (length order) (length out))
    ready = room_ready st store (min (length order) (length out)) (form_test st order ∷ []) refl (sym e)

    order_long : st.n ≤ length order
    order_long = let l = ready.each_long in omega arith

    out_long : st.n ≤ length out
    out_long = let l = ready.each_long in omega arith

pub returns-then-marks-eq0 : goal.returns-then-marks-eq0
returns-then-marks-eq0 c =
    let g = c.args in
    let call : Plain → outcome.Ended (Unit {0}) = λ p. plain.zero_call p g.order.now g.store.now g.out.now in
    is_unmarked g.st g.order.now g.store.now g.out.now c.if-marks-eq0.true (ended-unmarked g.st call c.whole.ensures c.solve_with_zero_diagonal-t.ensures c.marked.ensures)

pub returns-in-Err : goal.returns-in-Err
returns-in-Err c =
    let g = c.args in
    is_refused g.st g.order.now g.store.now g.out.now _ c.if-marks-eq0.false c.in-Err.ensures

pub invariant_of-p : goal.invariant_of-p
invariant_of-p c = let g = c.args in record { reducible = counted_in (ready g.st g.order.now g.store.now g.out.now c.in_default.ensures) c.free_count-free.ensures }

pub slice_bounds-solve_with_zero_diagonal-end : goal.slice_bounds-solve_with_zero_diagonal-end
slice_bounds-solve_with_zero_diagonal-end c =
    let g = c.args in
    let e = c.in_default.ensures in
    sym (first_long g.st g.store.now _ (ready g.st g.order.now g.store.now g.out.now e) c.free_count-free.ensures g.order.now (order_long g.st g.order.now g.store.now g.out.now e))

pub solve_with_zero_diagonal-told-requires : goal.solve_with_zero_diagonal-told-requires
solve_with_zero_diagonal-told-requires c = let g = c.args in out_long g.st g.order.now g.store.now g.out.now c.in_default.ensures

pub unwrap-requires : goal.unwrap-requires
unwrap-requires c =
    let g = c.args in
    let r = ready g.st g.order.now g.store.now g.out.now c.in_default.ensures in
    ap is_ok (empty-worked r.reducible _ _ c.empty.ensures).0

pub returns : goal.returns
returns c =
    let g = c.args in
    let e = c.in_default.ensures in
    let r = ready g.st g.order.now g.store.now g.out.now e in
    let h = with-store (empty-worked r.reducible _ _ c.empty.ensures).1 c.solve_with_zero_diagonal-told.ensures in
    is_worked g.st g.order.now g.store.now g.out.now c.if-marks-eq0.false e (h ∙ ap (λ (k : ℕ). working g.st g.order.now g.store.now g.out.now (take k g.order.now) (zeros (cols g.st))) c.free_count-free.ensures)
