use mathlib.Core.Path.{refl, sym, ap, ◌∙◌}
use Prim.Native.Nat.{ℕ, min}
use mathlib.Core.List.{[], ◌∷◌}
use Rattle.leaves.specs.Tests.{first_of}
use Rattle.factor.specs.Tests.{held_test, solve_tests}
use Rattle.leaves.proofs.Refusals.{stopped}
use Rattle.leaves.proofs.Replies.{refusal_number-some}
use Rattle.factor.proofs.Answers.{handed_on}
use Rattle.factor.proofs.Holds.{held_too}
use Rattle.factor.proofs.Passed.{solve_passed}
use Rattle.factor.proofs.cholesky.check_held.Goals as goal

pub returns-in_err-ordered : goal.returns-in_err-ordered
returns-in_err-ordered c =
    let g = c.args in
    let ts = solve_tests g.st g.store g.order.now (min g.rhs g.out) in
    let e = c.in_err-ordered.ensures ∙ ap (λ (s : ℕ). first_of (solve_tests g.st g.store g.order.now s)) c.least.ensures in
    rw (handed_on _ _ c.from_residual.ensures.1) (record { value = tt; failed = sym (stopped ts (held_test g.st ∷ []) _ e (refusal_number-some _)) })

pub returns : goal.returns
returns c =
    let g = c.args in
    let k = min g.rhs g.out in
    let e = c.in_ok-ordered.ensures ∙ ap (λ (s : ℕ). first_of (solve_tests g.st g.store g.order.now s)) c.least.ensures in
    let p = (solve_passed g.st g.store g.order.now k (sym e)).room.filled in
    let x = c.lower_held.ensures in
    record { value = x.value; failed = held_too g.st.held p (solve_tests g.st g.store g.order.now k) (held_test g.st ∷ []) refl e x.failed }
