use mathlib.Core.Path.{◌≡◌, sym}
use mathlib.Core.Bool.{true, false}
use native.Mathlib.Omega.{arith}
use lib.Seq.{length-take-le}
use Rattle.factor.specs.Tests.{is_permutation}
use Rattle.calls.proofs.Counts.{failed_some, failed_none, none_permuted, is_permuted, not_permuted, order-refused, order_counted}
use Rattle.calls.proofs.check.is_order.Goals as goal
use Rattle.calls.proofs.check.is_order.Goals.{then-free-gt0+else-is_err, else-free-gt0}

pub returns-then-is_err : goal.returns-then-is_err
returns-then-is_err c =
    let g = c.args in
    let w : is_permutation g.free g.order.now ≡ false = not_permuted g.free g.order.now c.if-free-gt0.true (omega arith) (omega arith) (failed_some _ (sym c.if-is_err.ensures.value) c.permutation.ensures) in
    order-refused g.free g.n g.order.now w

pub slice_bounds-goes_on-end : goal.slice_bounds-goes_on-end
slice_bounds-goes_on-end c = sym (length-take-le c.args.n c.args.order.now c.requires.2)

pub goes_on-requires : goal.goes_on-requires
goes_on-requires c =
    let l = length-take-le c.args.n c.args.order.now c.requires.2 in
    omega arith

pub returns : goal.returns
returns c =
    let g = c.args in
    let w : is_permutation g.free g.order.now ≡ true = elim c.if-free-gt0.branch [
      | then-free-gt0+else-is_err w ↦ is_permuted g.free g.order.now w.if-free-gt0.true (omega arith) (omega arith) (failed_none _ (sym w.if-is_err.ensures.value) w.permutation.ensures)
      | else-free-gt0 w ↦ none_permuted g.free g.order.now w.if-free-gt0.false
    ] in
    order_counted g.free g.n g.order.now w c.goes_on.ensures
