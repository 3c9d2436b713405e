use mathlib.Core.Path.{sym}
use borrow.Author.Rules.{rules}
use lib.Seq.{length-take-le}
use Rattle.factor.specs.State.{store_need}
use Rattle.calls.proofs.Leavings.{cleared_first}
use Rattle.calls.proofs.pivoted_qr.wipe.Goals as goal

pub slice_bounds-clear_long-end-2 : goal.slice_bounds-clear_long-end-2
slice_bounds-clear_long-end-2 c = let e = c.store_need-need.ensures in sym (length-take-le _ _ (search rules))

pub returns : goal.returns
returns c =
    let g = c.args in
    cleared_first (store_need g.n) _ g.store.now _ c.store_need-need.ensures c.requires.1 c.clear_long.ensures
