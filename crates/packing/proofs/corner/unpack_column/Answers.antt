use borrow.Author.Rules.{rules}
use lib.Ieee.{of_bits}
use Rattle.frozen.proofs.Spreads.{run_laid}
use Rattle.packing.proofs.corner.unpack_column.Goals as goal

pub returns : goal.returns
unfolding of_bits
returns c =
    let g = c.args in
    run_laid g.src.now g.column.now _ _ (search rules) c.copy_from_slice.ensures.after c.fill.ensures
