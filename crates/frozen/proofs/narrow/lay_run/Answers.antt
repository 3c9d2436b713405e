use borrow.Author.Rules.{rules}
use lib.Ieee.{of_bits}
use Rattle.frozen.proofs.Spreads.{run_laid}
use Rattle.frozen.proofs.narrow.lay_run.Goals as goal

pub returns : goal.returns
unfolding of_bits
returns c =
    let g = c.args in
    run_laid g.src.now g.dst.now _ _ (search rules) c.copy_from_slice.ensures.after c.fill.ensures
