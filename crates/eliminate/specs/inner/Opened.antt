-- One name for every definition of the leaves and of this crate, so that a table of examples says `unfolding opened` and computes with them.
use Rattle.leaves.specs.inner.Opened.{opened as leaves}
use Rattle.eliminate.specs.Eliminate.{lesser, by_cot, by_tan, givens, turned, left, turned_all, left_all, rotated, started, eliminated, rows_from, damping, heads, tails}
use Rattle.eliminate.specs.Eliminated.{eliminate_call}

unfoldable pub opened : Unit {0}
unfolding leaves lesser by_cot by_tan givens turned left turned_all left_all rotated started eliminated rows_from damping heads tails eliminate_call
opened = tt
