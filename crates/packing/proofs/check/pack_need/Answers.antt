use borrow.Author.Rules.{rules}
use Rattle.packing.proofs.Corners.{triangle_small}
use Rattle.packing.proofs.check.pack_need.Goals as goal

pub overflow_mul-result : goal.overflow_mul-result
overflow_mul-result c = let t = triangle_small c.args.n c.requires in search rules

pub overflow_add-result-2 : goal.overflow_add-result-2
overflow_add-result-2 c = let t = triangle_small c.args.n c.requires in search rules
