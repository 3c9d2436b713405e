use mathlib.Core.Path.{◌≡◌}
use lib.ListN.{take, drop}
use Rattle.leaves.specs.Product.{product_all}
use Rattle.factor.specs.Solve.{gather, scatter}
use Rattle.search.proofs.vectors.place_scaled.Given as goal

abbrev pub invariant-loop-k : goal.invariant-loop-k
invariant-loop-k l = scatter (drop l.k (take l.order.n l.order.places.now)) (drop l.k (product_all l.w (gather (take l.order.n l.order.places.now) l.diag))) l.v ≡ scatter (take l.order.n l.order.places.now) (product_all l.w (gather (take l.order.n l.order.places.now) l.diag)) l.initial.v
