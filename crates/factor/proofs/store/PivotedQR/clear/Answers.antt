use Prim.Native.Nat.{◌+◌, ◌*◌, ℕ}
use mathlib.Core.Path.{refl, ap, ◌∙◌}
use mathlib.Core.List.{List, ◌++◌}
use lib.ListN.{drop}
use lib.Seq.{length-take-le}
use lib.Ieee.{Float, of_bits}
use Rattle.leaves.specs.Loop.{count_from}
use Rattle.leaves.specs.Square.{zeros}
use Rattle.factor.proofs.store.PivotedQR.clear.Goals as goal

pub returns : goal.returns
unfolding of_bits
returns c =
    let g = c.args.self.now in
    let k = g.n * g.n + 4 * g.n in
    record { same = record { rows = refl; across = refl; store = refl; order = refl; bench = refl }; bench_unchanged = refl; store_after = ap (λ (l : List Float). l ++ drop k g.store.now) (c.fill.ensures ∙ ap zeros (length-take-le k g.store.now g.store_long)); order_after = ap (λ (l : List ℕ). l ++ drop g.n g.order.now) (c.count.ensures ∙ ap (λ (i : ℕ). count_from i 0) (length-take-le g.n g.order.now g.order_long)) }
