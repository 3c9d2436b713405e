use mathlib.Core.Path.{ap, ◌∙◌}
use Prim.Native.Nat.{ℕ}
use Rattle.factor.specs.Factoring.{transformed}
use Rattle.factor.proofs.store.Bench.take_rhs.Goals as goal

pub returns : goal.returns
returns c =
    let b = c.args.self in
    c.lay_rhs.ensures ∙ ap (λ (l : ℕ). transformed l c.column.result.now) c.requires ∙ ap (transformed b.n) c.column.ensures.value
