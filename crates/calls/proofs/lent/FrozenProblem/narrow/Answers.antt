use mathlib.Core.Path.{ap, ◌∙◌}
use Prim.Native.Nat.{ℕ}
use lib.Seq.{take_at}
use Rattle.std.specs.Prelude.{is_ok}
use Rattle.frozen.specs.Narrowed.{narrowed}
use Rattle.factor.specs.State.{store_need}
use Rattle.calls.proofs.Ways.{narrow-worked, first_places}
use Rattle.calls.proofs.lent.FrozenProblem.narrow.Goals as goal

pub unwrap-requires : goal.unwrap-requires
unwrap-requires c =
    let n = c.need-need.ensures in
    ap is_ok (narrow-worked c.args.self.now.reducible _ _ _ (first_places c.args.small.now c.told-small n.fits n.value) c.narrow.ensures).0

pub returns : goal.returns
returns c =
    let p = c.args.self.now in
    let n = c.need-need.ensures in
    let l = first_places c.args.small.now c.told-small n.fits n.value in
    let w = narrow-worked p.reducible _ _ _ l c.narrow.ensures in
    take_at c.narrow.new.small _ (store_need p.free) (c.narrow.auto.small ∙ l) ∙ w.1 ∙ ap (λ (k : ℕ). narrowed p.st.n k p.store.now) p.reducible.counted
