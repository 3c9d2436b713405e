-- `root::pattern` meets its contract: v by the parity of z + 969, and the sum of field and digits. Assumes nothing.
use mathlib.Core.Path.{sym, ap, ◌∙◌}
use Prim.Native.Nat.{ℕ, ◌*◌, ◌^◌}
use Rattle.leaves.specs.inner.Parts.{magnitude}
use Rattle.leaves.proofs.root.Scaled.{shifted_even, shifted_odd, packs}
use Rattle.leaves.proofs.root.pattern.Goals as goal
use Rattle.leaves.proofs.root.pattern.Goals.{then-j-e, else-j-e}

pub returns : goal.returns
returns c =
    let n = magnitude c.args.b in
    let r = c.split-n.result in
    let v = c.if-j-e.v in
    packs n r.t r.z c.split-n.ensures v c.near_root.result
    (elim c.if-j-e.branch [
      | then-j-e w ↦ shifted_even n r.t r.z c.split-n.ensures w.if-j-e.true ∙ ap (λ (x : ℕ). x * 2 ^ 52) (sym w.v-is)
      | else-j-e w ↦ shifted_odd n r.t r.z c.split-n.ensures w.if-j-e.false ∙ ap (λ (x : ℕ). x * 2 ^ 52) (sym w.v-is)
    ])
    c.near_root.ensures.0
