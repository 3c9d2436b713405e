use Prim.Native.Nat.{◌≤◌}
use mathlib.Core.Path.{ap, ◌∙◌}
use native.Mathlib.Omega.{arith}
use lib.ListN.{length}
use Rattle.std.specs.Prelude.{is_ok}
use Rattle.leaves.specs.Norm.{norm, ranges}
use Rattle.leaves.proofs.Norms.{enorm_fits}
use Rattle.measures.proofs.Asked.{norm_taken}
use Rattle.measures.proofs.scaling.scaled_norm.Goals as goal

pub unwrap-requires : goal.unwrap-requires
unwrap-requires c =
    let w = c.product_into.new.w in
    let h : length w ≤ 128 = omega (arith, c.product_into.auto.w, c.requires.w_len_bound) in
    ap is_ok (enorm_fits w c.enorm.result h c.enorm.ensures)

pub returns : goal.returns
returns c =
    let w = c.product_into.new.w in
    let h : length w ≤ 128 = omega (arith, c.product_into.auto.w, c.requires.w_len_bound) in
    let t = norm_taken w c.enorm.result h c.enorm.ensures c.unwrap.ensures in
    let e = c.product_into.ensures in
    record { value_value = t.0 ∙ ap norm e; seen_value = t.1 ∙ ap ranges e }
