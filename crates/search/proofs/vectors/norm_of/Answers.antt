use mathlib.Core.Path.{◌≡◌, ap}
use Rattle.std.specs.Prelude.{is_ok}
use Rattle.leaves.specs.Norm.{norm, ranges}
use Rattle.leaves.specs.declared.norm.Normed.{Normed}
use Rattle.leaves.proofs.Norms.{enorm_fits}
use Rattle.search.proofs.vectors.norm_of.Goals as goal

pub unwrap-requires : goal.unwrap-requires
unwrap-requires c = ap is_ok (enorm_fits c.args.v.now c.enorm.result c.requires c.enorm.ensures)

pub returns : goal.returns
returns c =
    let v = c.args.v.now in
    let f = enorm_fits v c.enorm.result c.requires c.enorm.ensures in
    let e : c.unwrap.result ≡ record { value = norm v; seen = ranges v } = cc in
    record { value_value = ap (λ (s : Normed). s.value) e; seen_value = ap (λ (s : Normed). s.seen) e }
