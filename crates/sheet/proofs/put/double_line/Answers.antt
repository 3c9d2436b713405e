use Rattle.std.proofs.Common.{rules}
use native.Mathlib.Omega.{arith}
use mathlib.Core.List.{[], ◌∷◌, ◌++◌}
use Rattle.sheet.proofs.Texts.{put-put, as_long, joined_2}
use Rattle.sheet.specs.Lines.{double}
use Rattle.sheet.proofs.put.double_line.Goals as goal

pub put_double-requires : goal.put_double-requires
put_double-requires c = omega (arith, as_long (c.args.name.now ++ (32 ∷ [])) _ _ c.put_name.ensures.out_after)

pub returns : goal.returns
returns c =
    let g = c.args in
    let a = put-put (g.name.now ++ (32 ∷ [])) (double g.x ++ (10 ∷ [])) g.page.now.out.now g.page.now.at c.put_name.ensures.out_after c.put_double.ensures.out_after in
    record { out_after = rw (joined_2 (g.name.now ++ (32 ∷ [])) (double g.x) (10 ∷ [])) at a; value = omega (arith, c.put_name.ensures.value, c.put_double.ensures.value); same_out = search rules }
