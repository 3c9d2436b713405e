use Rattle.std.proofs.Common.{rules}
use native.Mathlib.Omega.{arith}
use mathlib.Core.Path.{◌∙◌}
use mathlib.Core.List.{[], ◌∷◌, ◌++◌}
use lib.ListN.{length-append}
use Rattle.sheet.proofs.Texts.{lands, lands_next, behind}
use Rattle.sheet.proofs.put.put_name.Goals as goal

pub returns : goal.returns
returns c =
    let g = c.args in
    let a = lands g.name.now g.page.now.out.now g.page.now.at c.bytes.ensures.wrote (omega arith) in
    let b = lands_next g.name.now (32 ∷ []) g.page.now.out.now g.page.now.at a c.bytes-2.ensures.wrote (omega arith) in
    record { out_after = b; value = behind (g.name.now ++ (32 ∷ [])) g.page.now.out.now g.page.now.at b ∙ rw length-append (omega arith); same_out = search rules }
