use Rattle.std.proofs.Common.{rules}
use native.Mathlib.Omega.{arith}
use mathlib.Core.Path.{◌∙◌}
use mathlib.Core.List.{[], ◌∷◌, ◌++◌}
use lib.ListN.{length-append}
use Rattle.sheet.proofs.Texts.{lands, lands_next, behind}
use Rattle.text.specs.Put.{digits}
use Rattle.text.proofs.Places.{digits-length}
use Rattle.sheet.proofs.put.put_double.Goals as goal

pub returns : goal.returns
returns c =
    let g = c.args in
    let n = digits-length 16 16 c.bits_of.result in
    let a = lands (digits 16 16 c.bits_of.result) g.page.now.out.now g.page.now.at c.word.ensures.wrote (omega arith) in
    let b = lands_next (digits 16 16 c.bits_of.result) (10 ∷ []) g.page.now.out.now g.page.now.at a c.bytes.ensures.wrote (omega arith) in
    record { out_after = rw c.bits_of.ensures at b; value = behind (digits 16 16 c.bits_of.result ++ (10 ∷ [])) g.page.now.out.now g.page.now.at b ∙ rw (length-append, digits-length) (omega arith); same_out = search rules }
