use Rattle.std.proofs.Common.{rules}
use native.Mathlib.Omega.{arith}
use mathlib.Core.List.{[], ◌∷◌, ◌++◌}
use lib.ListN.{length-append}
use Rattle.sheet.proofs.Texts.{lands_next, behind, decimal_short}
use Rattle.text.specs.Put.{decimal_of}
use Rattle.sheet.proofs.put.number_line.Goals as goal

pub returns : goal.returns
returns c =
    let g = c.args in
    let name = g.name.now ++ (32 ∷ []) in
    let d = decimal_of g.n in
    let n = length-append g.name.now (32 ∷ []) in
    let s = decimal_short g.n in
    let k = length-append name d in
    let a = lands_next name d g.page.now.out.now g.page.now.at c.put_name.ensures.out_after c.decimal.ensures.wrote (omega arith) in
    let b = lands_next (name ++ d) (10 ∷ []) g.page.now.out.now g.page.now.at a c.bytes.ensures.wrote (omega arith) in
    let e = behind ((name ++ d) ++ (10 ∷ [])) g.page.now.out.now g.page.now.at b in
    let f = length-append (name ++ d) (10 ∷ []) in
    record { out_after = b; upper_bound = omega arith; same_out = search rules }
