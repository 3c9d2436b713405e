use Rattle.std.proofs.Common.{rules}
use native.Mathlib.Omega.{arith}
use mathlib.Core.Path.{ap, ◌∙◌}
use mathlib.Core.List.{List, [], ◌∷◌, ◌++◌}
use lib.ListN.{length-append}
use Rattle.sheet.proofs.Texts.{lands_next, behind, as_long, put-put, decimal_short, joined_step}
use Rattle.text.specs.Put.{decimal_of}
use Rattle.sheet.specs.Lines.{step_word, double}
use Rattle.sheet.specs.inner.Handed.{put}
use Prim.Native.Nat.{ℕ}
use Rattle.sheet.proofs.put.step_line.Goals as goal

pub put_double-requires : goal.put_double-requires
unfolding step_word
put_double-requires c =
    let g = c.args in
    let name = step_word ++ (32 ∷ []) in
    let d = decimal_of g.i in
    let s = decimal_short g.i in
    let k = length-append name d in
    let a = lands_next name d g.page.now.out.now g.page.now.at c.put_name.ensures.out_after c.decimal.ensures.wrote (omega arith) in
    let b = lands_next (name ++ d) (32 ∷ []) g.page.now.out.now g.page.now.at a c.bytes.ensures.wrote (omega arith) in
    let e = behind ((name ++ d) ++ (32 ∷ [])) g.page.now.out.now g.page.now.at b in
    let f = length-append (name ++ d) (32 ∷ []) in
    omega (arith, as_long ((name ++ d) ++ (32 ∷ [])) g.page.now.out.now g.page.now.at b)

pub returns : goal.returns
unfolding step_word
returns c =
    let g = c.args in
    let name = step_word ++ (32 ∷ []) in
    let d = decimal_of g.i in
    let s = decimal_short g.i in
    let k = length-append name d in
    let a = lands_next name d g.page.now.out.now g.page.now.at c.put_name.ensures.out_after c.decimal.ensures.wrote (omega arith) in
    let b = lands_next (name ++ d) (32 ∷ []) g.page.now.out.now g.page.now.at a c.bytes.ensures.wrote (omega arith) in
    let e = behind ((name ++ d) ++ (32 ∷ [])) g.page.now.out.now g.page.now.at b in
    let f = length-append (name ++ d) (32 ∷ []) in
    let h = put-put ((name ++ d) ++ (32 ∷ [])) (double g.x ++ (10 ∷ [])) g.page.now.out.now g.page.now.at b c.put_double.ensures.out_after in
    record { out_after = h ∙ ap (λ (x : List ℕ). put x g.page.now.at g.page.now.out.now) (joined_step name (32 ∷ []) d (double g.x) (10 ∷ [])); upper_bound = omega (arith, c.put_double.ensures.value); same_out = search rules }
