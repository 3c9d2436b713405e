use Rattle.std.proofs.Common.{arith, refl, sym, take, append_assoc, ◌∙◌}
use Rattle.std.proofs.lemmas.List.Edits.{paste_all, sets-eq}
use Rattle.std.proofs.lemmas.Slice.{put_mid-paste}
use Rattle.text.proofs.put.copy.Goals as goal

pub returns : goal.returns
returns c =
    let g = c.args in
    put_mid-paste _ _ _ _ _ _ c.copy_from_slice.ensures.after (omega arith) refl ∙ (paste_all g.out.now g.at g.src.now _ refl ∙ sym (sets-eq g.src.now g.out.now g.at c.requires ∙ append_assoc (take g.at g.out.now) g.src.now _))
