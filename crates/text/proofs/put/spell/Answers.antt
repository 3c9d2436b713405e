use Rattle.std.proofs.Common.{ap, ◌∙◌}
use Rattle.text.specs.Digit.{glyph}
use Rattle.text.proofs.Places.{put_turn, put-end, mod_small}
use Rattle.text.proofs.put.spell.Goals as goal

pub loop-i-preserved : goal.loop-i-preserved
loop-i-preserved c =
    let l = c.loop-i in
    put_turn _ _ _ _ l.out _ _ c.loop-i-test.true (c.capital.ensures ∙ ap glyph (mod_small l.rest _ c.requires.base_nonzero.0 c.requires.base_nonzero.1)) l.invariant

pub returns : goal.returns
returns c = let l = c.loop-i in put-end _ _ _ _ l.out _ c.loop-i-test.false l.invariant
