use Prim.Native.Nat.{◌-◌}
use mathlib.Core.Path.{◌≡◌, sym, ap, ◌∙◌}
use native.Mathlib.Omega.{arith}
use lib.ListN.{length, take, drop}
use borrow.Rule.Slice.PartMut.{mid_len}
use mathlib.Core.List.{List}
use lib.Ieee.{Float}
use Rattle.leaves.proofs.Splices.{splice, lent}
use Rattle.leaves.proofs.pieces.copy_piece.Goals as goal

pub returns : goal.returns
returns c =
    let g = c.args in
    let s = g.dst.now in
    let h : length (take (g.e - g.a) (drop g.a g.src.now)) ≡ length (take (g.e - g.a) (drop g.a s)) =
    mid_len g.a g.e g.src.now (omega (arith, c.requires.src_len, c.requires.a_le_e.1)) ∙ sym (mid_len g.a g.e s c.requires.a_le_e.1) in
    let y = c.copy_from_slice.ensures.after in
    lent g.a g.e c.copy_from_slice.new.self s c.requires.a_le_e.0 ∙ ap (λ (l : List Float). splice g.a g.e l s) y
