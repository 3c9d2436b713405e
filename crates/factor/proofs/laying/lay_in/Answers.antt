use mathlib.Core.Path.{refl, ap, ◌∙◌}
use mathlib.Core.List.{List}
use lib.ListN.{length, set}
use lib.Ieee.{Float}
use Rattle.factor.proofs.Lays.{column_low, column_high}
use Rattle.factor.proofs.laying.lay_in.Goals as goal

pub returns-then-m-k : goal.returns-then-m-k
returns-then-m-k c =
    let g = c.args in
    c.lay_front.ensures ∙ column_low (length g.col.now) g.k (length g.out.now) g.col.now g.d refl c.if-m-k.true c.requires

pub returns : goal.returns
returns c =
    let g = c.args in
    ap (λ (l : List Float). set l g.k g.d) c.lay_front-2.ensures ∙ column_high (length g.col.now) g.k (length g.out.now) g.col.now g.d refl c.if-m-k.false c.requires
