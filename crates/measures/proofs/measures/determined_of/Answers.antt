use mathlib.Core.Path.{ap, ◌∙◌}
use mathlib.Core.Bool.{Bool}
use lib.ListN.{length, take}
use lib.Ieee.{Float, lt}
use Rattle.std.proofs.Common.{rules, tests}
use Rattle.std.proofs.lemmas.Iterator.{YieldsList-from_slice, YieldsList-from_take}
use Rattle.std.proofs.lemmas.Iterator.Consumers.{YieldsList-at, count_from_yields_List}
use Rattle.std.proofs.lemmas.Iterator.Search.{YieldsList-from_take_while}
use Rattle.leaves.specs.Number.{abs_of}
use Rattle.measures.specs.Determined.{leading}
use Rattle.measures.proofs.measures.Determineds.{leading_is}
use Rattle.measures.proofs.measures.determined_of.Goals as goal

pub returns : goal.returns
returns c =
    let g = c.args in
    let l = c.limit_of-limit.result in
    let ds = take g.m g.diag.now in
    let above : Float → Bool = λ d. lt l (abs_of d) in
    let places = YieldsList-at c.take_while.ensures.source (YieldsList-from_take g.m (YieldsList-from_slice g.diag.now (cc)) c.take.ensures.count) in
    count_from_yields_List c.take_while.result _ c.count.ensures.ran (YieldsList-from_take_while _ above places c.take_while.ensures.closure c.take_while.ensures.done (λ x b q k. search (rules, tests)))
    ∙ ap length (leading_is l ds)
    ∙ ap (λ (x : Float). length (leading x ds)) c.limit_of-limit.ensures
