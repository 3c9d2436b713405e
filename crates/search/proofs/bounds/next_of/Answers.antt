use mathlib.Core.Path.{sym, ◌∙◌}
use Rattle.search.specs.inner.Read.{bare}
use Rattle.search.proofs.Numbers.{next_falls, next_rises}
use Rattle.search.proofs.bounds.next_of.Goals as goal

pub returns-then-is_negative : goal.returns-then-is_negative
returns-then-is_negative c =
    let g = c.args in
    let falls = next_falls (bare g.s g.lambda) g.fp g.correction.value (sym c.is_negative.ensures ∙ c.if-is_negative.true) in
    record { result_value = rw (c.min.ensures, c.max.ensures) falls; seen_value = c.either-all.ensures }

pub returns : goal.returns
returns c =
    let g = c.args in
    let rises = next_rises (bare g.s g.lambda) g.fp g.correction.value c.max-lower.ensures (sym c.is_negative.ensures ∙ c.if-is_negative.false) in
    record { result_value = rw c.max-2.ensures rises; seen_value = c.either-all.ensures }
