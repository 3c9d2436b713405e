use Rattle.std.proofs.Common.{◌≡◌, ap, arith, sym, ◌∙◌}
use Rattle.text.specs.Read.{number_ends}
use Rattle.text.proofs.read.Reading.{is_small_lem, number_stop, number_over, number_go, number_end}
use Rattle.text.proofs.read.number.Goals as goal

pub returns-in_default : goal.returns-in_default
returns-in_default c =
    let l = c.loop-i in
    number_stop _ _ l.v l.i _ _ c.loop-i-test.true (sym c.value.ensures ∙ c.in_default.is) c.stop.ensures l.invariant.1

pub returns-then-v-ge1152921504606846976 : goal.returns-then-v-ge1152921504606846976
returns-then-v-ge1152921504606846976 c =
    let l = c.loop-i in
    number_over _ _ l.v l.i _ _ c.loop-i-test.true (sym c.value.ensures ∙ c.in-Some.is) c.if-v-ge1152921504606846976.true l.invariant.1

pub overflow_add-v : goal.overflow_add-v
overflow_add-v c = omega (arith, is_small_lem _ _ (sym c.value.ensures ∙ c.in-Some.is))

pub loop-i-preserved : goal.loop-i-preserved
loop-i-preserved c =
    let l = c.loop-i in
    (omega arith, number_go _ _ l.v l.i _ _ c.loop-i-test.true (sym c.value.ensures ∙ c.in-Some.is) c.if-v-ge1152921504606846976.false l.invariant.1)

pub returns : goal.returns
returns c =
    let l = c.loop-i in
    let e : c.max.result ≡ l.i = omega arith in
    number_end _ _ l.v l.i _ _ c.loop-i-test.false (c.end.ensures ∙ ap (number_ends c.args.at l.v) e) l.invariant.1
