use Rattle.std.proofs.Common.{rules, refl}
use Rattle.text.specs.Put.{places_of}
use Rattle.text.proofs.Places.{places-stop, places_go, places-end}
use Rattle.text.proofs.put.places.Goals as goal

pub loop-k-init : goal.loop-k-init
unfolding places_of
loop-k-init c = refl

pub returns-then-rest-base : goal.returns-then-rest-base
returns-then-rest-base c = let l = c.loop-k in (places-stop _ _ _ _ c.loop-k-test.true c.if-rest-base.true l.invariant, search rules)

pub loop-k-preserved : goal.loop-k-preserved
loop-k-preserved c = let l = c.loop-k in places_go _ _ _ _ c.loop-k-test.true c.if-rest-base.false l.invariant

pub returns : goal.returns
returns c = let l = c.loop-k in (places-end _ _ l.rest (search rules) l.invariant, search rules)
