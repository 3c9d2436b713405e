use Rattle.std.proofs.Common.{◌≡◌, ◌-◌}
use Rattle.text.specs.Put.{places_from, places_of}
use Rattle.text.proofs.put.places.Given as goal

abbrev pub invariant-loop-k : goal.invariant-loop-k
invariant-loop-k l = places_from (20 - l.k) l.base l.k l.rest ≡ places_of l.base l.n
