-- 01, module 7: how a run of the search ended, by a stop rule or at a place of refusal 8; and that a run stops by a rule only where it holds.
use Rattle.std.specs.Prelude.{◌⊎◌, ◌≡◌, true, Float}
use Rattle.std.proofs.Common.{inl, inr}
use Rattle.std.specs.Float.Ieee.{le, eq}
use Rattle.search.specs.Run.{Run, Stop, Place, stopped, last, trial, undamped, ten, within, falling, Trial}
use Rattle.search.specs.Run as run
use Rattle.leaves.specs.Number.{plus_zero, is_negative, abs_of}
use Rattle.search.specs.Problem.{Problem}
use Rattle.search.specs.Bounds.{band}

unfoldable pub ending : Run → Stop ⊎ Place
ending (stopped s) = inl s
ending (run.refused p) = inr p
ending (last t r) = ending r
ending (trial t fp r) = ending r

-- ---- the stop rules, of a run after a trial t with its fp and the fp before it
abbrev pub Ruled : Problem → Trial → Float → Float → Run → Type 0
Ruled p t fp previous (stopped undamped) = ⊥
Ruled p t fp previous (stopped ten) = ⊥
Ruled p t fp previous (stopped within) = le (abs_of fp) (band p.radius) ≡ true
Ruled p t fp previous (stopped falling) = (eq t.lower plus_zero ≡ true) × ((le fp previous ≡ true) × (is_negative previous ≡ true))
Ruled p t fp previous (run.refused q) = Unit {0}
Ruled p t fp previous (last u r) = Unit {0}
Ruled p t fp previous (trial u f r) = Ruled p u f fp r

-- and before its first trial
abbrev pub RuledFrom : Problem → Float → Run → Type 0
RuledFrom p fp (stopped x) = ⊥
RuledFrom p fp (run.refused q) = Unit {0}
RuledFrom p fp (last u r) = Unit {0}
RuledFrom p fp (trial u f r) = Ruled p u f fp r
