use Prim.Native.Nat.{◌-◌, ◌≤◌}
use mathlib.Core.Path.{◌≡◌}
use Rattle.leaves.specs.Norm.{either, ranges_of}
use Rattle.factor.specs.Room.{emptied}
use Rattle.search.specs.Run.{trials_from}
use Rattle.search.specs.Measured.{measured_trials}
use Rattle.search.specs.Search.{concluded}
use Rattle.search.specs.inner.Read.{unanswered, next_of}
use Rattle.search.specs.inner.Asked.{asked, room, Kept}
use Rattle.search.proofs.lent.TrustRegion.trials.Given as goal

abbrev pub invariant-turns : goal.invariant-turns
invariant-turns l = record {
  few : l.t ≤ 9;
  kept : Kept l.initial.self l.self;
  room : emptied (room l.self) ≡ emptied (room l.initial.self);
  same : concluded l.t unanswered (trials_from (asked l.initial.self) (9 - l.t) (next_of l.s)) ≡ concluded 0 unanswered (trials_from (asked l.initial.self) 9 (next_of l.initial.s));
  seen : either l.s.seen (ranges_of (measured_trials (asked l.initial.self) (trials_from (asked l.initial.self) (9 - l.t) (next_of l.s)))) ≡ either l.initial.s.seen (ranges_of (measured_trials (asked l.initial.self) (trials_from (asked l.initial.self) 9 (next_of l.initial.s))));
}

abbrev pub decreases-turns : goal.decreases-turns
decreases-turns l = 9 - l.t
