-- How many trials a run made. No statement of a demand cites it: an answer says it itself.
use Rattle.std.specs.Prelude.{ℕ, suc}
use Rattle.search.specs.Run.{Run, stopped, last, trial}
use Rattle.search.specs.Run as run

unfoldable pub trial_count : Run → ℕ
trial_count (stopped s) = 0
trial_count (run.refused p) = 0
trial_count (last t r) = suc (trial_count r)
trial_count (trial t fp r) = suc (trial_count r)
