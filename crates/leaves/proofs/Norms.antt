-- One turn of the norm's loop, and its ends, as laws. Assumes nothing.
use mathlib.Core.Path.{◌≡◌, refl, sym, subst, ◌∙◌}
use mathlib.Core.Bool.{true}
use mathlib.Core.List.{List}
use Prim.Native.Nat.{ℕ, ◌+◌, ◌<◌, ◌≤◌}
use native.Mathlib.Numerals.{add-one}
use lib.Dec.{T}
use lib.ListN.{length, get_or, drop, drop_of_length-le}
use lib.Seq.{drop-cons}
use lib.Ieee.{Float, nan, ne, lt, le, eq, round}
use lib.Ieee.Compare.{differs_from_itself}
use Rattle.std.specs.Prelude.{Result, Ok}
use Rattle.leaves.specs.Reply.{answered, refused, measured_of}
use Rattle.leaves.specs.declared.reply.Refusal.{Refusal}
use Rattle.leaves.specs.declared.norm.Normed.{Normed}
use Rattle.leaves.proofs.Replies.{measured_of-same}
use Rattle.leaves.specs.Number.{abs_of}
use Rattle.leaves.specs.Norm.{rdwarf, agiant, large, add_in, step, accumulate, none, finish, norm, ranges, enorm}
use Rattle.leaves.specs.declared.norm.Sums.{Sums}
use borrow.Author.Tests.{le-leb, lt-leb}

pub accumulate_step : (g : Float) (t : Sums) (v : List Float) (i : ℕ) → i < length v → accumulate g (step g t (get_or v i nan)) (drop (i + 1) v) ≡ accumulate g t (drop i v)
unfolding accumulate
accumulate_step g t v i h = rw (add-one, drop-cons v i nan h)

pub accumulate-end : (g : Float) (t : Sums) (v : List Float) (i : ℕ) → length v ≤ i → accumulate g t (drop i v) ≡ t
unfolding accumulate
accumulate-end g t v i h = rw (drop_of_length-le v {i = i} h)

pub enorm-refused : (v : List Float) → 128 < length v → refused 2 ≡ enorm v
unfolding enorm
enorm-refused v h = rw (lt-leb (length v) 128 h, enorm)

pub enorm_is : (v : List Float) → length v ≤ 128 → answered (norm v, ranges v) ≡ enorm v
unfolding enorm
enorm_is v h = rw (le-leb (length v) 128 h, enorm)

-- a norm of at most 128 numbers is never refused
pub enorm_fits : (v : List Float) (r : Result Normed Refusal) → length v ≤ 128 → measured_of r ≡ enorm v → r ≡ Ok (record { value = norm v; seen = ranges v })
enorm_fits v r h e = measured_of-same r (Ok (record { value = norm v; seen = ranges v })) (e ∙ sym (enorm_is v h))

pub norm_is : (v : List Float) (g : Float) (t : Sums) → g ≡ agiant (length v) → t ≡ accumulate g none v → finish t ≡ norm v
unfolding norm
norm_is v g t e h = rw (h, e, norm)

-- a NaN goes to the large entries
pub nan_step : (g : Float) (t : Sums) (x : Float) {r : Sums} → ne x x ≡ true → r ≡ large t x → r ≡ step g t x
unfolding add_in abs_of rdwarf round lt le eq
nan_step g t x h e = let n : x ≡ nan = differs_from_itself x (subst T (sym h) tt) in e ∙ rw n refl
