-- A hex number out of a line. A turn takes one byte: it stops with an answer, or goes on with the number so far.
use Rattle.std.specs.Prelude.{ℕ, suc, ◌+◌, ◌*◌, ◌^◌, cond, Option, Some, None, List, [], ◌∷◌, eqb, leb}
use Rattle.text.specs.declared.read.Found.{Found}
use Rattle.text.specs.Digit.{digit_of}

-- of a number that began at place `at` and ends at place i; with no digit it is refused
unfoldable pub number_ends : ℕ → ℕ → ℕ → Option Found
number_ends at v i = cond (eqb i at) None (Some (record { value = v; next = i }))

-- at a byte that is no digit: a space and the end of a line end the number
unfoldable pub stopped : ℕ → ℕ → ℕ → ℕ → Option Found
unfolding number_ends
stopped at v i b = cond (eqb b 32) (number_ends at v i) (cond (eqb b 10) (number_ends at v i) None)

pub data DigitTurn : Type 0 where
  stop : Option Found → DigitTurn
  go : ℕ → DigitTurn

-- one more digit, unless the number would not fit 64 bits
abbrev pub more : ℕ → ℕ → DigitTurn
more v k = cond (leb (2 ^ 60) v) (stop None) (go (v * 16 + k))

abbrev pub by_digit : ℕ → ℕ → ℕ → ℕ → Option ℕ → DigitTurn
by_digit at v i b (Some k) = more v k
by_digit at v i b None = stop (stopped at v i b)

unfoldable pub turn : ℕ → ℕ → ℕ → ℕ → DigitTurn
unfolding stopped digit_of
turn at v i b = by_digit at v i b (digit_of b)

abbrev pub go_on : (ℕ → Option Found) → DigitTurn → Option Found
go_on f (stop r) = r
go_on f (go v) = f v

-- of what stands from place i on, with the number v so far
unfoldable pub read_from : ℕ → ℕ → ℕ → List ℕ → Option Found
unfolding number_ends turn
read_from at v i [] = number_ends at v i
read_from at v i (b ∷ bs) = go_on (λ w. read_from at w (suc i) bs) (turn at v i b)
