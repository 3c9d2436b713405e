-- The words of a line, one space apart.
use Rattle.std.specs.Prelude.{ℕ, zero, suc, ◌+◌, cond, Option, Some, None, Result, Ok, Err, List, length, drop, ◌==◌, from_bits, nat_lt, slice_index, slice_set, Float}
use Rattle.std.specs.Float.{binary64}
use Rattle.text.specs.Read.{read_from}
use Rattle.text.specs.declared.read.Found.{Found}
use Rattle.lines.specs.declared.scan.Number.{Number}
use Rattle.lines.specs.declared.scan.Span.{Span}
use Rattle.lines.specs.declared.scan.Unread.{Unread}
use Rattle.lines.specs.declared.scan.Unread.TheVariants.{Bad, Large}

-- the place after one space
unfoldable pub past : List ℕ → ℕ → ℕ
past s i = cond (slice_index s i == 32) (i + 1) i

abbrev pub number_of : List ℕ → Option Found → Option Number
number_of s (Some f) = Some (record { value = f.value; next = past s f.next })
number_of s None = None

-- the number at a place, and the place of the word after it
unfoldable pub word_at : List ℕ → ℕ → Option Number
word_at s at = number_of s (read_from at 0 at (drop at s))

-- the last k of len doubles, from place i of the room on; a word that does not read leaves those before it in the room
unfoldable pub rest_from : List ℕ → ℕ → ℕ → ℕ → ℕ → List Float → Result Span Unread × List Float
rest_from s len zero i next room = (Ok (record { len = len; next = next }), room)
rest_from s len (suc k) i next room =
    elim (word_at s next) [
      | Some w ↦ rest_from s len k (suc i) w.next (slice_set room i (from_bits binary64 w.value))
      | None ↦ (Err Bad, room)
    ]

-- len doubles into a room that holds as many
unfoldable pub doubles_at : List ℕ → ℕ → ℕ → List Float → Result Span Unread × List Float
doubles_at s at len room = cond (nat_lt (length room) len) (Err Large, room) (rest_from s len len 0 at room)

-- a length, and as many doubles
unfoldable pub vector_at : List ℕ → ℕ → List Float → Result Span Unread × List Float
vector_at s at room = elim (word_at s at) [ Some n ↦ doubles_at s n.next n.value room | None ↦ (Err Bad, room) ]
