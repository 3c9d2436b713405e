-- A line out of the bytes that were read.
use Rattle.std.specs.Prelude.{ℕ, suc, ◌+◌, ◌%◌, ◌^◌, true, false, List, [], ◌∷◌, ◌==◌, slice_set}
use Rattle.lines.specs.declared.feed.Fed.{Fed}

-- of the bytes that stand from place i on: each goes to place k of the line's room, where it has that place, up to the end of the line
unfoldable pub fed_from : ℕ → ℕ → List ℕ → List ℕ → Fed × List ℕ
fed_from i k [] room = (record { next = i; fill = k; ended = false }, room)
fed_from i k (b ∷ bs) room =
    elim (b == 10) [
      | true ↦ (record { next = suc i; fill = k; ended = true }, room)
      | false ↦ fed_from (suc i) ((k + 1) % 2 ^ 64) bs (slice_set room k b)
    ]
