-- 01, 'Lent room': parts of a store for the crates above, which do not know where in it things stand: workings on numbers that are lent.
use Rattle.std.specs.Prelude.{ℕ, true, false, List, eqb, length, Float}
use Rattle.leaves.specs.Reply.{answered, refused}
use Rattle.leaves.specs.Square.{diagonal}
use Rattle.factor.specs.Room.{load, lay, rested}
use Rattle.factor.specs.Tests.{tested}
use Rattle.factor.specs.Outcome.{Read, read, written_if}

-- qt_b, the column norms and R's diagonal, each written to the first n of w
unfoldable pub qtb_in : ℕ → List Float → List Float → Read
qtb_in n store w = written_if (tested 1 n store (length w)) (load n store).qtb w

unfoldable pub norms_in : ℕ → List Float → List Float → Read
norms_in n store w = written_if (tested 1 n store (length w)) (load n store).norms w

unfoldable pub diagonal_in : ℕ → List Float → List Float → Read
diagonal_in n store w = written_if (tested 1 n store (length w)) (diagonal (load n store).upper) w

-- work +0 and nothing else changed
unfoldable pub rest_in : ℕ → List Float → Read
rest_in n store =
    let c = tested 1 n store n in
    elim (eqb c 0) [ true ↦ read (answered tt) (lay (rested (load n store))) | false ↦ read (refused c) store ]
