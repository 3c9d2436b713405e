-- The parts of a store and the rest, as a caller above reads them once its own tests are passed. Assumes nothing.
use mathlib.Core.Path.{◌≡◌, sym, ap, ◌∙◌}
use mathlib.Core.List.{List}
use Prim.Native.Nat.{ℕ, ◌≤◌}
use native.Mathlib.Omega.{arith}
use lib.ListN.{length}
use lib.Ieee.{Float}
use borrow.Author.Tests.{le-ltb}
use Rattle.leaves.specs.Reply.{Reply, refused}
use Rattle.leaves.specs.Square.{diagonal}
use Rattle.leaves.specs.Tests.{first_of}
use Rattle.leaves.proofs.Squares.{diagonal-length}
use Rattle.leaves.proofs.Refusals.{call-worked}
use Rattle.factor.specs.State.{store_need}
use Rattle.factor.specs.Room.{load, lay, rested}
use Rattle.factor.specs.Tests.{tested}
use Rattle.factor.specs.Outcome.{Read, read, written_if}
use Rattle.factor.specs.Parts.{qtb_in, norms_in, diagonal_in, rest_in}
use Rattle.factor.proofs.Layouts.{load_shaped}
use Rattle.leaves.proofs.Insides.{Inside, within, one_row}
use Rattle.factor.proofs.Lends.{lent_passed, written_whole}
use Rattle.factor.specs.inner.Rooms.{Sized}

-- ---- a working's tests are passed where its caller's are
pub tests_passed : (m n : ℕ) (store : List Float) (shortest : ℕ) → Inside m n → Sized n store → n ≤ shortest → tested m n store shortest ≡ 0
unfolding first_of
tests_passed m n store shortest i z l = rw (within m n i, le-ltb (length store) (store_need n) z.fits, le-ltb shortest n l)

-- ---- a part that is copied whole
module _ {m n : ℕ} (i : Inside m n) (store w : List Float) (z : Sized n store) (h : length w ≡ n) where
  copied : (xs : List Float) → length xs ≡ n → {d : Reply (Unit {0})} {o : List Float} → read d o ≡ written_if (tested 1 n store (length w)) xs w → o ≡ xs
  copied xs l e =
      ap (λ (r : Read). r.out) (e ∙ lent_passed 1 n store w xs (tests_passed 1 n store (length w) (one_row i) z (omega arith)))
      ∙ written_whole xs w (l ∙ sym h)

  pub qtb_copied : {d : Reply (Unit {0})} {o : List Float} → read d o ≡ qtb_in n store w → o ≡ (load n store).qtb
  unfolding qtb_in
  qtb_copied e = copied (load n store).qtb (load_shaped n store z).qtb_long e

  pub norms-copied : {d : Reply (Unit {0})} {o : List Float} → read d o ≡ norms_in n store w → o ≡ (load n store).norms
  unfolding norms_in
  norms-copied e = copied (load n store).norms (load_shaped n store z).norms_long e

  pub diagonal-copied : {d : Reply (Unit {0})} {o : List Float} → read d o ≡ diagonal_in n store w → o ≡ diagonal (load n store).upper
  unfolding diagonal_in
  diagonal-copied e = copied (diagonal (load n store).upper) (diagonal-length 0 (load n store).upper ∙ (load_shaped n store z).upper_wide) e

-- ---- the rest
pub rested_by_lem : {m n : ℕ} → Inside m n → (store : List Float) → Sized n store → {d : Reply (Unit {0})} {s : List Float} → read d s ≡ rest_in n store
    → s ≡ lay (rested (load n store))
unfolding rest_in
rested_by_lem {m} {n} i store z e =
    ap (λ (r : Read). r.out) (e ∙ sym (call-worked _ (λ (k : ℕ). read (refused k) store) _ (tests_passed 1 n store n (one_row i) z (omega arith))))
