-- 01, 'Lent room and what stays in it': 'After factoring: the square has R on and above its diagonal, +0 below; l_diag is +0'; work is
-- +0; and no number of R, of qt_b or of the column norms is other than finite, for such a factoring is refused 8. `proofs/Answered.antt`
-- proves it of every answered factoring.
use Rattle.std.specs.Prelude.{ℕ, ◌≡◌, true}
use Rattle.factor.specs.Room.{Room}
use Rattle.leaves.specs.Square.{zeros}
use Rattle.leaves.specs.Tests.{all_finite}
use Rattle.factor.specs.Factoring.{no_lower, all_finite_in}

pub record AsFactored (n : ℕ) (r : Room) : Type 0 where
  pub below_zero : r.below ≡ no_lower n
  pub ldiag_zero : r.ldiag ≡ zeros n
  pub work_zero : r.work ≡ zeros n
  pub upper_finite : all_finite_in r.upper ≡ true
  pub qtb_finite : all_finite r.qtb ≡ true
  pub norms_finite : all_finite r.norms ≡ true
