-- What another function answers: handed on where it refuses, taken where it cannot. Assumes nothing.
use mathlib.Core.Path.{◌≡◌, sym, ap, ◌∙◌}
use mathlib.Core.List.{List}
use Prim.Native.Nat.{ℕ, ◌≤◌}
use native.Mathlib.Omega.{arith}
use lib.ListN.{length}
use lib.Ieee.{Float}
use Rattle.std.specs.Prelude.{Result, Ok, is_ok}
use Rattle.std.specs.Result.{IsOk, IsErrAnd}
use Rattle.std.proofs.lemmas.Result.{err_from_is_err_and}
use Rattle.leaves.specs.Reply.{refused, refusal_number, reply_of, measured_of, failed_by}
use Rattle.leaves.specs.declared.reply.Refusal.{Refusal}
use Rattle.leaves.specs.declared.norm.Ranges.{Ranges}
use Rattle.leaves.specs.declared.norm.Normed.{Normed}
use Rattle.leaves.specs.Norm.{norm, ranges, enorm}
use Rattle.leaves.specs.Square.{diagonal}
use Rattle.leaves.specs.Vector.{dot_of, dot}
use Rattle.leaves.proofs.Folds.{dot_is}
use Rattle.leaves.proofs.Insides.{Inside, one_row}
use Rattle.leaves.proofs.Norms.{enorm_is}
use Rattle.leaves.proofs.Refusals.{call-worked}
use Rattle.leaves.proofs.Replies.{answered-same, reply_of-ok}
use Rattle.factor.specs.Room.{load}
use Rattle.factor.specs.Tests.{tested}
use Rattle.factor.specs.Outcome.{Read, read, written_if}
use Rattle.factor.specs.Parts.{qtb_in, norms_in, diagonal_in, rest_in}
use Rattle.factor.specs.inner.Rooms.{Sized}
use Rattle.factor.proofs.Copied.{tests_passed}
use Rattle.factor.proofs.Lends.{lent_passed}

-- ---- what a `?` hands on
pub handed_on : {A : Type 0} (r : Result A Refusal) (j : Refusal) → IsErrAnd r (λ e. e ≡ j) → failed_by r ≡ refusal_number j
handed_on r j h = let p = err_from_is_err_and r h in ap failed_by p.1 ∙ ap refusal_number p.2

-- ---- what a leaf gave, on lengths that fit
pub dot_taken : (xs ys : List Float) (r : Result Float Refusal) {d : Float} → length xs ≡ length ys → reply_of r ≡ dot xs ys → r ≡ Ok d → d ≡ dot_of xs ys
dot_taken xs ys r h e u = answered-same (ap reply_of (sym u) ∙ e ∙ sym (dot_is xs ys h))

pub norm_taken : (v : List Float) (r : Result Normed Refusal) {t : Normed} → length v ≤ 128 → measured_of r ≡ enorm v → r ≡ Ok t
    → (t.value ≡ norm v) × (t.seen ≡ ranges v)
norm_taken v r h e u =
    let p = answered-same (ap measured_of (sym u) ∙ e ∙ sym (enorm_is v h)) in
    (ap (λ (x : Float × Ranges). x.0) p, ap (λ (x : Float × Ranges). x.1) p)

-- ---- a part of a store is never refused where the caller's tests are passed
module _ {m n : ℕ} (i : Inside m n) (store w : List Float) (z : Sized n store) (h : length w ≡ n) (r : Result (Unit {0}) Refusal) {o : List Float} where
  granted : (xs : List Float) → read (reply_of r) o ≡ written_if (tested 1 n store (length w)) xs w → IsOk r
  granted xs e =
      let p = tests_passed 1 n store (length w) (one_row i) z (omega arith) in
      ap is_ok (reply_of-ok r (ap (λ (t : Read). t.reply) (e ∙ lent_passed 1 n store w xs p)))

  pub qtb_granted : read (reply_of r) o ≡ qtb_in n store w → IsOk r
  unfolding qtb_in
  qtb_granted e = granted (load n store).qtb e

  pub norms-granted : read (reply_of r) o ≡ norms_in n store w → IsOk r
  unfolding norms_in
  norms-granted e = granted (load n store).norms e

  pub diagonal-granted : read (reply_of r) o ≡ diagonal_in n store w → IsOk r
  unfolding diagonal_in
  diagonal-granted e = granted (diagonal (load n store).upper) e

-- nor is the rest
pub rest_granted : {m n : ℕ} → Inside m n → (store : List Float) → Sized n store → (r : Result (Unit {0}) Refusal) {s : List Float}
    → read (reply_of r) s ≡ rest_in n store → IsOk r
unfolding rest_in
rest_granted {n = n} i store z r e =
    let p = tests_passed 1 n store n (one_row i) z (omega arith) in
    ap is_ok (reply_of-ok r (ap (λ (t : Read). t.reply) (e ∙ sym (call-worked _ (λ (k : ℕ). read (refused k) store) _ p))))
