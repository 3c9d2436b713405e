-- Workings on numbers that are lent, by their tests and by what is worked on the slices. Assumes nothing.
use mathlib.Core.Path.{◌≡◌, sym, ap, ◌∙◌}
use mathlib.Core.List.{List, ◌++◌, append-nil}
use Prim.Native.Nat.{ℕ, ◌<◌, ◌≤◌, min}
use native.Mathlib.Omega.{arith}
use lib.ListN.{length, take, drop, drop_of_length-le}
use lib.Seq.{length-take-le}
use lib.Ieee.{Float}
use Rattle.leaves.specs.Reply.{answered, refused, refusal_number}
use Rattle.leaves.specs.declared.reply.Refusal.{Refusal}
use Rattle.leaves.proofs.Refusals.{call-worked}
use Rattle.factor.specs.Tests.{tested}
use Rattle.factor.specs.Outcome.{written, read, written_if}
use Rattle.factor.proofs.Answers.{refused_by}
use Rattle.factor.proofs.Passed.{Fit, sizes_passed, fit_sized}
use Rattle.factor.specs.inner.Rooms.{Sized}

-- ---- what the tests tell
pub tested_at : (m n : ℕ) (store : List Float) {c j k : ℕ} → c ≡ tested m n store j → j ≡ k → c ≡ tested m n store k
tested_at m n store e h = e ∙ ap (λ (k : ℕ). tested m n store k) h

module _ (m n : ℕ) (store : List Float) (shortest : ℕ) (e : 0 ≡ tested m n store shortest) where
  pub fit : Fit m n (length store) shortest
  fit = sizes_passed m n store shortest (sym e)

  pub cols_some : 0 < n
  cols_some = fit.sizes.cols_some

  pub cols_few : n ≤ 16
  cols_few = fit.sizes.cols_few

  pub store_sized : Sized n store
  store_sized = fit_sized m n store shortest fit

  pub each_long : n ≤ shortest
  each_long = fit.each_long

-- the first n of a slice that passed is n long
pub front_long : (m n : ℕ) (store w : List Float) → 0 ≡ tested m n store (length w) → length (take n w) ≡ n
front_long m n store w e = length-take-le n w (each_long m n store (length w) e)

-- and of two
module _ (m n : ℕ) (store ds w : List Float) (e : 0 ≡ tested m n store (min (length ds) (length w))) where
  pub both-fit : (n ≤ length ds) × (n ≤ length w)
  both-fit = let l = each_long m n store (min (length ds) (length w)) e in (omega arith, omega arith)

  pub both_long : (length (take n ds) ≡ n) × (length (take n w) ≡ n)
  both_long = (length-take-le n ds both-fit.0, length-take-le n w both-fit.1)

-- ---- the first n of w written
pub written_first : (n : ℕ) (xs w : List Float) {x : List Float} → x ≡ xs → length x ≡ n → x ++ drop n w ≡ written xs w
written_first n xs w {x} h l = ap (λ (k : ℕ). x ++ drop k w) (sym l) ∙ ap (λ (y : List Float). written y w) h

-- and the whole of it
pub written_whole : (xs w : List Float) → length xs ≡ length w → written xs w ≡ xs
written_whole xs w h = rw (drop_of_length-le w {i = length xs} (omega arith)) (append-nil xs)

module _ (m n : ℕ) (store w : List Float) (xs : List Float) where
  pub lent-refused : (r : Refusal) → refusal_number r ≡ tested m n store (length w) → read (refused (refusal_number r)) w ≡ written_if (tested m n store (length w)) xs w
  lent-refused r e = refused_by _ (λ (k : ℕ). read (refused k) w) _ r e

  pub lent_written : 0 ≡ tested m n store (length w) → {x : List Float} → x ≡ xs → length x ≡ length (take n w)
      → read (answered tt) (x ++ drop n w) ≡ written_if (tested m n store (length w)) xs w
  lent_written e h l =
      ap (λ (o : List Float). read (answered tt) o) (written_first n xs w h (l ∙ front_long m n store w e))
      ∙ call-worked _ (λ (k : ℕ). read (refused k) w) _ (sym e)

-- where the tests are passed
pub lent_passed : (m n : ℕ) (store w xs : List Float) → tested m n store (length w) ≡ 0
    → written_if (tested m n store (length w)) xs w ≡ read (answered tt) (written xs w)
lent_passed m n store w xs z = sym (call-worked _ (λ (k : ℕ). read (refused k) w) _ z)
