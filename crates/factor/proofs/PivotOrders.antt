-- The solves in pivot order: the damped one by its tests and by what is worked on the lent slices; and what each is where the tests are
-- passed. Assumes nothing.
use mathlib.Core.Path.{◌≡◌, sym, ap, ◌∙◌}
use mathlib.Core.Bool.{Bool}
use mathlib.Core.List.{List, ◌++◌}
use Prim.Native.Nat.{ℕ, min}
use lib.ListN.{length, take, drop}
use lib.Ieee.{Float}
use Rattle.leaves.specs.Reply.{answered, refused, refusal_number}
use Rattle.leaves.specs.declared.reply.Refusal.{Refusal}
use Rattle.leaves.proofs.Refusals.{call-worked}
use Rattle.eliminate.specs.Eliminate.{Rows, damping}
use Rattle.factor.specs.Room.{load, lay, emptied}
use Rattle.factor.specs.Tests.{tested}
use Rattle.factor.specs.Solve.{zero_solved, non_singular_of}
use Rattle.factor.specs.Solves.{damped_numbers}
use Rattle.factor.specs.Held.{held_solved, held_product_of}
use Rattle.factor.specs.Outcome.{written, read, left_in}
use Rattle.factor.specs.PivotOrder.{lowered, zero_in, damped_in, held_zero_in, held_damped_in, product_in, full_rank, empty_in}
use Rattle.factor.specs.declared.state.Held.{Held}
use Rattle.factor.specs.declared.state.Held.TheVariants as held
use Rattle.factor.proofs.Answers.{refused_by}
use Rattle.factor.proofs.Layouts.{laid}
use Rattle.factor.proofs.Lends.{both_long, written_first, lent_passed}

-- ---- the numbers of each, of the room that is lent
abbrev pub zero_of : ℕ → ℕ → List Float → List Float
zero_of m n store = zero_solved m (load n store).upper (load n store).qtb

abbrev pub rows_of : ℕ → List Float → List Float → Rows
rows_of n ds store = damping (take n ds) (load n store).upper (load n store).qtb

abbrev pub held_of : Held → ℕ → List Float → List Float → List Float
held_of h n store w = held_solved h (take n w) (load n store)

abbrev pub product_of : ℕ → List Float → List Float
product_of n store = held_product_of held.Zero (load n store)

-- ---- the damped solve
module _ (n : ℕ) (ds store w : List Float) where
  pub damped-refused : (r : Refusal) → refusal_number r ≡ tested 1 n store (min (length ds) (length w)) → left_in (refused (refusal_number r)) store w ≡ damped_in n ds store w
  unfolding damped_in
  damped-refused r e = refused_by _ (λ (k : ℕ). left_in (refused k) store w) _ r e

  pub damped-written : 0 ≡ tested 1 n store (min (length ds) (length w)) → {s u x : List Float} → s ≡ u → load n u ≡ lowered (rows_of n ds store) (load n store) → x ≡ damped_numbers (rows_of n ds store)
      → length x ≡ length (take n w) → left_in (answered tt) s (x ++ drop n w) ≡ damped_in n ds store w
  unfolding damped_in
  damped-written e {s} {u} {x} i f g l =
      ap (λ (t : List Float). left_in (answered tt) t (x ++ drop n w)) (i ∙ laid n u f)
      ∙ ap (λ (o : List Float). left_in (answered tt) (lay (lowered (rows_of n ds store) (load n store))) o) (written_first n (damped_numbers (rows_of n ds store)) w g (l ∙ (both_long 1 n store ds w e).1))
      ∙ call-worked _ (λ (k : ℕ). left_in (refused k) store w) _ (sym e)

-- ---- the rank, of the square that is lent
pub full_rank-refused : (m n : ℕ) (store : List Float) (r : Refusal) → refusal_number r ≡ tested m n store n → refused (refusal_number r) ≡ full_rank m n store
unfolding full_rank
full_rank-refused m n store r e = refused_by _ (λ (k : ℕ). refused k) _ r e

pub full_rank-told : (m n : ℕ) (store : List Float) → 0 ≡ tested m n store n
    → {k : ℕ} {us : List (List Float)} {b : Bool} → k ≡ n → us ≡ (load n store).upper → b ≡ non_singular_of m k us → answered b ≡ full_rank m n store
unfolding full_rank
full_rank-told m n store e i u h = rw (h, i, u) (call-worked _ (λ (k : ℕ). refused k) _ (sym e))

-- ---- where the tests are passed
pub zero_in_passed : (m n : ℕ) (store w : List Float) → tested m n store (length w) ≡ 0 → zero_in m n store w ≡ read (answered tt) (written (zero_of m n store) w)
unfolding zero_in
zero_in_passed m n store w = lent_passed m n store w (zero_of m n store)

module _ (n : ℕ) (store w : List Float) (z : tested 1 n store (length w) ≡ 0) where
  pub held_zero_in_passed : held_zero_in n store w ≡ read (answered tt) (written (held_of held.Zero n store w) w)
  unfolding held_zero_in
  held_zero_in_passed = lent_passed 1 n store w (held_of held.Zero n store w) z

  pub held_damped_in_passed : held_damped_in n store w ≡ read (answered tt) (written (held_of held.Damped n store w) w)
  unfolding held_damped_in
  held_damped_in_passed = lent_passed 1 n store w (held_of held.Damped n store w) z

  pub product_in_passed : product_in n store w ≡ read (answered tt) (written (product_of n store) w)
  unfolding product_in
  product_in_passed = lent_passed 1 n store w (product_of n store) z

pub damped_in_passed : (n : ℕ) (ds store w : List Float) → tested 1 n store (min (length ds) (length w)) ≡ 0
    → damped_in n ds store w ≡ left_in (answered tt) (lay (lowered (rows_of n ds store) (load n store))) (written (damped_numbers (rows_of n ds store)) w)
unfolding damped_in
damped_in_passed n ds store w z = sym (call-worked _ (λ (k : ℕ). left_in (refused k) store w) _ z)

pub full_rank_passed : (m n : ℕ) (store : List Float) → tested m n store n ≡ 0 → full_rank m n store ≡ answered (non_singular_of m n (load n store).upper)
unfolding full_rank
full_rank_passed m n store z = sym (call-worked _ (λ (k : ℕ). refused k) _ z)

pub empty_in_passed : (n : ℕ) (store : List Float) → tested 1 n store n ≡ 0 → empty_in n store ≡ read (answered tt) (lay (emptied (load n store)))
unfolding empty_in
empty_in_passed n store z = sym (call-worked _ (λ (k : ℕ). read (refused k) store) _ z)
