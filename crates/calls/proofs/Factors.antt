-- Factoring with its tests passed: the free columns gathered in the bench, and the tests of the problem that they are. Assumes nothing.
use Prim.Native.Nat.{ℕ, suc, ◌+◌, ◌-◌, ◌*◌, ◌≤◌}
use mathlib.Core.Path.{◌≡◌, refl, sym, ap, ◌∙◌}
use mathlib.Core.Bool.{Bool, true, false, not, ◌||◌, and-eq-true_iff}
use mathlib.Core.List.{List, [], ◌∷◌, ◌++◌, append_assoc}
use native.Mathlib.Nat.{suc-mul, mul_comm, mul-le-mul, le_refl}
use native.Mathlib.Omega.{arith}
use lib.Dec.{ltb, eqb}
use lib.ListN.{length, take, drop, drop_of_length-le}
use lib.Seq.{take_all, take-add, length-take-le}
use lib.Ieee.{Float}
use borrow.Author.Tests.{ltb-false, le-ltb, eqb-false, not-false}
use Rattle.std.specs.Prelude.{Result}
use Rattle.leaves.specs.declared.reply.Refusal.{Refusal}
use Rattle.leaves.specs.Reply.{reply_of}
use Rattle.leaves.specs.Refusing.{NoneHold}
use Rattle.leaves.specs.Vector.{copy}
use Rattle.leaves.specs.Tests.{outside, Test, first_of, all_finite}
use Rattle.leaves.proofs.Refusals.{passed_iff, none_of_both}
use Rattle.leaves.proofs.Insides.{neither, Inside, inside, within}
use Rattle.leaves.proofs.Folds.{nonzero, copy_is}
use Rattle.leaves.proofs.Overs.{append_nil}
use Rattle.frozen.specs.Frozen.{marks_of, mark_past, free_count, free_columns}
use Rattle.frozen.proofs.Blocks.{columns-length, marks-length, columns_done}
use Rattle.frozen.proofs.Runs.{two_laid}
use Rattle.frozen.proofs.Unmarked.{none_set, columns_whole}
use Rattle.frozen.specs.Moved.{columns_call}
use Rattle.factor.specs.State.{store_need, bench_need}
use Rattle.factor.specs.Factoring as plain
use Rattle.factor.proofs.Lays.{finite-append}
use Rattle.calls.specs.Factoring.{marked_factor_tests}
use Rattle.calls.specs.inner.Factorable.{length_tests, Factorable}
use Rattle.calls.proofs.Passed.{free_count-fits}
use Rattle.calls.proofs.Ways.{Done, done}

-- ---- the tests passed
pub record Lengths (m n jacobian residuals store order bench : ℕ) : Type 0 where
  pub inside : outside m n ≡ false
  pub jacobian_long : m * n ≤ jacobian
  pub residuals_long : m ≤ residuals
  pub store_long : store_need n ≤ store
  pub order_long : n ≤ order
  pub bench_long : bench_need m n ≤ bench

lengths_of : (m n marks j r s o b : ℕ) → NoneHold (length_tests m n marks j r s o b) → Lengths m n j r s o b
lengths_of m n marks j r s o b h =
    let four = neither (ltb j (m * n) || ltb r m || ltb s (store_need n) || ltb o n) (ltb b (bench_need m n)) h.1.0 in
    let three = neither (ltb j (m * n) || ltb r m || ltb s (store_need n)) (ltb o n) four.0 in
    let two = neither (ltb j (m * n) || ltb r m) (ltb s (store_need n)) three.0 in
    let one = neither (ltb j (m * n)) (ltb r m) two.0 in
    record {
      inside = (neither (outside m n) (mark_past n marks) h.0).0;
      jacobian_long = ltb-false j (m * n) one.0;
      residuals_long = ltb-false r m one.1;
      store_long = ltb-false s (store_need n) two.1;
      order_long = ltb-false o n three.1;
      bench_long = ltb-false b (bench_need m n) four.1;
    }

pub lengths_passed : (m n marks j r s o b : ℕ) → first_of (length_tests m n marks j r s o b) ≡ 0 → Lengths m n j r s o b
lengths_passed m n marks j r s o b e = lengths_of m n marks j r s o b ((passed_iff (length_tests m n marks j r s o b) refl).0 e)

module _ (m n marks : ℕ) (jacobian residuals : List Float) (store order bench : ℕ) where
  -- the tests after 3
  abbrev pub later_tests : List Test
  later_tests = (not (all_finite (take (m * n) jacobian)), 6) ∷ (not (all_finite (take m residuals)), 6) ∷ (eqb (free_count (marks_of n marks)) 0, 9) ∷ []

  module _ {free : ℕ} (e : 0 ≡ first_of (marked_factor_tests m n marks jacobian residuals store order bench)) (f : free ≡ free_count (marks_of n marks)) where
    passed : NoneHold (length_tests m n marks (length jacobian) (length residuals) store order bench) × NoneHold later_tests
    passed =
        none_of_both (length_tests m n marks (length jacobian) (length residuals) store order bench) later_tests
        ((passed_iff (marked_factor_tests m n marks jacobian residuals store order bench) refl).0 (sym e))

    pub long_enough : Lengths m n (length jacobian) (length residuals) store order bench
    long_enough = lengths_of m n marks (length jacobian) (length residuals) store order bench passed.0

    pub factorable : Factorable m n marks free jacobian residuals
    factorable = record {
      inside = long_enough.inside;
      counted = f;
      some = (let k = nonzero (free_count (marks_of n marks)) (eqb-false (free_count (marks_of n marks)) 0 passed.1.1.1.0) in omega arith);
      fits = (let k = free_count-fits n marks in omega arith);
      jacobian_long = long_enough.jacobian_long;
      residuals_long = long_enough.residuals_long;
      jacobian_finite = not-false (all_finite (take (m * n) jacobian)) passed.1.0;
      residuals_finite = not-false (all_finite (take m residuals)) passed.1.1.0;
    }

-- ---- the free columns, gathered where there is room for them alone
module _ (m n marks : ℕ) (jacobian bench : List Float) (j : m * n ≤ length jacobian) (l : length bench ≡ m * free_count (marks_of n marks)) where
  -- with no mark, as a copy of all
  pub all_gathered : (y : List Float) (d : Result (Unit {0}) Refusal) → marks ≡ 0 → (reply_of d, y) ≡ copy (take (m * n) jacobian) bench → Done d y (free_columns m (marks_of n marks) jacobian)
  all_gathered y d z e =
      let f : m * free_count (marks_of n marks) ≡ m * n = ap (λ (x : ℕ). m * free_count (marks_of n x)) z ∙ ap (λ (k : ℕ). m * k) (none_set n) in
      let t : length (take (m * n) jacobian) ≡ length bench = length-take-le (m * n) jacobian j ∙ sym (l ∙ f) in
      let q = done d (e ∙ sym (copy_is (take (m * n) jacobian) bench (take (m * n) jacobian) t refl)) in
      (q.0, q.1 ∙ sym (ap (λ (x : ℕ). free_columns m (marks_of n x) jacobian) z ∙ columns_whole m n jacobian))

  pub free_gathered : (y : List Float) (d : Result (Unit {0}) Refusal) → outside m n ≡ false → (reply_of d, y) ≡ columns_call m n marks jacobian bench
      → Done d y (free_columns m (marks_of n marks) jacobian)
  free_gathered y d i e =
      let g = free_columns m (marks_of n marks) jacobian in
      let all = columns_done m n marks jacobian bench i j g (omega arith) refl in
      let none : drop (m * free_count (marks_of n marks)) bench ≡ [] = drop_of_length-le bench {i = m * free_count (marks_of n marks)} (omega arith) in
      let q = done d (e ∙ sym all) in
      (q.0, q.1 ∙ (ap (λ (x : List Float). g ++ x) none ∙ append_nil g))

-- ---- the free columns of finite columns are finite
finite-both : (a b : List Float) → all_finite (a ++ b) ≡ true → (all_finite a ≡ true) × (all_finite b ≡ true)
finite-both a b h = (and-eq-true_iff (all_finite a) (all_finite b)).0 (sym (finite-append a b) ∙ h)

finite-split : (m k : ℕ) (s : List Float) → all_finite (take (suc k * m) s) ≡ true → (all_finite (take m s) ≡ true) × (all_finite (take (k * m) (drop m s)) ≡ true)
finite-split m k s h =
    let e : suc k * m ≡ m + k * m = suc-mul k m ∙ omega arith in
    finite-both (take m s) (take (k * m) (drop m s)) (sym (ap all_finite (take-add m (k * m) s)) ∙ (ap (λ (j : ℕ). all_finite (take j s)) (sym e) ∙ h))

columns-finite : (m : ℕ) (ms : List Bool) (s : List Float) → all_finite (take (length ms * m) s) ≡ true → all_finite (free_columns m ms s) ≡ true
unfolding free_columns all_finite
columns-finite m [] s h = refl
columns-finite m (true ∷ ms) s h = columns-finite m ms (drop m s) (finite-split m (length ms) s h).1
columns-finite m (false ∷ ms) s h =
    let t = finite-split m (length ms) s h in
    finite-append (take m s) (free_columns m ms (drop m s)) ∙ rw t.0 (columns-finite m ms (drop m s) t.1)

-- ---- the reduced problem
module _ (m n marks free : ℕ) (jacobian residuals : List Float) (r : Factorable m n marks free jacobian residuals) where
  pub small_inside : Inside m free
  small_inside =
      let i = inside m n r.inside in
      let f = r.fits in
      record { rows_some = i.rows_some; rows_few = i.rows_few; cols_some = r.some; cols_few = (let k = i.cols_few in omega arith) }

  -- its Jacobian within the lent one's
  pub area_within : m * free ≤ m * n
  area_within = mul-le-mul (le_refl m) r.fits

  columns_here : length (marks_of n marks) * m ≡ m * n
  columns_here = rw (marks-length n marks) (mul_comm n m)

  pub gathered_long : length (free_columns m (marks_of n marks) jacobian) ≡ m * free
  gathered_long =
      let k = columns_here in
      let j = r.jacobian_long in
      columns-length m (marks_of n marks) jacobian (omega arith) ∙ ap (λ (c : ℕ). m * c) (sym r.counted)

  gathered_finite : all_finite (free_columns m (marks_of n marks) jacobian) ≡ true
  gathered_finite = columns-finite m (marks_of n marks) jacobian (ap (λ (k : ℕ). all_finite (take k jacobian)) columns_here ∙ r.jacobian_finite)

  -- its own tests are passed
  pub small_passed : (store order bench : ℕ) → store ≡ store_need free → order ≡ free → bench ≡ bench_need m free
      → first_of (plain.factor_tests m free (free_columns m (marks_of n marks) jacobian) residuals store order bench) ≡ 0
  small_passed store order bench es eo eb =
      let g = free_columns m (marks_of n marks) jacobian in
      let l = gathered_long in
      let rr = r.residuals_long in
      let whole : take (m * free) g ≡ g = take_all (m * free) g (omega arith) in
      let three : (ltb (length g) (m * free) || ltb (length residuals) m || ltb store (store_need free) || ltb order free || ltb bench (bench_need m free)) ≡ false = rw (
        le-ltb (length g) (m * free) (omega arith),
        le-ltb (length residuals) m r.residuals_long,
        le-ltb store (store_need free) (omega arith),
        le-ltb order free (omega arith),
        le-ltb bench (bench_need m free) (omega arith),
      ) refl in
      let six : not (all_finite (take (m * free) g)) ≡ false = rw (whole, gathered_finite) refl in
      let more : not (all_finite (take m residuals)) ≡ false = rw r.residuals_finite refl in
      (passed_iff (plain.factor_tests m free g residuals store order bench) refl).1 (within m free small_inside, (three, (six, (more, tt))))

  -- the residuals behind the free columns, as they are gathered and copied
  pub bench_filled : (b y z : List Float) → bench_need m free ≤ length b → y ≡ free_columns m (marks_of n marks) jacobian → z ≡ take m residuals
      → take (m * free) (y ++ drop (m * free) b) ++ (z ++ drop (m * free + m - m * free) (drop (m * free) (y ++ drop (m * free) b)))
      ≡ free_columns m (marks_of n marks) jacobian ++ (take m residuals ++ drop (bench_need m free) b)
  bench_filled b y z l ey ez =
      let ly : length y ≡ m * free = ap length ey ∙ gathered_long in
      two_laid (m * free) (m * free + m) y z b ly (omega arith) ∙ rw (ey, ez) (append_assoc (free_columns m (marks_of n marks) jacobian) (take m residuals) (drop (bench_need m free) b))
