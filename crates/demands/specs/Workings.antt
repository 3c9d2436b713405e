-- Demand 1, 01, refusals 2 and 3: the public functions that take no state, a row for each that can be refused.
use Rattle.std.specs.Prelude.{◌≡◌, List, [], ◌∷◌, ◌++◌, ◌⊎◌, ◌↔◌, ℕ, ◌*◌, ◌<◌, min, ltb, length, take, drop, Float, Bool, true, false}
use Rattle.leaves.specs.Reply.{refused, Reply}
use Rattle.leaves.specs.Vector.{dot, axpy, axpy_zero, imax, copy}
use Rattle.leaves.specs.Triangle.{solve_upper}
use Rattle.leaves.specs.Norm.{enorm}
use Rattle.demands.specs.Calls.{reply_number}
use Rattle.leaves.specs.Tests.{Test, first_of}
use Rattle.reduce.specs.Reduced.{Reduced, reduced_as, reduce_tests, filled_call as reduce_filled_call}
use Rattle.eliminate.specs.Eliminated.{Eliminated, eliminated_as, eliminate_tests, eliminate_call}
use Rattle.factor.specs.Outcome.{Read, read, Left, left_in}
use Rattle.factor.specs.Factoring.{finite_room}
use Rattle.factor.specs.Filled.{Filled, filled_as, filled_of, filled_tests, factor_filled}
use Rattle.factor.specs.Tests.{permutation_tests, size_tests, room_tests, solve_tests}
use Rattle.factor.specs.PivotOrder.{zero_in, damped_in, held_zero_in, held_damped_in, product_in, full_rank, empty_in}
use Rattle.factor.specs.Parts.{qtb_in, norms_in, diagonal_in, rest_in}
use Rattle.factor.specs.declared.state.State.{State}
use Rattle.sheet.specs.Fit.{Fit}
use Rattle.sheet.specs.Lines.{lines_tests, lines_of, sheet_text, lines_call, text_call}
use Rattle.leaves.specs.Refusing.{NoneHold, RefusedBy}
use Rattle.demands.specs.Factorings.{room_made, factoring_stands, factoring_breaks}

-- a column is shorter than the triangle, x than its n places, or the matrix than its n columns
abbrev pub Short : ℕ → ℕ → List Float → List Float → Type 0
Short apart n r x = (apart < n) ⊎ ((length x < n) ⊎ (length r < n * apart))

-- refused, everything as it came, exactly when the condition holds; answered where it does not
abbrev Exactly : {A : Type 0} → A → A → ℕ → Type 0 → Type 0
Exactly outcome refusal number condition = ((outcome ≡ refusal) ↔ condition) × ((condition → ⊥) → number ≡ 0)

pub record Leaves : Type 0 where
  pub norm : (xs : List Float) → Exactly (enorm xs) (refused 2) (reply_number (enorm xs)) (128 < length xs)
  pub imax : (xs : List Float) → Exactly (imax xs) (refused 3) (reply_number (imax xs)) (length xs ≡ 0)
  pub dot : (xs ys : List Float) → Exactly (dot xs ys) (refused 3) (reply_number (dot xs ys)) (length xs ≡ length ys → ⊥)
  pub axpy : (a : Float) (xs ys : List Float) → Exactly (axpy a xs ys) (refused 3, ys) (reply_number (axpy a xs ys).0) (length xs ≡ length ys → ⊥)
  pub axpy_zero : (a : Float) (xs ys : List Float) → Exactly (axpy_zero a xs ys) (refused 3, ys) (reply_number (axpy_zero a xs ys).0) (length xs ≡ length ys → ⊥)
  pub copy : (xs ys : List Float) → Exactly (copy xs ys) (refused 3, ys) (reply_number (copy xs ys).0) (length xs ≡ length ys → ⊥)
  pub solve_upper : (apart n : ℕ) (r x : List Float) → Exactly (solve_upper apart n r x) (refused 3, x) (reply_number (solve_upper apart n r x).0) (Short apart n r x)

-- Refused k exactly when k's condition holds and none that is tested before it, and then everything lent is as it came, the refusal beside it;
-- answered exactly when no condition holds.
pub record ByTests {A B : Type 0} (tests : List Test) (reply : A → Reply B) (came : Reply B → A) (outcome : A) : Type 0 where
  pub refused_when : (k : ℕ) → 0 < k → (reply_number (reply outcome) ≡ k) ↔ RefusedBy tests k
  pub as_it_came : (k : ℕ) → 0 < k → RefusedBy tests k → outcome ≡ came (refused k)
  pub answered_when : (reply_number (reply outcome) ≡ 0) ↔ NoneHold tests

-- The same of a working that is refused 8 too, exactly when no condition holds and what it made is not finite; what it leaves then, and answered.
pub record ByTestsAnd8 {A B : Type 0} (tests : List Test) (reply : A → Reply B) (came : Reply B → A) (finite : Bool) (stands breaks outcome : A) : Type 0 where
  pub refused_when : (k : ℕ) → 0 < k → k < 8 → (reply_number (reply outcome) ≡ k) ↔ RefusedBy tests k
  pub as_it_came : (k : ℕ) → 0 < k → RefusedBy tests k → outcome ≡ came (refused k)
  pub eight_when : (reply_number (reply outcome) ≡ 8) ↔ (NoneHold tests × (finite ≡ false))
  pub eight_left : reply_number (reply outcome) ≡ 8 → outcome ≡ breaks
  pub answered_when : (reply_number (reply outcome) ≡ 0) ↔ (NoneHold tests × (finite ≡ true))
  pub answered_left : reply_number (reply outcome) ≡ 0 → outcome ≡ stands

-- a working on a store of n columns that writes one slice, which comes as w
abbrev Reads : List Test → List Float → Read → Type 0
Reads ts w o = ByTests ts (λ (x : Read). x.reply) (λ a. read a w) o

-- 2 for the sizes; 3 for a store or another slice that is too short, of `reduce_filled` and `eliminate_diag` for one that is not of its exact
-- length; of `factor_filled` 8 too, as of a factoring
pub record Workings : Type 0 where
  pub zero : (m n : ℕ) (store w : List Float) → Reads (size_tests m n (length store) (length w)) w (zero_in m n store w)
  pub damped : (n : ℕ) (ds store w : List Float)
      → ByTests (size_tests 1 n (length store) (min (length ds) (length w))) (λ (x : Left). x.reply) (λ a. left_in a store w) (damped_in n ds store w)
  pub held_zero : (n : ℕ) (store w : List Float) → Reads (size_tests 1 n (length store) (length w)) w (held_zero_in n store w)
  pub held_damped : (n : ℕ) (store w : List Float) → Reads (size_tests 1 n (length store) (length w)) w (held_damped_in n store w)
  pub product : (n : ℕ) (store w : List Float) → Reads (size_tests 1 n (length store) (length w)) w (product_in n store w)
  pub full_rank : (m n : ℕ) (store : List Float) → ByTests (size_tests m n (length store) n) (λ (x : Reply Bool). x) (λ a. a) (full_rank m n store)
  pub empty : (n : ℕ) (store : List Float) → Reads (size_tests 1 n (length store) n) store (empty_in n store)
  pub reduce_filled : (m n : ℕ) (norms diag : List Float) (order : List ℕ) (bench : List Float)
      → ByTests (reduce_tests m n (length (take (m * n) bench)) (length (drop (m * n) bench)) (length norms) (length diag) (length order) (length bench))
      (λ (x : Reduced). x.reply) (λ a. reduced_as a norms diag order bench) (reduce_filled_call m n norms diag order bench)
  pub factor_filled : (m n : ℕ) (store : List Float) (order : List ℕ) (bench : List Float)
      → ByTestsAnd8 (filled_tests m n (length store) (length order) (length bench)) (λ (x : Filled). x.reply) (λ a. filled_as a store order bench)
      (finite_room (room_made m n (take (m * n) bench) (drop (m * n) bench) store)) (filled_of (factoring_stands m n (take (m * n) bench) (drop (m * n) bench) store order bench))
      (filled_of (factoring_breaks m n store order bench)) (factor_filled m n store order bench)
  pub eliminate_diag : (n : ℕ) (ds square rhs ldiag : List Float)
      → ByTests (eliminate_tests n (length square) (length ds) (length rhs) (length ldiag))
      (λ (x : Eliminated). x.reply) (λ a. eliminated_as a square rhs ldiag) (eliminate_call n ds square rhs ldiag)

-- ---- the parts of a store: as the workings of a search
pub record Parts : Type 0 where
  pub qt_b : (n : ℕ) (store w : List Float) → Reads (size_tests 1 n (length store) (length w)) w (qtb_in n store w)
  pub norms : (n : ℕ) (store w : List Float) → Reads (size_tests 1 n (length store) (length w)) w (norms_in n store w)
  pub diagonal : (n : ℕ) (store w : List Float) → Reads (size_tests 1 n (length store) (length w)) w (diagonal_in n store w)
  pub rest : (n : ℕ) (store : List Float) → Reads (size_tests 1 n (length store) n) store (rest_in n store)

-- k exactly when k's condition holds and none that is tested before it, 0 exactly when none holds
abbrev Numbers : List Test → Type 0
Numbers ts = ((k : ℕ) → 0 < k → (first_of ts ≡ k) ↔ RefusedBy ts k) × ((first_of ts ≡ 0) ↔ NoneHold ts)

pub record SharedTests : Type 0 where
  pub permutation : (n : ℕ) (order : List ℕ) → Numbers (permutation_tests n order)
  pub room : (st : State) (store shortest : ℕ) → Numbers (room_tests st store shortest)
  pub ordered : (st : State) (store : ℕ) (order : List ℕ) (shortest : ℕ) → Numbers (solve_tests st store order shortest)

-- the lines of an answer, and of a sheet, into a lent buffer: 2 and 3 of the answer, then 3 for a buffer that is too short
pub record SheetLines : Type 0 where
  pub write_lines : (a : Reply Fit) (step : List Float) (text : List ℕ)
      → ByTests (lines_tests a (length step) ++ ((ltb (length text) (length (lines_of a step)), 3) ∷ [])) (λ (x : Reply ℕ × List ℕ). x.0) (λ r. (r, text)) (lines_call a step text)
  pub fit_lines : (s text : List ℕ) → ByTests ((ltb (length text) (length (sheet_text s)), 3) ∷ []) (λ (x : Reply ℕ × List ℕ). x.0) (λ r. (r, text)) (text_call s text)
