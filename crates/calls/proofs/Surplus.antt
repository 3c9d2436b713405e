-- A factoring in slices that are longer than it needs: at their first places what it leaves in slices of the exact lengths, and the surplus as
-- it was. And what it leaves by its answer. Assumes nothing.
use Prim.Native.Nat.{ℕ, ◌*◌}
use mathlib.Core.Path.{◌≡◌, refl, sym, ap, ◌∙◌}
use mathlib.Core.Bool.{Bool, true, false}
use mathlib.Core.List.{List, [], ◌++◌, map, append_assoc}
use native.Mathlib.Nat.{min-le_left}
use native.Mathlib.Omega.{arith}
use lib.ListN.{length, take, drop, length-take, length-replicate, drop_of_length-le}
use lib.Ieee.{Float}
use Rattle.leaves.specs.Loop.{count_from}
use Rattle.leaves.specs.Norm.{norm, ranges_of}
use Rattle.leaves.specs.Number.{plus_zero}
use Rattle.leaves.specs.Reply.{answered, refused}
use Rattle.leaves.specs.Square.{zeros, joined}
use Rattle.leaves.specs.Triangle.{columns}
use Rattle.leaves.proofs.Overs.{append_nil}
use Rattle.leaves.proofs.Replies.{refused-answered}
use Rattle.reduce.specs.Reduction.{Reduction, reduction_of, measured}
use Rattle.reduce.proofs.Begins.{front_columns}
use Rattle.factor.specs.Room.{lay}
use Rattle.factor.specs.State.{store_need, bench_need, empty as none}
use Rattle.factor.specs.Outcome.{written}
use Rattle.factor.specs.Factoring as plain
use Rattle.factor.specs.declared.state.Held.TheVariants as held
use Rattle.calls.specs.State.{marked}
use Rattle.calls.specs.inner.Factorable.{state_left}

-- w in slices of the exact lengths; v in longer ones, with surplus rest and later
pub record Larger (w v : plain.Factored) (rest : List Float) (later : List ℕ) : Type 0 where
  pub same_reply : v.reply ≡ w.reply
  pub same_store : v.store ≡ w.store ++ rest
  pub same_order : v.order ≡ w.order ++ later

module _ (m n : ℕ) where
  -- by whether all of R, the norms and qt_b is finite
  abbrev by_finite : Bool → List (List Float) → List Float → List Float → List Float → List ℕ → List Float → plain.Factored
  by_finite t cols rhs rest wiped later bench =
      let f = reduction_of m n cols rhs in
      elim t [
        | true ↦ plain.factored (answered (ranges_of (measured m n cols rhs))) (record { m = m; n = n; held = held.Nothing }) (lay (plain.factored_room m n (map norm cols) f rest)) (f.order ++ later) bench
        | false ↦ plain.factored (refused 8) none wiped (count_from n 0 ++ later) bench
      ]

  abbrev finite : List (List Float) → List Float → Bool
  finite cols rhs = plain.finite_room (plain.factored_room m n (map norm cols) (reduction_of m n cols rhs) [])

  abbrev outcome : List Float → List Float → List Float → List Float → List ℕ → List Float → plain.Factored
  outcome jacobian residuals rest wiped later bench = by_finite (finite (columns m n jacobian) (take m residuals)) (columns m n jacobian) (take m residuals) rest wiped later bench

  is_outcome : (jacobian residuals store : List Float) (order : List ℕ) (bench : List Float)
      → plain.factor_worked m n jacobian residuals store order bench
      ≡ outcome jacobian residuals (drop (store_need n) store) (written (zeros (store_need n)) store) (drop n order) (written (zeros (bench_need m n)) bench)
  unfolding plain.factor_worked plain.finite_room plain.factored_room
  is_outcome jacobian residuals store order bench = refl

  -- ---- by its answer

  state_by : (t : Bool) (cols : List (List Float)) (rhs rest wiped : List Float) (later : List ℕ) (bench : List Float)
      → marked 0 (by_finite t cols rhs rest wiped later bench).state ≡ state_left m n 0 (by_finite t cols rhs rest wiped later bench).reply
  state_by true cols rhs rest wiped later bench = refl
  state_by false cols rhs rest wiped later bench = refl

  pub worked-state : (jacobian residuals store : List Float) (order : List ℕ) (bench : List Float)
      → marked 0 (plain.factor_worked m n jacobian residuals store order bench).state ≡ state_left m n 0 (plain.factor_worked m n jacobian residuals store order bench).reply
  worked-state jacobian residuals store order bench =
      rw (is_outcome jacobian residuals store order bench) (state_by (finite (columns m n jacobian) (take m residuals)) (columns m n jacobian) (take m residuals) _ _ _ _)

  order_by : (t : Bool) (cols : List (List Float)) (rhs rest wiped : List Float) (later : List ℕ) (bench : List Float) {k : ℕ}
      → (by_finite t cols rhs rest wiped later bench).reply ≡ refused k → (by_finite t cols rhs rest wiped later bench).order ≡ count_from n 0 ++ later
  order_by true cols rhs rest wiped later bench e = refused-answered (sym e)
  order_by false cols rhs rest wiped later bench e = refl

  pub refused-order : (jacobian residuals store : List Float) (order : List ℕ) (bench : List Float) {k : ℕ}
      → (plain.factor_worked m n jacobian residuals store order bench).reply ≡ refused k → (plain.factor_worked m n jacobian residuals store order bench).order ≡ count_from n 0 ++ drop n order
  refused-order jacobian residuals store order bench e =
      let i = is_outcome jacobian residuals store order bench in
      rw i (order_by (finite (columns m n jacobian) (take m residuals)) (columns m n jacobian) (take m residuals) _ _ _ _ (rw i at e))

  bench_by : (t : Bool) (cols : List (List Float)) (rhs rest wiped : List Float) (later : List ℕ) (bench : List Float) → (by_finite t cols rhs rest wiped later bench).bench ≡ bench
  bench_by true cols rhs rest wiped later bench = refl
  bench_by false cols rhs rest wiped later bench = refl

  pub worked-bench : (jacobian residuals store : List Float) (order : List ℕ) (bench : List Float)
      → (plain.factor_worked m n jacobian residuals store order bench).bench ≡ written (zeros (bench_need m n)) bench
  worked-bench jacobian residuals store order bench =
      rw (is_outcome jacobian residuals store order bench) (bench_by (finite (columns m n jacobian) (take m residuals)) (columns m n jacobian) (take m residuals) _ _ _ _)

  -- ---- in larger slices

  lay_rest : (norms : List Float) (f : Reduction) (rest : List Float) → lay (plain.factored_room m n norms f rest) ≡ lay (plain.factored_room m n norms f []) ++ rest
  unfolding lay plain.factored_room
  lay_rest norms f rest =
      let a = joined (plain.uppers m 0 f.cols f.diag) (plain.no_lower n) in
      let q = plain.transformed n f.rhs in
      let z = zeros n in
      sym (
      append_assoc a (q ++ (norms ++ (z ++ (z ++ [])))) rest
      ∙ ap (λ (l : List Float). a ++ l) (append_assoc q (norms ++ (z ++ (z ++ []))) rest
      ∙ ap (λ (l : List Float). q ++ l) (append_assoc norms (z ++ (z ++ [])) rest
      ∙ ap (λ (l : List Float). norms ++ l) (append_assoc z (z ++ []) rest
      ∙ ap (λ (l : List Float). z ++ l) (append_assoc z [] rest))))
      )

  larger_by : (t : Bool) (cols : List (List Float)) (rhs rest wiped : List Float) (later : List ℕ) (bench b : List Float) → wiped ≡ zeros (store_need n) ++ rest
      → Larger (by_finite t cols rhs [] (zeros (store_need n)) [] b) (by_finite t cols rhs rest wiped later bench) rest later
  larger_by true cols rhs rest wiped later bench b e =
      let f = reduction_of m n cols rhs in
      record { same_reply = refl; same_store = lay_rest (map norm cols) f rest; same_order = sym (append_assoc f.order [] later) }
  larger_by false cols rhs rest wiped later bench b e = record { same_reply = refl; same_store = e; same_order = sym (append_assoc (count_from n 0) [] later) }

  pub worked_larger : (jacobian residuals store : List Float) (order : List ℕ) (bench b : List Float)
      → Larger (plain.factor_worked m n jacobian residuals (zeros (store_need n)) (take n order) b) (plain.factor_worked m n jacobian residuals store order bench) (drop (store_need n) store) (drop n order)
  worked_larger jacobian residuals store order bench b =
      let z : length (zeros (store_need n)) ≡ store_need n = length-replicate (store_need n) plus_zero in
      let s : drop (store_need n) (zeros (store_need n)) ≡ [] = drop_of_length-le (zeros (store_need n)) {i = store_need n} (omega arith) in
      let w : written (zeros (store_need n)) (zeros (store_need n)) ≡ zeros (store_need n) = rw (z, s) (append_nil (zeros (store_need n))) in
      let o : drop n (take n order) ≡ [] = drop_of_length-le (take n order) {i = n} (let h = min-le_left n (length order) in rw (length-take n order) h) in
      rw (is_outcome jacobian residuals (zeros (store_need n)) (take n order) b, is_outcome jacobian residuals store order bench, s, w, o)
      (larger_by (finite (columns m n jacobian) (take m residuals)) (columns m n jacobian) (take m residuals) _ _ _ _ _ (rw z refl))

  -- ---- of a Jacobian that is longer than m·n
  pub worked_front : (jacobian residuals store : List Float) (order : List ℕ) (bench : List Float)
      → plain.factor_worked m n (take (m * n) jacobian) residuals store order bench ≡ plain.factor_worked m n jacobian residuals store order bench
  worked_front jacobian residuals store order bench =
      is_outcome (take (m * n) jacobian) residuals store order bench
      ∙ (ap (λ (c : List (List Float)). by_finite (finite c (take m residuals)) c (take m residuals) (drop (store_need n) store) (written (zeros (store_need n)) store) (drop n order) (written (zeros (bench_need m n)) bench)) (front_columns m n jacobian)
      ∙ sym (is_outcome jacobian residuals store order bench))
