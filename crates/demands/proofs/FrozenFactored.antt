-- 02, #108: what a factoring with marks leaves that is answered: the factoring of the Jacobian without the frozen columns, spread out to n columns. Without
-- the frozen columns the store is that factoring's again. Assumes nothing.
use mathlib.Core.Path.{◌≡◌, refl, sym, ap, ◌∙◌, subst}
use mathlib.Core.Bool.{Bool, true, false}
use mathlib.Core.List.{List, [], ◌++◌, map, append_assoc}
use Prim.Native.Nat.{ℕ, ◌-◌, ◌≤◌}
use native.Mathlib.Omega.{arith}
use lib.Dec.{eqb}
use lib.ListN.{length, take, drop, length-append, length-take, length-drop, length-map, length-replicate, drop_of_length-le}
use lib.Seq.{length-take-le, take_at}
use lib.Ieee.{Float}
use borrow.Author.Tests.{eqb-true, eqb-false}
use Rattle.leaves.specs.Loop.{count_from}
use Rattle.leaves.specs.Norm.{norm}
use Rattle.leaves.specs.Number.{plus_zero}
use Rattle.leaves.specs.Reply.{Reply, answered, refused}
use Rattle.leaves.specs.Square.{zeros}
use Rattle.leaves.specs.Tests.{Test, first_of}
use Rattle.leaves.specs.Triangle.{columns}
use Rattle.leaves.specs.declared.norm.Ranges.{Ranges}
use Rattle.leaves.proofs.Overs.{append_nil, count-length}
use Rattle.leaves.proofs.Replies.{refused-answered}
use Rattle.leaves.proofs.Squares.{columns-length}
use Rattle.frozen.specs.Frozen.{marks_of, free_count, free_columns}
use Rattle.frozen.specs.Narrowed.{narrowed, spread_out}
use Rattle.frozen.proofs.Restores.{spread_out-length, spread_out-narrowed}
use Rattle.factor.specs.Factoring as plain
use Rattle.factor.specs.Factoring.{factored_room}
use Rattle.factor.specs.Room.{lay}
use Rattle.factor.specs.Outcome.{written}
use Rattle.factor.specs.State.{state_of, store_need, bench_need}
use Rattle.factor.specs.declared.state.Held.TheVariants as held
use Rattle.factor.specs.declared.state.State.{State as Plain}
use Rattle.factor.proofs.Passed.{Factorable, factor_passed}
use Rattle.factor.proofs.Shapes.{square_filled, order_listed}
use Rattle.calls.specs.State.{no_problem}
use Rattle.calls.specs.Factoring.{MarkedFactored, marked_factored, marked_factor_tests, factored_as, factored_if, marked_factoring}
use Rattle.calls.proofs.Passed.{free_count-fits, by_refusal, by_working}
use Rattle.demands.proofs.Alikes.{Accepted, tested, accepted, whole, laid_length}

module _ (m n marks : ℕ) (jacobian residuals : List Float) where
  abbrev pub marks_for : List Bool
  marks_for = marks_of n marks

  abbrev pub free : ℕ
  free = free_count (marks_of n marks)

  -- the Jacobian without the frozen columns
  abbrev pub free_jacobian : List Float
  free_jacobian = free_columns m (marks_of n marks) jacobian

  module _ (s : List Float) (order : List ℕ) (bench : List Float) where
    abbrev pub one : MarkedFactored
    one = marked_factoring m n marks jacobian residuals s order bench

    -- its factoring, in slices of its own
    abbrev pub small : plain.Factored
    small = plain.factor_call m free free_jacobian residuals (zeros (store_need free)) (take free order) (zeros (bench_need m free))

    abbrev pub tests : List Test
    tests = marked_factor_tests m n marks jacobian residuals (length s) (length order) (length bench)

    -- ---- with marks, by the two cases
    module _ (some : marks ≡ 0 → ⊥) where
      abbrev pub worked : MarkedFactored
      worked = factored_if m n marks free small.reply small s order bench

      abbrev refusing : ℕ → MarkedFactored
      refusing k = marked_factored (refused k) no_problem s order bench

      pub factoring-worked : first_of tests ≡ 0 → one ≡ worked
      unfolding marked_factoring
      factoring-worked e = sym (by_working marks tests (factored_as (plain.factor_call m n jacobian residuals s order bench)) worked refusing some refl e)

      pub factoring-stopped : (first_of tests ≡ 0 → ⊥) → one ≡ refusing (first_of tests)
      unfolding marked_factoring
      factoring-stopped h = sym (by_refusal marks tests (factored_as (plain.factor_call m n jacobian residuals s order bench)) worked refusing some refl h)

      pub factoring_cases : (P : MarkedFactored → Type 0) → (first_of tests ≡ 0 → P worked) → ((first_of tests ≡ 0 → ⊥) → P (refusing (first_of tests))) → P one
      factoring_cases P p q = by (eqb (first_of tests) 0) refl
        where
          by : (b : Bool) → eqb (first_of tests) 0 ≡ b → P one
          by true e = let z = eqb-true (first_of tests) 0 e in subst P (sym (factoring-worked z)) (p z)
          by false e = let z = eqb-false (first_of tests) 0 e in subst P (sym (factoring-stopped z)) (q z)

      -- ---- answered
      pub record Spread (f : Ranges) (o : MarkedFactored) : Type 0 where
        pub passed : first_of tests ≡ 0
        pub answer : small.reply ≡ answered f
        pub state : o.state ≡ record { m = m; n = n; held = small.state.held; marks = marks }
        pub store : o.store ≡ written (spread_out n free small.store) s
        pub order_list : o.order ≡ small.order ++ (count_from (n - free) free ++ drop n order)

      pub spread-accepted : {f : Ranges} → one.reply ≡ answered f → Spread f one
      spread-accepted {f} = factoring_cases (λ (o : MarkedFactored). o.reply ≡ answered f → Spread f o) (λ z. by z small.reply refl) (λ h e. refused-answered e)
        where
          by : first_of tests ≡ 0 → (x : Reply Ranges) → small.reply ≡ x → (let o = factored_if m n marks free x small s order bench in o.reply ≡ answered f → Spread f o)
          by z (answered g) e h = record { passed = z; answer = e ∙ h; state = refl; store = refl; order_list = refl }
          by z (refused k) e h = refused-answered h

      module _ {f : Ranges} (h : one.reply ≡ answered f) where
        pub is_spread : Spread f one
        is_spread = spread-accepted h

        -- the factoring of the free columns, by its own laws
        taken : (tested m free free_jacobian residuals (zeros (store_need free)) (take free order) (zeros (bench_need m free)) ≡ 0)
            × Accepted m free free_jacobian residuals (zeros (store_need free)) (take free order) small
        taken = accepted m free free_jacobian residuals (zeros (store_need free)) (take free order) (zeros (bench_need m free)) is_spread.answer

        abbrev Passable : Type 0
        Passable = Factorable m free free_jacobian residuals (length (zeros (store_need free))) (length (take free order)) (length (zeros (bench_need m free)))

        passable : Passable
        passable = factor_passed m free free_jacobian residuals (length (zeros (store_need free))) (length (take free order)) (length (zeros (bench_need m free))) taken.0

        pub fewer : free ≤ n
        fewer = free_count-fits n marks

        pub small_length : length small.store ≡ store_need free
        small_length =
            let z = passable in
            let sl = square_filled m free free_jacobian (take m residuals) z.jacobian_long (length-take-le m residuals z.residuals_long) in
            let w : length (map norm (columns m free free_jacobian)) ≡ free = length-map (columns m free free_jacobian) norm ∙ columns-length m free free_jacobian in
            let e = length-drop (store_need free) (zeros (store_need free)) in
            let f = length-replicate (store_need free) plus_zero in
            ap length taken.1.store ∙ laid_length m free (map norm (columns m free free_jacobian)) (whole m free free_jacobian residuals) w sl (drop (store_need free) (zeros (store_need free))) ∙ omega arith

        -- what it leaves depends on nothing that is lent
        pub small_store : small.store ≡ lay (factored_room m free (map norm (columns m free free_jacobian)) (whole m free free_jacobian residuals) (drop (store_need free) (zeros (store_need free))))
        small_store = taken.1.store

        whole_length : length (whole m free free_jacobian residuals).order ≡ free
        whole_length = let z = passable in order_listed m free free_jacobian (take m residuals) z.jacobian_long (length-take-le m residuals z.residuals_long)

        pub small_order : small.order ≡ (whole m free free_jacobian residuals).order
        small_order =
            let e : drop free (take free order) ≡ [] = drop_of_length-le (take free order) {i = free} (simp length-take (omega arith)) in
            taken.1.order_list ∙ ap (λ (l : List ℕ). (whole m free free_jacobian residuals).order ++ l) e ∙ append_nil (whole m free free_jacobian residuals).order

        pub order-length : length small.order ≡ free
        order-length = ap length small_order ∙ whole_length

        -- LAW: the state, and that of the problem without the frozen columns
        pub spread-state : one.state ≡ record { m = m; n = n; held = held.Nothing; marks = marks }
        spread-state = is_spread.state ∙ ap (λ (x : Plain). record { m = m; n = n; held = x.held; marks = marks }) taken.1.state

        pub small_state : small.state ≡ state_of m free held.Nothing
        small_state = taken.1.state

        -- LAW: without the frozen columns the store is the one of their factoring
        pub spread-store : narrowed n free one.store ≡ small.store
        spread-store =
            let l = small_length in
            ap (λ (x : List Float). narrowed n free x) is_spread.store
            ∙ spread_out-narrowed n free small.store fewer (omega arith) (drop (length (spread_out n free small.store)) s) l

        -- LAW: and the first places of the order list are its
        pub spread-order : take free one.order ≡ small.order
        spread-order = ap (λ (l : List ℕ). take free l) is_spread.order_list ∙ take_at small.order (count_from (n - free) free ++ drop n order) free order-length

        pub front_length : length (spread_out n free small.store) ≡ store_need n
        front_length = let l = small_length in spread_out-length n free small.store fewer (omega arith)

        -- the first n of the order list
        pub first_order : (n ≤ length one.order) × (take n one.order ≡ (whole m free free_jacobian residuals).order ++ count_from (n - free) free)
        first_order =
            let w = (whole m free free_jacobian residuals).order in
            let more = count_from (n - free) free in
            let a = whole_length in
            let b = count-length (n - free) free in
            let c = length-append w more in
            let l = fewer in
            let e : one.order ≡ (w ++ more) ++ drop n order = is_spread.order_list ∙ ap (λ (x : List ℕ). x ++ (more ++ drop n order)) small_order ∙ sym (append_assoc w more (drop n order)) in
            let d = length-append (w ++ more) (drop n order) in
            (rw e (omega arith), ap (λ (x : List ℕ). take n x) e ∙ take_at (w ++ more) (drop n order) n (omega arith))
