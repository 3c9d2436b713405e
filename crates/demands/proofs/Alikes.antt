-- Demand 3 for the calls of `factor` and `measures`: the rooms of two accepted factorings of the same Jacobian and residuals, whatever was lent,
-- are alike; and the run's law at these calls. Assumes nothing.
use mathlib.Core.Path.{◌≡◌, refl, sym, ap, ◌∙◌, subst}
use mathlib.Core.Bool.{Bool, true, false}
use mathlib.Core.List.{List, [], ◌++◌, map, append_assoc}
use Prim.Native.Nat.{ℕ, ◌+◌, ◌*◌, ◌≤◌}
use native.Mathlib.Omega.{arith}
use lib.Dec.{eqb}
use lib.ListN.{length, take, drop, length-append, length-drop, length-map, length-replicate}
use lib.Seq.{take_at, take-append-le, drop-append-le, length-take-le}
use lib.Ieee.{Float}
use borrow.Author.Tests.{eqb-true}
use Rattle.leaves.specs.Reply.{answered, refused}
use Rattle.leaves.specs.Number.{plus_zero}
use Rattle.leaves.specs.Norm.{norm, ranges_of}
use Rattle.leaves.specs.declared.norm.Ranges.{Ranges}
use Rattle.leaves.specs.Triangle.{columns}
use Rattle.leaves.proofs.Replies.{refused-answered}
use Rattle.leaves.specs.Loop.{count_from}
use Rattle.factor.specs.State.{is_empty, empty, store_need, bench_need}
use Rattle.leaves.specs.Square.{uppers_from, belows_from, joined, zeros}
use Rattle.factor.specs.Room.{part, load, lay}
use Rattle.reduce.specs.Reduction.{Reduction, reduction_of, measured}
use Rattle.factor.specs.Factoring.{uppers, transformed, no_lower, Factored, factored, factor_tests, factored_room, finite_room, factor_worked, factor_call}
use Rattle.factor.specs.Outcome.{written}
use Rattle.leaves.specs.Tests.{first_of}
use Rattle.factor.specs.inner.Worked.{SquareLong}
use Rattle.demands.specs.Calls.{StoreOutcome, StoreCall, perform_store, run, latest}
use Rattle.factor.specs.declared.state.Held.TheVariants as held
use Rattle.factor.specs.declared.state.State.{State}
use Rattle.factor.proofs.Passed.{factor_passed}
use Rattle.leaves.proofs.Squares.{columns-length}
use Rattle.factor.proofs.Shapes.{square_filled, order_listed}
use Rattle.leaves.proofs.Joined.{columns-same}
use Rattle.factor.proofs.Stores.{transformed_long}
use Rattle.demands.proofs.Keeping.{settling, laws}
use Rattle.demands.proofs.Histories.{run-size, run_orders, history}
use Rattle.demands.specs.inner.Helds.{is_store_held}
use Rattle.demands.specs.Alike.{Alike, HeldAlike, ToldAlike, SameContents}

-- ---- two stores that differ in their surplus alone
module _ (n : ℕ) (front a b : List Float) (h : length front ≡ n * n + 4 * n) where
  columns-alike : columns n n (front ++ a) ≡ columns n n (front ++ b)
  columns-alike =
      columns-same n n (front ++ a) (front ++ b) (take-append-le (n * n) front a (omega arith) ∙ sym (take-append-le (n * n) front b (omega arith)))

  part_front : (k : ℕ) (x : List Float) → n * n + k * n + n ≤ length front → part n k (front ++ x) ≡ take n (drop (n * n + k * n) front)
  unfolding part
  part_front k x l =
      let d = length-drop (n * n + k * n) front in
      ap (λ (z : List Float). take n z) (drop-append-le (n * n + k * n) front x (omega arith)) ∙ take-append-le n (drop (n * n + k * n) front) x (omega arith)

  part_alike : (k : ℕ) → n * n + k * n + n ≤ length front → part n k (front ++ a) ≡ part n k (front ++ b)
  part_alike k l = part_front k a l ∙ sym (part_front k b l)

  pub surplus_alike : Alike (load n (front ++ a)) (load n (front ++ b)) × HeldAlike (load n (front ++ a)) (load n (front ++ b))
  unfolding load
  surplus_alike = (
    record { upper = ap (λ (c : List (List Float)). uppers_from 0 c) columns-alike; qtb = part_alike 0 (omega arith); norms = part_alike 1 (omega arith) },
    record { below = ap (λ (c : List (List Float)). belows_from 0 c) columns-alike; ldiag = part_alike 2 (omega arith) },
  )

-- LAW: the room of an accepted factoring, by two surpluses. `SquareLong` is what the working of a factoring ensures.
module _ (m n : ℕ) (norms : List Float) (f : Reduction) (wide : length norms ≡ n) (sl : SquareLong m n f) where
  abbrev front : List Float
  front = joined (uppers m 0 f.cols f.diag) (no_lower n) ++ (transformed n f.rhs ++ (norms ++ (zeros n ++ zeros n)))

  front_long : length front ≡ n * n + 4 * n
  front_long =
      let t = transformed_long n f.rhs in
      let z : length (zeros n) ≡ n = length-replicate n plus_zero in
      simp length-append (omega arith)

  front_laid : (a : List Float) → lay (factored_room m n norms f a) ≡ front ++ a
  unfolding lay factored_room
  front_laid a = simp append_assoc

  laid_long : (a : List Float) → store_need n ≤ length (lay (factored_room m n norms f a))
  laid_long a = rw (front_laid a, length-append front a, front_long) (omega arith)

  pub laid_length : (a : List Float) → length (lay (factored_room m n norms f a)) ≡ store_need n + length a
  laid_length a = rw (front_laid a, length-append front a, front_long)

  pub factored-alike : (a b : List Float) → (let s = lay (factored_room m n norms f a) in
      let t = lay (factored_room m n norms f b) in
      Alike (load n s) (load n t) × HeldAlike (load n s) (load n t))
  factored-alike a b = rw (front_laid a, front_laid b) (surplus_alike n front a b front_long)

-- ---- an accepted factoring
module _ (m n : ℕ) (jacobian residuals : List Float) where
  abbrev pub norms : List Float
  norms = map norm (columns m n jacobian)

  abbrev pub whole : Reduction
  whole = reduction_of m n (columns m n jacobian) (take m residuals)

  pub record Accepted (s : List Float) (order : List ℕ) (g : Factored) : Type 0 where
    pub state : g.state ≡ record { m = m; n = n; held = held.Nothing }
    pub store : g.store ≡ lay (factored_room m n norms whole (drop (store_need n) s))
    pub order_list : g.order ≡ whole.order ++ drop n order

  module _ (s : List Float) (order : List ℕ) (bench : List Float) where
    abbrev pub tested : ℕ
    tested = first_of (factor_tests m n jacobian residuals (length s) (length order) (length bench))

    worked-accepted : {f : Ranges} → (factor_worked m n jacobian residuals s order bench).reply ≡ answered f → Accepted s order (factor_worked m n jacobian residuals s order bench)
    unfolding factor_worked
    worked-accepted {f} = by (finite_room (factored_room m n norms whole (drop (store_need n) s))) f
      where
        by : (x : Bool) → (let g : Factored = elim x [
          | true ↦ factored (answered (ranges_of (measured m n (columns m n jacobian) (take m residuals)))) (record { m = m; n = n; held = held.Nothing }) (lay (factored_room m n norms whole (drop (store_need n) s))) (whole.order ++ drop n order) (written (zeros (bench_need m n)) bench)
          | false ↦ factored (refused 8) empty (written (zeros (store_need n)) s) (count_from n 0 ++ drop n order) (written (zeros (bench_need m n)) bench)
        ] in (f : Ranges) → g.reply ≡ answered f → Accepted s order g)
        by true f h = record { state = refl; store = refl; order_list = refl }
        by false f h = refused-answered h

    -- LAW: what an accepted factoring leaves
    pub accepted : {f : Ranges} → (factor_call m n jacobian residuals s order bench).reply ≡ answered f
        → (tested ≡ 0) × Accepted s order (factor_call m n jacobian residuals s order bench)
    unfolding factor_call
    accepted {f} = by (eqb tested 0) refl f
      where
        by : (x : Bool) → eqb tested 0 ≡ x
            → (let g : Factored = elim x [ true ↦ factor_worked m n jacobian residuals s order bench | false ↦ factored (refused tested) empty s order bench ] in
            (f : Ranges) → g.reply ≡ answered f → (tested ≡ 0) × Accepted s order g)
        by true e f h = (eqb-true tested 0 e, worked-accepted h)
        by false e f h = refused-answered h

  -- LAW: two accepted factorings, whatever was lent to each
  pub refactored : (s t : List Float) (o p : List ℕ) (b d : List Float) {e f : Ranges} → (let g = factor_call m n jacobian residuals s o b in
      let h = factor_call m n jacobian residuals t p d in
      g.reply ≡ answered e → h.reply ≡ answered f
      → SameContents g.state g.store h.store × (g.state ≡ h.state) × (is_empty g.state.held ≡ false))
  refactored s t o p b d x y =
      let g = accepted s o b x in
      let h = accepted t p d y in
      let z = factor_passed m n jacobian residuals (length s) (length o) (length b) g.0 in
      let sl = square_filled m n jacobian (take m residuals) z.jacobian_long (length-take-le m residuals z.residuals_long) in
      let w : length norms ≡ n = length-map (columns m n jacobian) norm ∙ columns-length m n jacobian in
      let a = factored-alike m n norms whole w sl (drop (store_need n) s) (drop (store_need n) t) in
      let l = laid_long m n norms whole w sl in (
        rw (g.1.state, g.1.store, h.1.store) (record {
          long_left = l (drop (store_need n) s);
          long_right = l (drop (store_need n) t);
          alike = a.0;
          held_alike = a.1;
        }),
        g.1.state ∙ sym h.1.state,
        rw g.1.state,
      )

  -- and their order lists
  pub reordered : (s t : List Float) (o p : List ℕ) (b d : List Float) {e f : Ranges} → (let g = factor_call m n jacobian residuals s o b in
      let h = factor_call m n jacobian residuals t p d in
      g.reply ≡ answered e → h.reply ≡ answered f → (n ≤ length g.order) × (n ≤ length h.order) × (take n g.order ≡ take n h.order))
  reordered s t o p b d x y =
      let g = accepted s o b x in
      let h = accepted t p d y in
      let z = factor_passed m n jacobian residuals (length s) (length o) (length b) g.0 in
      let l = order_listed m n jacobian (take m residuals) z.jacobian_long (length-take-le m residuals z.residuals_long) in
      rw (g.1.order_list, h.1.order_list)
      (longer (drop n o) l, longer (drop n p) l, take_at whole.order (drop n o) n l ∙ sym (take_at whole.order (drop n p) n l))
    where
      longer : (a : List ℕ) → length whole.order ≡ n → n ≤ length (whole.order ++ a)
      longer a l = let e = length-append whole.order a in omega arith

-- LAW: demand 3 for the calls of `factor` and `measures`
pub factor_history : (order : List ℕ) (st : State) (s t : List Float) → is_empty st.held ≡ false → SameContents st s t → (cs : List StoreCall) (c : StoreCall)
    → (let x = run perform_store order cs st s in
    let y = run perform_store order (latest perform_store order settling [] cs st s) st t in
    ToldAlike (perform_store c x.0 order x.1) (perform_store c y.0 order y.1))
factor_history order st s t e a cs c = history perform_store is_store_held settling laws order st t e a.long_right s a.long_left a.alike a.held_alike cs c

-- LAW: demand 3 as it is asked: two factorings of the same Jacobian and residuals, each in its own lent slices; any run of calls after
-- the one, and after the other the latest of them that settled; then the same call tells the same.
module _ (m n : ℕ) (jacobian residuals s t : List Float) (o p : List ℕ) (b d : List Float) where
  abbrev pub one : Factored
  one = factor_call m n jacobian residuals s o b

  abbrev pub other : Factored
  other = factor_call m n jacobian residuals t p d

  pub as_fresh : {f g : Ranges} → one.reply ≡ answered f → other.reply ≡ answered g → (cs : List StoreCall) (c : StoreCall)
      → (let x = run perform_store one.order cs one.state one.store in
      let y = run perform_store other.order (latest perform_store one.order settling [] cs one.state one.store) other.state other.store in
      ToldAlike (perform_store c x.0 one.order x.1) (perform_store c y.0 other.order y.1))
  as_fresh a e cs c =
      let w = refactored m n jacobian residuals s t o p b d a e in
      let v = reordered m n jacobian residuals s t o p b d a e in
      let last = latest perform_store one.order settling [] cs one.state one.store in
      let k : n ≡ one.state.n = sym (ap (λ (z : State). z.n) (accepted m n jacobian residuals s o b a).1.state) in
      let lo = subst (λ (i : ℕ). i ≤ length one.order) k v.0 in
      let lp = subst (λ (i : ℕ). i ≤ length other.order) k v.1 in
      let same = subst (λ (i : ℕ). take i one.order ≡ take i other.order) k v.2 in
      let h = factor_history one.order one.state one.store other.store w.2 w.0 cs c in
      let x = run perform_store one.order cs one.state one.store in
      let move = run_orders perform_store is_store_held settling laws one.order other.order last one.state other.store lo lp same in
      let y = run perform_store other.order last one.state other.store in
      let j = run-size perform_store is_store_held settling laws other.order last one.state other.store in
      let next : perform_store c y.0 one.order y.1 ≡ perform_store c y.0 other.order y.1 =
      (laws c).orders y.0 one.order other.order y.1 (subst (λ (i : ℕ). i ≤ length one.order) (sym j) lo)
      (subst (λ (i : ℕ). i ≤ length other.order) (sym j) lp) (subst (λ (i : ℕ). take i one.order ≡ take i other.order) (sym j) same) in
      let there = subst (λ (z : State × List Float). ToldAlike (perform_store c x.0 one.order x.1) (perform_store c z.0 one.order z.1)) move h in
      subst (λ (st : State). (let z = run perform_store other.order last st other.store in
      ToldAlike (perform_store c x.0 one.order x.1) (perform_store c z.0 other.order z.1))) w.1
      (subst (λ (u : StoreOutcome). ToldAlike (perform_store c x.0 one.order x.1) u) next there)
