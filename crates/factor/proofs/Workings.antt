-- A factoring from its lent slices to its lent slices. Assumes nothing.
use mathlib.Core.Path.{◌≡◌, refl, sym, ap, ◌∙◌}
use mathlib.Core.Bool.{true, false}
use mathlib.Core.List.{List, [], ◌++◌, map, append_assoc}
use Prim.Native.Nat.{ℕ, ◌+◌, ◌*◌, ◌≤◌}
use native.Mathlib.Nat.{mul_comm, suc-mul}
use native.Mathlib.Omega.{arith}
use lib.ListN.{length, get_or, take, drop, replicate, length-append, length-replicate}
use lib.Seq.{length-take-le, take_at, drop_at, drop-drop}
use lib.Ieee.{Float}
use Rattle.std.specs.Prelude.{Ok, Err}
use Rattle.leaves.specs.declared.reply.Refusal.TheVariants as refusal
use Rattle.leaves.specs.Number.{plus_zero}
use Rattle.leaves.specs.Norm.{norm, ranges_of}
use Rattle.leaves.specs.declared.norm.Ranges.{Ranges}
use Rattle.leaves.specs.Reply.{Reply}
use Rattle.leaves.specs.Triangle.{columns}
use Rattle.leaves.specs.Loop.{count_from}
use Rattle.leaves.specs.Square.{joined, zeros}
use Rattle.factor.specs.Room.{lay}
use Rattle.factor.specs.State.{store_need, bench_need}
use Rattle.factor.specs.Outcome.{written}
use Rattle.leaves.specs.Tests.{outside, all_finite}
use Rattle.reduce.specs.Reduction.{Reduction, reduction_of, measured}
use Rattle.factor.specs.Factoring.{uppers, no_lower, transformed, factored_room, finite_room, Factored, factor_worked}
use Rattle.reduce.specs.inner.Bench.{grid, Benched, Reduces}
use Rattle.reduce.specs.Reduced.{reduced_as, filled_call}
use Rattle.factor.specs.inner.Worked.{outcome, SquareLong}
use Rattle.leaves.proofs.Squares.{columns-length}
use Rattle.leaves.proofs.Overs.{lent_long}
use Rattle.reduce.proofs.Filled.{filled_reduces}
use Rattle.factor.proofs.Lays.{finite-append, finite_square}
use Rattle.reduce.proofs.Begins.{norms-length, front_columns}
use Rattle.factor.proofs.Stores.{transformed_long, norms_part}

-- ---- the store by its parts
module _ (n : ℕ) (a q v rest : List Float) (la : length a ≡ n * n) (lq : length q ≡ n) (lv : length v ≡ n) where
  pub head_laid : take (n * n + 2 * n) (a ++ (q ++ (v ++ (zeros n ++ (zeros n ++ rest))))) ≡ (a ++ q) ++ v
  head_laid =
      let t : List Float = zeros n ++ (zeros n ++ rest) in
      let l : length ((a ++ q) ++ v) ≡ n * n + 2 * n = length-append (a ++ q) v ∙ (let u = length-append a q in omega arith) in
      let e : a ++ (q ++ (v ++ t)) ≡ ((a ++ q) ++ v) ++ t = sym (append_assoc (a ++ q) v t ∙ append_assoc a q (v ++ t)) in
      ap (take (n * n + 2 * n)) e ∙ take_at ((a ++ q) ++ v) t (n * n + 2 * n) l

  pub rest_laid : drop (n * n + 4 * n) (a ++ (q ++ (v ++ (zeros n ++ (zeros n ++ rest))))) ≡ rest
  rest_laid =
      let z : List Float = zeros n in
      let lz : length z ≡ n = length-replicate n plus_zero in
      let p : List Float = (((a ++ q) ++ v) ++ z) ++ z in
      let l : length p ≡ n * n + 4 * n =
      length-append (((a ++ q) ++ v) ++ z) z ∙ (let u₁ = length-append ((a ++ q) ++ v) z in let u₂ = length-append (a ++ q) v in let u₃ = length-append a q in omega arith) in
      let e : a ++ (q ++ (v ++ (z ++ (z ++ rest)))) ≡ p ++ rest =
      sym (append_assoc (((a ++ q) ++ v) ++ z) z rest ∙ append_assoc ((a ++ q) ++ v) z (z ++ rest) ∙ append_assoc (a ++ q) v (z ++ (z ++ rest)) ∙ append_assoc a q (v ++ (z ++ (z ++ rest)))) in
      ap (drop (n * n + 4 * n)) e ∙ drop_at p rest (n * n + 4 * n) l

-- ---- the factored room
pub norms_long : (m n : ℕ) (jac : List Float) → length (map norm (columns m n jac)) ≡ n
norms_long m n jac = norms-length (columns m n jac) ∙ columns-length m n jac

-- of what stands in the bench
module _ (m n : ℕ) (bench store : List Float) (filled : SquareLong m n (reduction_of m n (columns m n (take (m * n) bench)) (take m (drop (m * n) bench)))) where
  abbrev cols : List (List Float)
  cols = columns m n (take (m * n) bench)

  abbrev f : Reduction
  f = reduction_of m n cols (take m (drop (m * n) bench))

  abbrev laid : List Float
  laid = lay (factored_room m n (map norm cols) f (drop (n * n + 4 * n) store))

  finite_laid : all_finite (take (n * n + 2 * n) laid) ≡ finite_room (factored_room m n (map norm cols) f (drop (n * n + 4 * n) store))
  unfolding lay factored_room finite_room
  finite_laid =
      let a : List Float = joined (uppers m 0 f.cols f.diag) (no_lower n) in
      let q : List Float = transformed n f.rhs in
      let v : List Float = map norm cols in
      ap all_finite (head_laid n a q v (drop (n * n + 4 * n) store) filled (transformed_long n f.rhs) (norms_long m n (take (m * n) bench)))
      ∙ finite-append (a ++ q) v ∙ rw (finite-append a q, finite_square n (uppers m 0 f.cols f.diag))

  laid_rest : drop (n * n + 4 * n) laid ≡ drop (n * n + 4 * n) store
  unfolding lay factored_room
  laid_rest =
      rest_laid n (joined (uppers m 0 f.cols f.diag) (no_lower n)) (transformed n f.rhs) (map norm cols) (drop (n * n + 4 * n) store) filled (transformed_long n f.rhs) (norms_long m n (take (m * n) bench))

  module _
      (order o : List ℕ) (s b : List Float) (es : s ≡ laid) (eo : o ≡ f.order ++ drop n order) (eb : b ≡ zeros (m * n + m) ++ drop (m * n + m) bench) (seen : Ranges)
      (ef : seen ≡ ranges_of (measured m n cols (take m (drop (m * n) bench)))) where
    bench_as : b ≡ zeros (m * n + m) ++ drop (length (zeros (m * n + m))) bench
    bench_as =
        let l : length (zeros (m * n + m)) ≡ m * n + m = length-replicate (m * n + m) plus_zero in
        rw l eb

    pub stands : all_finite (take (n * n + 2 * n) s) ≡ true → outcome (Ok seen) m n s o b ≡ factor_worked m n (take (m * n) bench) (drop (m * n) bench) store order bench
    unfolding factor_worked
    stands t =
        let g = sym finite_laid ∙ ap (λ (x : List Float). all_finite (take (n * n + 2 * n) x)) (sym es) ∙ t in
        rw (g, factor_worked) (rw (ef, es, eo, bench_as))

    pub falls : (s' : List Float) (o' : List ℕ) (b' : List Float) → length f.order ≡ n → all_finite (take (n * n + 2 * n) s) ≡ false
        → s' ≡ zeros (n * n + 4 * n) ++ drop (n * n + 4 * n) s → o' ≡ count_from n 0 ++ drop n o → b' ≡ b
        → outcome (Err refusal.Overflow) m n s' o' b' ≡ factor_worked m n (take (m * n) bench) (drop (m * n) bench) store order bench
    unfolding factor_worked
    falls s' o' b' lo t es' eo' eb' =
        let g = sym finite_laid ∙ ap (λ (x : List Float). all_finite (take (n * n + 2 * n) x)) (sym es) ∙ t in
        let l : length (zeros (n * n + 4 * n)) ≡ n * n + 4 * n = length-replicate (n * n + 4 * n) plus_zero in
        let d : drop (n * n + 4 * n) s ≡ drop (n * n + 4 * n) store = ap (drop (n * n + 4 * n)) es ∙ laid_rest in
        let i : drop n o ≡ drop n order = ap (drop n) eo ∙ drop_at f.order (drop n order) n lo in
        rw (g, factor_worked) (rw (es', eo', eb', d, i, bench_as, l))

-- ---- what a reduction hands over

-- the norms in the store, r_diag in a room of 16
pub store-reduced : (m n : ℕ) (store room v d b₀ b : List Float) (o₀ o : List ℕ) (w : ℕ) {r : Reply Ranges} → Benched m n b₀ → outside m n ≡ false
    → n * n + 4 * n ≤ length store → length o₀ ≡ n → room ≡ replicate 16 plus_zero → w ≡ n
    → reduced_as r v d o b ≡ filled_call m n (take w (drop (n * n + n) store)) (take n room) o₀ b₀ → Reduces m n (take (m * n) b₀) (drop (m * n) b₀) r v d o b
store-reduced m n store room v d b₀ b o₀ o w hb ho hs lo er ew e =
    filled_reduces m n (take w (drop (n * n + n) store)) (take n room) o₀ b₀ ho (norms_part n store w ew hs) (lent_long n room er hb.across) lo
    (hb.whole ∙ omega (arith, mul_comm m n, suc-mul n m)) v d b o e

module _ (m n : ℕ) (jac res v d d₁ b : List Float) (o : List ℕ) {a : Reply Ranges} (r : Reduces m n jac res a v d o b) (ed : d₁ ≡ d) where
  pub room_laid : (s store store₁ : List Float) → take n (drop (n * n + n) store₁) ≡ v → drop (n * n + 4 * n) store₁ ≡ drop (n * n + 4 * n) store
      → s ≡ joined (uppers m 0 (take n (grid m n b)) d₁) (no_lower n) ++ (transformed n (get_or (grid m n b) n []) ++ (take n (drop (n * n + n) store₁) ++ (zeros n ++ (zeros n ++ drop (n * n + 4 * n) store₁))))
      → s ≡ lay (factored_room m n (map norm (columns m n jac)) (reduction_of m n (columns m n jac) res) (drop (n * n + 4 * n) store))
  unfolding lay factored_room
  room_laid s store store₁ en er es = es ∙ rw (en ∙ r.norms, er, r.cols, r.rhs, ed ∙ r.diag)

  pub room_long : length (joined (uppers m 0 (take n (grid m n b)) d₁) (no_lower n)) ≡ n * n → SquareLong m n (reduction_of m n (columns m n jac) res)
  room_long l = rw (r.cols, ed ∙ r.diag) at l

-- ---- lent numbers, copied to the bench first
module _ (m n : ℕ) (store : List Float) (order : List ℕ) where
  abbrev worked_of : List (List Float) → List Float → List Float → Factored
  worked_of cols rhs left =
      let f = reduction_of m n cols rhs in
      let r = factored_room m n (map norm cols) f (drop (store_need n) store) in
      let b = zeros (bench_need m n) ++ left in
      elim (finite_room r) [
        | true ↦ outcome (Ok (ranges_of (measured m n cols rhs))) m n (lay r) (f.order ++ drop n order) b
        | false ↦ outcome (Err refusal.Overflow) m n (written (zeros (store_need n)) store) (count_from n 0 ++ drop n order) b
      ]

  worked_of_lem : (jac res bench : List Float) → factor_worked m n jac res store order bench ≡ worked_of (columns m n jac) (take m res) (drop (length (zeros (bench_need m n))) bench)
  unfolding factor_worked
  worked_of_lem jac res bench = refl

  pub worked-copied : (jac res bench b : List Float) → m * n ≤ length jac → m ≤ length res → b ≡ take (m * n) jac ++ (take m res ++ drop (m * n + m) bench)
      → factor_worked m n (take (m * n) b) (drop (m * n) b) store order b ≡ factor_worked m n jac res store order bench
  worked-copied jac res bench b hj hr eb =
      let t : List Float = take m res ++ drop (m * n + m) bench in
      let lj : length (take (m * n) jac) ≡ m * n = length-take-le (m * n) jac hj in
      let lr : length (take m res) ≡ m = length-take-le m res hr in
      let lz : length (zeros (m * n + m)) ≡ m * n + m = length-replicate (m * n + m) plus_zero in
      let back : drop (m * n) b ≡ t = ap (drop (m * n)) eb ∙ drop_at (take (m * n) jac) t (m * n) lj in
      let cols : columns m n (take (m * n) b) ≡ columns m n jac = ap (columns m n) (ap (take (m * n)) eb ∙ take_at (take (m * n) jac) t (m * n) lj) ∙ front_columns m n jac in
      let rhs : take m (drop (m * n) b) ≡ take m res = ap (take m) back ∙ take_at (take m res) (drop (m * n + m) bench) m lr in
      let left : drop (length (zeros (m * n + m))) b ≡ drop (length (zeros (m * n + m))) bench =
      rw lz (sym (drop-drop m (m * n) b) ∙ ap (drop m) back ∙ drop_at (take m res) (drop (m * n + m) bench) m lr) in
      worked_of_lem (take (m * n) b) (drop (m * n) b) b ∙ rw (cols, rhs, left) (sym (worked_of_lem jac res bench))
