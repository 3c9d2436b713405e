-- The elimination on lent slices, by its tests and by what is worked on them. Assumes nothing.
use mathlib.Core.Path.{◌≡◌, refl, sym, ap, ◌∙◌}
use mathlib.Core.Bool.{false, ◌&&◌, ◌||◌, and-eq-true_iff}
use mathlib.Core.List.{List, [], append-nil}
use Prim.Native.Nat.{ℕ, ◌*◌, ◌<◌, ◌≤◌}
use native.Mathlib.Nat.{mul-le-mul}
use native.Mathlib.Omega.{arith}
use lib.Dec.{ltb, eqb}
use lib.ListN.{length}
use lib.Seq.{take_all}
use lib.Ieee.{Float}
use borrow.Author.Tests.{le-ltb, ltb-false, eqb-true, eqb-false, eq-eqb, ne_eqb, not-false}
use Rattle.leaves.specs.Reply.{Reply, answered, refused, refusal_number}
use Rattle.leaves.specs.declared.reply.Refusal.{Refusal}
use Rattle.leaves.proofs.Replies.{refusal_number-some}
use Rattle.leaves.specs.Tests.{first_of, outside}
use Rattle.leaves.specs.Square.{uppers_of, belows_of, joined}
use Rattle.leaves.proofs.Folds.{nonzero}
use Rattle.leaves.proofs.Joined.{Tall, joined-columns, uppers-joined, belows_joined}
use Rattle.leaves.proofs.Refusals.{passed_iff, call-refused, call-worked}
use Rattle.leaves.proofs.Squares.{uppers_of-length, upper_long}
use Rattle.eliminate.specs.Eliminate.{damping, heads, tails}
use Rattle.eliminate.specs.declared.elimination.Elimination.{Elimination}
use Rattle.eliminate.specs.Eliminated.{Eliminated, eliminated_as, eliminate_tests, eliminate_call}
use Rattle.eliminate.specs.inner.Edges.{Eliminates}
use Rattle.eliminate.proofs.Settling.{tails-length}
use Rattle.eliminate.proofs.Stairs.{damping_stepped, tails_tall}
use Rattle.leaves.proofs.Insides.{neither}
use Rattle.leaves.specs.inner.Squares.{Square}

-- ---- what is known once the tests are passed
-- n columns within their range
pub record Few (n : ℕ) : Type 0 where
  pub some : 0 < n
  pub few : n ≤ 16

pub few_columns : (n : ℕ) → outside 1 n ≡ false → Few n
unfolding outside
few_columns n h =
    let a = neither (eqb 1 0 || ltb 128 1 || eqb n 0) (ltb 16 n) h in
    let b = neither (eqb 1 0 || ltb 128 1) (eqb n 0) a.0 in
    record { some = nonzero n (eqb-false n 0 b.1); few = ltb-false 16 n a.1 }

-- so that their square is small
pub few_cells : {n : ℕ} → Few n → n * n ≤ 256
few_cells f = mul-le-mul f.few f.few

-- every slice of its exact length
pub record Fits (n square ds rhs ldiag : ℕ) : Type 0 where
  pub sizes : Few n
  pub cells : square ≡ n * n
  pub scales : ds ≡ n
  pub right : rhs ≡ n
  pub diagonal : ldiag ≡ n

pub fitting : (n square ds rhs ldiag : ℕ) → 0 ≡ first_of (eliminate_tests n square ds rhs ldiag) → Fits n square ds rhs ldiag
fitting n square ds rhs ldiag e =
    let h = (passed_iff (eliminate_tests n square ds rhs ldiag) refl).0 (sym e) in
    let a = (and-eq-true_iff (eqb square (n * n) && eqb ds n && eqb rhs n) (eqb ldiag n)).0 (not-false _ h.1.0) in
    let b = (and-eq-true_iff (eqb square (n * n) && eqb ds n) (eqb rhs n)).0 a.0 in
    let c = (and-eq-true_iff (eqb square (n * n)) (eqb ds n)).0 b.0 in
    record {
      sizes = few_columns n h.0;
      cells = eqb-true _ _ c.0;
      scales = eqb-true _ _ c.1;
      right = eqb-true _ _ b.1;
      diagonal = eqb-true _ _ a.1;
    }

-- and where they fit no test is met
pub fitted : (n square ds rhs ldiag : ℕ) → Fits n square ds rhs ldiag → first_of (eliminate_tests n square ds rhs ldiag) ≡ 0
unfolding first_of outside
fitted n square ds rhs ldiag f =
    let s = f.sizes in
    let z : eqb n 0 ≡ false = ne_eqb n 0 (λ e. let p = s.some in omega arith) in
    rw (
      z,
      le-ltb 16 n s.few,
      eq-eqb square (n * n) f.cells,
      eq-eqb ds n f.scales,
      eq-eqb rhs n f.right,
      eq-eqb ldiag n f.diagonal,
    )

-- ---- the call, refused and worked
module _ (n : ℕ) (ds s bs l : List Float) where
  abbrev tests : ℕ
  tests = first_of (eliminate_tests n (length s) (length ds) (length bs) (length l))

  -- Lᵀ by rows
  abbrev rows : List (List Float)
  rows = (damping ds (uppers_of n s) bs).0

  pub diag_refused : (r : Refusal) → refusal_number r ≡ tests → eliminated_as (refused (refusal_number r)) s bs l ≡ eliminate_call n ds s bs l
  unfolding eliminate_call
  diag_refused r e = call-refused _ (λ k. eliminated_as (refused k) s bs l) _ (refusal_number r) (sym e) (ne_eqb (refusal_number r) 0 (refusal_number-some r))

  worked : tests ≡ 0 → eliminated_as (answered tt) (joined (uppers_of n s) (tails rows)) (damping ds (uppers_of n s) bs).1 (heads rows) ≡ eliminate_call n ds s bs l
  unfolding eliminate_call
  worked e = call-worked _ (λ k. eliminated_as (refused k) s bs l) _ e

  -- the square that is left, from its two halves
  laid : (s' bs' l' : List Float) → length s' ≡ n * n → Eliminates n ds s s' bs bs' l' → s' ≡ joined (uppers_of n s) (tails rows)
  laid s' bs' l' w e =
      sym (take_all (n * n) s' (omega arith)) ∙ sym (joined-columns n n 0 s') ∙ rw (e.upper, e.below)

  -- of what stands behind the elimination's slices
  pub diag_worked : (r : Elimination) (l' : List Float) → 0 ≡ tests → r.n ≡ n → Eliminates n ds s r.upper_r.now bs r.rhs.now l'
      → {s' bs' : List Float} → s' ≡ r.upper_r.now → bs' ≡ r.rhs.now → eliminated_as (answered tt) s' bs' l' ≡ eliminate_call n ds s bs l
  diag_worked r l' t w e a b = rw (a, b, laid r.upper_r.now r.rhs.now l' (rw w at r.square.whole) e, e.diagonal, e.right) (worked (sym t))

  -- ---- and read again: R and L, each of its shape
  tall : Square n s → Tall n 0 (uppers_of n s) (tails rows)
  tall q =
      let w = uppers_of-length n s in
      let h = damping_stepped n ds (uppers_of n s) bs w in
      let v = h.wide in
      record {
        fits = omega arith;
        wide = w ∙ sym (tails-length rows ∙ v);
        uppers = λ k p. upper_long n s q k (omega arith) ∙ omega arith;
        belows = λ k p. tails_tall n rows h k (omega arith) ∙ omega arith;
      }

  uppers_again : Square n s → uppers_of n (joined (uppers_of n s) (tails rows)) ≡ uppers_of n s
  uppers_again q = rw (append-nil (joined (uppers_of n s) (tails rows)), uppers_of-length n s) at (uppers-joined n 0 (uppers_of n s) (tails rows) [] (tall q))

  belows_again : Square n s → belows_of n (joined (uppers_of n s) (tails rows)) ≡ tails rows
  belows_again q = rw (append-nil (joined (uppers_of n s) (tails rows)), uppers_of-length n s) at (belows_joined n 0 (uppers_of n s) (tails rows) [] (tall q))

-- LAW: what the call leaves where the slices fit, as the inner working has it
pub eliminates : (n : ℕ) (ds s s' bs bs' l₀ l' : List Float) {d : Reply (Unit {0})} → Square n s → 0 < n → length ds ≡ n → length bs ≡ n → length l₀ ≡ n
    → eliminated_as d s' bs' l' ≡ eliminate_call n ds s bs l₀ → Eliminates n ds s s' bs bs' l'
eliminates n ds s s' bs bs' l₀ l' q p hd hb hl e =
    let f = fitted n (length s) (length ds) (length bs) (length l₀) (record { sizes = record { some = p; few = q.small }; cells = q.whole; scales = hd; right = hb; diagonal = hl }) in
    let w = e ∙ sym (worked n ds s bs l₀ f) in
    let x = ap (λ (r : Eliminated). r.square) w in
    record {
      upper = rw x (uppers_again n ds s bs l₀ q);
      below = rw x (belows_again n ds s bs l₀ q);
      diagonal = ap (λ (r : Eliminated). r.ldiag) w;
      right = ap (λ (r : Eliminated). r.rhs) w;
    }
