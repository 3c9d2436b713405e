-- Demand 3 with marks, as it is asked: two factorings of the same Jacobian and residuals with the same marks, each in its own lent slices; any run of calls
-- after the one, and after the other the latest of them that settled; then the same call tells the same. Assumes nothing.
use mathlib.Core.Path.{◌≡◌, refl, sym, ap, ◌∙◌, subst}
use mathlib.Core.Bool.{Bool, true, false}
use mathlib.Core.List.{List, [], ◌++◌}
use Prim.Native.Nat.{ℕ, ◌≤◌}
use native.Mathlib.Omega.{arith}
use lib.Dec.{eqb}
use lib.ListN.{length, take, drop, length-append}
use lib.Ieee.{Float}
use borrow.Author.Tests.{eqb-true, eqb-false}
use Rattle.leaves.specs.Reply.{answered}
use Rattle.leaves.specs.declared.norm.Ranges.{Ranges}
use Rattle.frozen.specs.Narrowed.{spread_out}
use Rattle.factor.specs.Factoring as plain
use Rattle.factor.specs.Outcome.{written}
use Rattle.factor.specs.State.{is_empty, state_of, store_need}
use Rattle.factor.specs.declared.state.Held.TheVariants as held
use Rattle.factor.specs.declared.state.State.{State as Plain}
use Rattle.calls.specs.declared.state.State.{State}
use Rattle.calls.specs.State.{marked, whole}
use Rattle.calls.specs.Factoring.{MarkedFactored, factored_as, marked_factoring}
use Rattle.demands.specs.Calls.{run, latest}
use Rattle.demands.specs.History.{Call}
use Rattle.demands.specs.Alike.{ToldAlike, SameContents}
use Rattle.demands.specs.Marked.{perform_under, settling_under}
use Rattle.demands.proofs.Alikes.{surplus_alike, accepted, refactored, reordered}
use Rattle.demands.proofs.MarkedForms.{factoring_no_marks}
use Rattle.demands.proofs.FrozenHistories.{frozen_any-lent}
use Rattle.demands.proofs.FrozenFactored.{free, small, is_spread, small_store, spread-state, front_length, first_order}

-- what two factorings have in common
pub record Common (n : ℕ) (g h : MarkedFactored) : Type 0 where
  pub size : g.state.n ≡ n
  pub state : g.state ≡ h.state
  pub filled : is_empty g.state.held ≡ false
  pub contents : SameContents (whole g.state) g.store h.store
  pub left_long : n ≤ length g.order
  pub right_long : n ≤ length h.order
  pub same_order : take n g.order ≡ take n h.order

-- two stores that differ in their surplus alone
surplus_same : (m n : ℕ) (front a b : List Float) → length front ≡ store_need n → SameContents (state_of m n held.Nothing) (front ++ a) (front ++ b)
surplus_same m n front a b h =
    let w = surplus_alike n front a b h in
    let x = length-append front a in
    let y = length-append front b in
    record { long_left = omega arith; long_right = omega arith; alike = w.0; held_alike = w.1 }

module _ (m n marks : ℕ) (jacobian residuals s t : List Float) (o p : List ℕ) (b d : List Float) where
  abbrev pub one : MarkedFactored
  one = marked_factoring m n marks jacobian residuals s o b

  abbrev pub other : MarkedFactored
  other = marked_factoring m n marks jacobian residuals t p d

  some_common : (marks ≡ 0 → ⊥) → {f g : Ranges} → one.reply ≡ answered f → other.reply ≡ answered g → Common n one other
  some_common k x y =
      let front = spread_out n (free m n marks jacobian residuals) (small m n marks jacobian residuals s o b).store in
      let l = front_length m n marks jacobian residuals s o b k x in
      let st = spread-state m n marks jacobian residuals s o b k x in
      let e : (small m n marks jacobian residuals t p d).store ≡ (small m n marks jacobian residuals s o b).store =
      small_store m n marks jacobian residuals t p d k y ∙ sym (small_store m n marks jacobian residuals s o b k x) in
      let u : one.store ≡ written front s = (is_spread m n marks jacobian residuals s o b k x).store in
      let v : other.store ≡ written front t = (is_spread m n marks jacobian residuals t p d k y).store ∙ ap (λ (z : List Float). written (spread_out n (free m n marks jacobian residuals) z) t) e in
      let i = first_order m n marks jacobian residuals s o b k x in
      let j = first_order m n marks jacobian residuals t p d k y in
      record {
        size = ap (λ (z : State). z.n) st;
        state = st ∙ sym (spread-state m n marks jacobian residuals t p d k y);
        filled = ap (λ (z : State). is_empty z.held) st;
        contents = subst (λ (z : Plain). SameContents z one.store other.store) (sym (ap whole st)) (rw (u, v) (surplus_same m n front (drop (length front) s) (drop (length front) t) l));
        left_long = i.0;
        right_long = j.0;
        same_order = i.1 ∙ sym j.1;
      }

  -- with no mark they are factorings without marks
  abbrev plain_one : plain.Factored
  plain_one = plain.factor_call m n jacobian residuals s o b

  abbrev plain_other : plain.Factored
  plain_other = plain.factor_call m n jacobian residuals t p d

  plain_common : {f g : Ranges} → plain_one.reply ≡ answered f → plain_other.reply ≡ answered g → Common n (factored_as plain_one) (factored_as plain_other)
  plain_common x y =
      let w = refactored m n jacobian residuals s t o p b d x y in
      let v = reordered m n jacobian residuals s t o p b d x y in
      record {
        size = ap (λ (z : Plain). z.n) (accepted m n jacobian residuals s o b x).1.state;
        state = ap (λ (z : Plain). marked 0 z) w.1;
        filled = w.2;
        contents = w.0;
        left_long = v.0;
        right_long = v.1;
        same_order = v.2;
      }

  none_common : marks ≡ 0 → {f g : Ranges} → one.reply ≡ answered f → other.reply ≡ answered g → Common n one other
  none_common k x y =
      let i : one ≡ factored_as plain_one = ap (λ (z : ℕ). marked_factoring m n z jacobian residuals s o b) k ∙ factoring_no_marks m n jacobian residuals s o b in
      let j : other ≡ factored_as plain_other = ap (λ (z : ℕ). marked_factoring m n z jacobian residuals t p d) k ∙ factoring_no_marks m n jacobian residuals t p d in
      subst (λ (z : MarkedFactored). Common n z other) (sym i) (subst (λ (z : MarkedFactored). Common n (factored_as plain_one) z) (sym j)
      (plain_common (sym (ap (λ (z : MarkedFactored). z.reply) i) ∙ x) (sym (ap (λ (z : MarkedFactored). z.reply) j) ∙ y)))

  pub common : {f g : Ranges} → one.reply ≡ answered f → other.reply ≡ answered g → Common n one other
  common {f} {g} x y = by (eqb marks 0) refl
    where
      by : (z : Bool) → eqb marks 0 ≡ z → Common n one other
      by true e = none_common (eqb-true marks 0 e) x y
      by false e = some_common (eqb-false marks 0 e) x y

  -- LAW: both states have the marks that were given
  pub same-state : {f g : Ranges} → one.reply ≡ answered f → other.reply ≡ answered g → one.state ≡ other.state
  same-state x y = (common x y).state

  -- LAW
  pub frozen_as_fresh : {f g : Ranges} → one.reply ≡ answered f → other.reply ≡ answered g → (cs : List Call) (c : Call)
      → (let x = run (perform_under marks) one.order cs (whole one.state) one.store in
      let y = run (perform_under marks) other.order (latest (perform_under marks) one.order (settling_under marks) [] cs (whole one.state) one.store) (whole other.state) other.store in
      ToldAlike (perform_under marks c x.0 one.order x.1) (perform_under marks c y.0 other.order y.1))
  frozen_as_fresh a e cs c =
      let w = common a e in
      let k = sym w.size in
      let x = run (perform_under marks) one.order cs (whole one.state) one.store in
      let last = latest (perform_under marks) one.order (settling_under marks) [] cs (whole one.state) one.store in
      let h = frozen_any-lent marks one.order other.order (whole one.state) one.store other.store w.filled w.contents
      (subst (λ (i : ℕ). i ≤ length one.order) k w.left_long) (subst (λ (i : ℕ). i ≤ length other.order) k w.right_long)
      (subst (λ (i : ℕ). take i one.order ≡ take i other.order) k w.same_order) cs c in
      subst (λ (st : State). (let z = run (perform_under marks) other.order last (whole st) other.store in
      ToldAlike (perform_under marks c x.0 one.order x.1) (perform_under marks c z.0 other.order z.1))) w.state h
