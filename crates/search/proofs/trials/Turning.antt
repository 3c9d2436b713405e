-- A turn of the trials: what the steps of it, each as its contract says, are of the problem that the search was asked. Assumes nothing.
use mathlib.Core.Path.{◌≡◌, sym, ap, ◌∙◌}
use mathlib.Core.List.{List}
use Prim.Native.Nat.{ℕ}
use native.Mathlib.Omega.{arith}
use lib.ListN.{length, take}
use lib.Seq.{take_all}
use lib.Ieee.{Float}
use Rattle.leaves.specs.Norm.{norm, ranges}
use Rattle.leaves.specs.declared.norm.Ranges.{Ranges}
use Rattle.leaves.specs.Product.{product_all}
use Rattle.factor.specs.Room.{Room, load, lay, leaving, emptied}
use Rattle.factor.specs.Solve.{gather}
use Rattle.eliminate.specs.Eliminate.{heads, tails}
use Rattle.factor.specs.Held.{forward_lower, held_solved}
use Rattle.factor.specs.declared.state.State.{State}
use Rattle.factor.specs.declared.state.Held.TheVariants as held
use Rattle.factor.specs.PivotOrder.{lowered}
use Rattle.search.specs.Problem.{Problem, placed, damped_rows, damped_step, scaled_step, direction, damped_slope, newton}
use Rattle.search.specs.Measured.{held_by_l}
use Rattle.search.specs.declared.lent.TrustRegion.{TrustRegion}
use Rattle.search.specs.inner.Read.{turned_by}
use Rattle.search.specs.inner.Asked.{asked, room, held_by, Kept}
use Rattle.search.proofs.Seeing.{damped_slope-measured}
use Rattle.search.proofs.Workings.{room_shaped, rows_even}
use Rattle.search.proofs.trials.Lowering.{lowered-emptied, lowered_loaded}

-- ---- the problem is R and qt_b, which stay
pub same_problem : (b a : TrustRegion) → Kept b a → emptied (room a) ≡ emptied (room b) → asked a ≡ asked b
unfolding leaving
same_problem b a k h =
    let u : (room a).upper ≡ (room b).upper = ap (λ (x : Room). x.upper) h in
    let q : (room a).qtb ≡ (room b).qtb = ap (λ (x : Room). x.qtb) h in
    rw (u, q, k.st, k.order, k.diag, k.radius)

pub same_room : (b a : TrustRegion) → Kept b a → a.store.now ≡ b.store.now → room a ≡ room b
same_room b a k h = rw (k.st, h)

pub kept_problem : (b a : TrustRegion) → Kept b a → a.store.now ≡ b.store.now → asked a ≡ asked b
kept_problem b a k h = same_problem b a k (ap emptied (same_room b a k h))

pub kept_on : {c b a : TrustRegion} → Kept c b → Kept b a → Kept c a
kept_on k h = record {
  st = h.st ∙ k.st;
  order = h.order ∙ k.order;
  diag = h.diag ∙ k.diag;
  radius = h.radius ∙ k.radius;
  store = h.store ∙ k.store;
  v = h.v ∙ k.v;
  w = h.w ∙ k.w;
}

-- before the trials, before a turn, and after the damped solve of it
module _ (t₀ t t' : TrustRegion) (k : Kept t₀ t) (same : emptied (room t) ≡ emptied (room t₀)) (k' : Kept t t') (lambda : Float) where
  one : asked t ≡ asked t₀
  one = same_problem t₀ t k same

  -- a step in pivot order, and its scaled step
  pub step_asked : placed (asked t) t'.w.now ≡ damped_step (asked t) lambda → placed (asked t₀) t'.w.now ≡ damped_step (asked t₀) lambda
  step_asked h = sym (ap (λ (p : Problem). placed p t'.w.now) one) ∙ h ∙ ap (λ (p : Problem). damped_step p lambda) one

  pub scaled-asked : t'.v.now ≡ scaled_step (asked t) (placed (asked t) t'.w.now) → t'.v.now ≡ scaled_step (asked t₀) (placed (asked t₀) t'.w.now)
  scaled-asked h = h ∙ ap (λ (p : Problem). scaled_step p (placed p t'.w.now)) one

  module _ (h : t'.store.now ≡ lay (lowered (damped_rows (asked t) lambda) (room t))) where
    left_loaded : room t' ≡ lowered (damped_rows (asked t) lambda) (room t)
    left_loaded = ap (λ (st : State). load st.n t'.store.now) k'.st ∙ lowered_loaded t.st.n (damped_rows (asked t) lambda) (room t) (room_shaped t) (rows_even t lambda) h

    pub damped-kept : emptied (room t') ≡ emptied (room t₀)
    damped-kept = ap emptied left_loaded ∙ lowered-emptied t.st.n (damped_rows (asked t) lambda) (room t) (room_shaped t) (rows_even t lambda) ∙ same

    -- the held solve, by the scaled step of the step p
    held-asked : (nrm : Float) (p : List Float) → nrm ≡ norm t'.v.now → t'.v.now ≡ scaled_step (asked t₀) p → held_by held.Damped t' nrm ≡ held_by_l (asked t₀) lambda p
    unfolding held_by_l direction held_solved lowered
    held-asked nrm p a b =
        let f : forward_lower (room t').ldiag (room t').below ≡ forward_lower (heads (damped_rows (asked t₀) lambda).0) (tails (damped_rows (asked t₀) lambda).0) =
        ap (λ (r : Room). forward_lower r.ldiag r.below) left_loaded ∙ ap (λ (q : Problem). forward_lower (heads (damped_rows q lambda).0) (tails (damped_rows q lambda).0)) one in
        let s = k'.st ∙ k.st in
        let o = k'.order ∙ k.order in
        let g = k'.diag ∙ k.diag in
        let v = product_all p (take t₀.st.n t₀.diag.now) in
        let d : gather (take t'.st.n t'.order.places.now) (turned_by nrm t'.v.now t'.diag.now) ≡ gather (take t₀.st.n t₀.order.places.now) (turned_by (norm v) v (take t₀.st.n t₀.diag.now)) =
        rw (a, b, s, o, g, take_all t₀.st.n t₀.diag.now (omega (arith, t₀.diag_len))) in
        rw (f, d)

    -- the correction, and what its norm saw
    pub correction-asked : (fp nrm : Float) (p : List Float) {c : Float} {seen : Ranges} → nrm ≡ norm t'.v.now → t'.v.now ≡ scaled_step (asked t₀) p
        → c ≡ newton fp t'.radius (norm (held_by held.Damped t' nrm)) → seen ≡ ranges (held_by held.Damped t' nrm)
        → (c ≡ newton fp t₀.radius (damped_slope (asked t₀) lambda p)) × (seen ≡ ranges (held_by_l (asked t₀) lambda p))
    correction-asked fp nrm p a b q f =
        let u = held-asked nrm p a b in (
          q ∙ ap (λ (x : List Float). newton fp t'.radius (norm x)) u ∙ ap (newton fp t'.radius) (sym (damped_slope-measured (asked t₀) lambda p)) ∙ ap (λ (r : Float). newton fp r (damped_slope (asked t₀) lambda p)) (k'.radius ∙ k.radius),
          f ∙ ap ranges u,
        )
