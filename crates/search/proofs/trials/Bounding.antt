-- The bounds of a search, from what the held calls tell, and the run that begins with them. Assumes nothing.
use mathlib.Core.Path.{◌≡◌, sym, ap, subst, ◌∙◌}
use mathlib.Core.Bool.{Bool, true, false, cond}
use mathlib.Core.List.{List}
use Prim.Native.Nat.{ℕ}
use native.Mathlib.Omega.{arith}
use lib.ListN.{length, take}
use lib.Seq.{take_all}
use lib.Ieee.{Float, binary64, sub}
use Rattle.std.specs.Prelude.{Result}
use Rattle.leaves.specs.declared.reply.Refusal.{Refusal}
use Rattle.search.specs.declared.LMParameter.{LMParameter}
use Rattle.leaves.specs.Reply.{refused}
use Rattle.leaves.specs.Number.{plus_zero, is_finite}
use Rattle.leaves.specs.Norm.{norm, neither, either, ranges, ranges_of}
use Rattle.leaves.specs.declared.norm.Ranges.{Ranges}
use Rattle.leaves.proofs.Seen.{either-more}
use Rattle.factor.specs.Solve.{gather, non_singular_of}
use Rattle.leaves.specs.Product.{product_all}
use Rattle.factor.specs.Held.{held_solved}
use Rattle.factor.specs.declared.state.Held.TheVariants as held
use Rattle.search.specs.Problem.{Problem, placed, scaled_step, scaled_norm, direction, undamped_slope, newton}
use Rattle.search.specs.Bounds.{lower_bound_of, gnorm, upper_bound, first_lambda}
use Rattle.search.specs.Run as run
use Rattle.search.specs.Run.{Run, Next, lower_bound, gradient_norm, trials_from}
use Rattle.search.specs.Measured.{held_by_r, gradient_by, measured_bounds, measured_trials}
use Rattle.search.specs.Search.{Answer, concluded}
use Rattle.search.specs.declared.lent.TrustRegion.{TrustRegion}
use Rattle.search.specs.inner.Read.{turned_by, damped, unanswered, with_step}
use Rattle.search.specs.inner.Asked.{asked, room, held_by}
use Rattle.search.proofs.Seeing.{seen_bounds}
use Rattle.search.proofs.Workings.{room_shaped}

-- ---- the bounds
module _ (t : TrustRegion) where
  held-asked : (nrm : Float) (step : List Float) → nrm ≡ norm t.v.now → t.v.now ≡ scaled_step (asked t) step → held_by held.Zero t nrm ≡ held_by_r (asked t) step
  unfolding held_by_r direction held_solved
  held-asked nrm step a b =
      let ds = take t.st.n t.diag.now in
      let v = product_all step ds in
      let d : turned_by nrm t.v.now t.diag.now ≡ turned_by (norm v) v ds = rw (a, b, take_all t.st.n t.diag.now (omega (arith, t.diag_len))) in
      ap (λ (x : List Float). held_solved held.Zero (gather (take t.st.n t.order.places.now) x) (room t)) d

  abbrev full : ℕ → Bool
  full k = non_singular_of t.st.m k (room t).upper

  wide : t.st.n ≡ length (room t).upper
  wide = sym (room_shaped t).upper_wide

  pub lower-asked : (fp nrm : Float) (step : List Float) {l : Float} → nrm ≡ norm t.v.now → t.v.now ≡ scaled_step (asked t) step
      → l ≡ cond (full t.st.n) (newton fp t.radius (norm (held_by held.Zero t nrm))) plus_zero → l ≡ lower_bound_of (asked t) step fp
  unfolding lower_bound_of undamped_slope held_by_r
  lower-asked fp nrm step a b k =
      k ∙ ap (λ (x : List Float). cond (full t.st.n) (newton fp t.radius (norm x)) plus_zero) (held-asked nrm step a b)
      ∙ ap (λ (j : ℕ). cond (full j) (newton fp t.radius (norm (held_by_r (asked t) step))) plus_zero) wide

  pub lower-seen : (nrm : Float) (step : List Float) {low : Ranges} → nrm ≡ norm t.v.now → t.v.now ≡ scaled_step (asked t) step
      → low ≡ cond (full t.st.n) (ranges (held_by held.Zero t nrm)) neither → low ≡ cond (full (length (room t).upper)) (ranges (held_by_r (asked t) step)) neither
  lower-seen nrm step a b k =
      k ∙ ap (λ (x : List Float). cond (full t.st.n) (ranges x) neither) (held-asked nrm step a b)
      ∙ ap (λ (j : ℕ). cond (full j) (ranges (held_by_r (asked t) step)) neither) wide

-- ---- the run, by its two tests
module _ (p : Problem) (initial : Float) (step : List Float) (a : Answer) where
  abbrev fp : Float
  fp = sub binary64 (scaled_norm p step) p.radius

  abbrev first : Next
  first =
      let lower = lower_bound_of p step fp in
      let upper = upper_bound (gnorm p) p.radius in
      record { lambda = first_lambda initial lower upper (gnorm p) (scaled_norm p step); lower = lower; upper = upper; fp = fp }

  pub no_lower_lem : {l : Float} → l ≡ lower_bound_of p step fp → is_finite l ≡ false → refused 8 ≡ concluded 0 a (damped p initial step)
  unfolding concluded
  no_lower_lem e h = let f : is_finite (lower_bound_of p step fp) ≡ false = rw e at h in rw (f, concluded)

  module _ {l : Float} (e : l ≡ lower_bound_of p step fp) (h : is_finite l ≡ true) where
    pub no_gnorm : {g : Float} → g ≡ gnorm p → is_finite g ≡ false → refused 8 ≡ concluded 0 a (damped p initial step)
    unfolding concluded
    no_gnorm k j =
        let f : is_finite (lower_bound_of p step fp) ≡ true = rw e at h in
        let q : is_finite (gnorm p) ≡ false = rw k at j in
        rw (f, q, concluded)

    pub to_trials : {g : Float} → g ≡ gnorm p → is_finite g ≡ true → trials_from p 9 first ≡ damped p initial step
    to_trials k j =
        let f : is_finite (lower_bound_of p step fp) ≡ true = rw e at h in
        let q : is_finite (gnorm p) ≡ true = rw k at j in
        by (trials_from p 9 first) f q
      where
        by : (rest : Run) {x y : Bool} → x ≡ true → y ≡ true → rest ≡ elim x [ true ↦ elim y [ true ↦ rest | false ↦ run.refused gradient_norm ] | false ↦ run.refused lower_bound ]
        by rest u w = rw (u, w)

  pub first_is : {nrm l g u la : Float} → nrm ≡ scaled_norm p step → l ≡ lower_bound_of p step fp → g ≡ gnorm p → u ≡ upper_bound g p.radius → la ≡ first_lambda initial l u g nrm
      → ◌≡◌ {A = Next} (record { lambda = la; lower = l; upper = u; fp = sub binary64 nrm p.radius }) first
  first_is x b g d c = rw (c, d, g, b, x)

pub asked-trials : (p : Problem) (x y : Next) (d : Run) → x ≡ y → trials_from p 9 y ≡ d → trials_from p 9 x ≡ d
asked-trials p x y d f h = ap (trials_from p 9) f ∙ h

-- ---- of the same problem, by another name
pub trials_same : {p q : Problem} → p ≡ q → (r : Result (LMParameter × Ranges) Refusal) (w : List Float) (x : Next)
    → with_step r (placed p w) ≡ concluded 0 unanswered (trials_from p 9 x) → with_step r (placed q w) ≡ concluded 0 unanswered (trials_from q 9 x)
trials_same e r w x h = subst (λ (p : Problem). with_step r (placed p w) ≡ concluded 0 unanswered (trials_from p 9 x)) e h

pub seen_same : {p q : Problem} → p ≡ q → (seen : Ranges) (x : Next)
    → either seen (ranges_of (measured_trials p (trials_from p 9 x))) ≡ either seen (ranges_of (measured_trials q (trials_from q 9 x)))
seen_same e seen x = ap (λ (p : Problem). either seen (ranges_of (measured_trials p (trials_from p 9 x)))) e

-- ---- what was seen before the first trial
pub seen_first : (p : Problem) (step : List Float) (start : Ranges) {low by both all : Ranges} (x y : Run) → all ≡ either start both → both ≡ either low by
    → low ≡ cond (non_singular_of p.m (length p.upper) p.upper) (ranges (held_by_r p step)) neither → by ≡ ranges (gradient_by p) → x ≡ y
    → either all (ranges_of (measured_trials p x)) ≡ either start (either (ranges_of (measured_bounds p step)) (ranges_of (measured_trials p y)))
seen_first p step start {both = both} x y a b l g h =
    ap (λ (z : Ranges). either z (ranges_of (measured_trials p x))) (a ∙ ap (either start) (b ∙ seen_bounds p step l g))
    ∙ either-more start (ranges_of (measured_bounds p step)) (ranges_of (measured_trials p x))
    ∙ ap (λ (r : Run). either start (either (ranges_of (measured_bounds p step)) (ranges_of (measured_trials p r)))) h
