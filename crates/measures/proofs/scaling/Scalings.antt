-- Scaling entry by entry, and the whole call by its tests, as laws. Assumes nothing.
use mathlib.Core.Path.{◌≡◌, refl, sym, ap, ◌∙◌}
use mathlib.Core.Bool.{Bool, true, false, cond, not, ◌&&◌}
use mathlib.Core.List.{List, [], ◌∷◌, ◌++◌}
use Prim.Native.Nat.{ℕ, zero, suc, ◌<◌, ◌≤◌}
use native.Mathlib.Nat.{not-suc-le-zero, le_of_suc-le-suc}
use native.Mathlib.Omega.{arith}
use lib.ListN.{length, get_or, take, drop, length-map}
use lib.Seq.{length-take-le}
use lib.Ieee.{Float, nan, eq, ne}
use borrow.Author.Tests.{not-true, not-false}
use Rattle.leaves.specs.Number.{plus_zero, one, max_of, is_finite}
use Rattle.leaves.specs.Product.{product_all}
use Rattle.leaves.specs.Tests.{all_finite}
use Rattle.leaves.specs.Norm.{norm, neither, ranges}
use Rattle.leaves.specs.Reply.{Reply, answered, refused}
use Rattle.measures.specs.Scaling.{first_scaling, later_scaling, start_by, usable}
use Rattle.measures.specs.Rescale.{Scaled, first, later, or_refused, rescaled}
use Rattle.factor.specs.Outcome.{written}
use Rattle.measures.specs.declared.scaling.Mode.{Mode}
use Rattle.measures.specs.declared.scaling.Mode.TheVariants as mode
use Rattle.measures.specs.declared.scaling.Start.{Start}
use Rattle.leaves.specs.declared.norm.Ranges.{Ranges}
use Rattle.leaves.proofs.Fronts.{front_old, map_at}
use Rattle.leaves.proofs.Folds.{front}

-- ---- one entry
pub first_length : (ss : List Float) → length (first_scaling ss) ≡ length ss
unfolding first_scaling
first_length ss = length-map ss _

pub first_at : (ss : List Float) (i : ℕ) → i < length ss → cond (eq (get_or ss i nan) plus_zero) one (get_or ss i nan) ≡ get_or (first_scaling ss) i nan
unfolding first_scaling
first_at ss i h = map_at (λ s. cond (eq s plus_zero) one s) ss i nan nan h

pub later-length : (ss ds : List Float) → length ss ≡ length ds → length (later_scaling ss ds) ≡ length ss
unfolding later_scaling
later-length [] ds h = refl
later-length (s ∷ ss) [] h = absurd (omega arith)
later-length (s ∷ ss) (d ∷ ds) h = ap suc (later-length ss ds (omega arith))

later_at : (ss ds : List Float) (i : ℕ) → i < length ss → i < length ds → max_of (get_or ss i nan) (get_or ds i nan) ≡ get_or (later_scaling ss ds) i nan
unfolding later_scaling
later_at [] ds i h k = absurd (not-suc-le-zero h)
later_at (s ∷ ss) [] i h k = absurd (not-suc-le-zero k)
later_at (s ∷ ss) (d ∷ ds) zero h k = refl
later_at (s ∷ ss) (d ∷ ds) (suc i) h k = later_at ss ds i (le_of_suc-le-suc h) (le_of_suc-le-suc k)

-- entry i of the old scaling is read where the new one is being written
pub later_turn : (ss ds d : List Float) (i : ℕ) → i < length ss → length ss ≡ length ds → d ≡ front i (later_scaling ss ds) ds
    → max_of (get_or ss i nan) (get_or d i nan) ≡ get_or (later_scaling ss ds) i nan
later_turn ss ds d i h k e =
    let l = later-length ss ds k in
    ap (max_of (get_or ss i nan)) (front_old (later_scaling ss ds) ds d i (omega arith) (omega arith) e) ∙ later_at ss ds i h (omega arith)

-- ---- a start by its tests
module _ (t : Start) {a : Bool} (ea : a ≡ is_finite t.xnorm) where
  pub no_xnorm : not a ≡ true → false ≡ usable t
  no_xnorm h = rw (sym ea ∙ not-true _ h)

  pub no_radius : {b : Bool} → not a ≡ false → b ≡ is_finite t.radius → not b ≡ true → false ≡ usable t
  no_radius h eb k = rw (sym ea ∙ not-false _ h, sym eb ∙ not-true _ k)

  pub by_radius : {b : Bool} → not a ≡ false → b ≡ is_finite t.radius → not b ≡ false → ne t.radius plus_zero ≡ usable t
  unfolding ne
  by_radius h eb k = rw (sym ea ∙ not-false _ h, sym eb ∙ not-false _ k)

-- ---- the whole call by its tests
given : (ok : Bool) (a : Scaled) (new old : List Float) → ok ≡ true → (answered a, new) ≡ or_refused ok a new old
given ok a new old e = sym (ap (λ (t : Bool). or_refused t a new old) e)

refusing : (ok : Bool) (a : Scaled) (new old : List Float) → ok ≡ false → (refused 8, old) ≡ or_refused ok a new old
refusing ok a new old e = sym (ap (λ (t : Bool). or_refused t a new old) e)

-- an answer with the first n of the lent scaling written
abbrev with : Scaled → List Float → Reply Scaled × List Float
with a l = (answered a, l)

laid : (n : ℕ) (diag : List Float) {s t : Scaled} {l d : List Float} → s ≡ t → l ≡ d → length d ≡ n → with s (l ++ drop n diag) ≡ with t (written d diag)
laid n diag {t = t} {l = l} {d = d} es el en =
    ap (λ (a : Scaled). with a (l ++ drop n diag)) es ∙ ap (λ (z : List Float). with t (z ++ drop n diag)) el ∙ ap (λ (j : ℕ). with t (d ++ drop j diag)) (sym en)

-- the first call's answer: xnorm is the norm of v
abbrev first_on : Float → List Float → Scaled
first_on bound v = first (start_by bound (norm v)) (ranges v)

firsts : (bound : Float) (v : List Float) {t : Start} {seen : Ranges} → t ≡ start_by bound (norm v) → seen ≡ ranges v → first t seen ≡ first_on bound v
firsts bound v {seen = seen} et es = ap (λ (s : Start). first s seen) et ∙ ap (first (start_by bound (norm v))) es

module _ (n : ℕ) (norms diag x : List Float) (bound : Float) {t : Start} {b : Bool} (et : t ≡ start_by bound (norm (take n x))) (eb : b ≡ usable t) where
  abbrev tested : b ≡ usable (start_by bound (norm (take n x)))
  tested = eb ∙ ap usable et

  pub unscaled_given : {seen : Ranges} → seen ≡ ranges (take n x) → b ≡ true → (answered (first t seen), diag) ≡ rescaled mode.FirstUnscaled n norms diag x bound
  unfolding rescaled
  unscaled_given es h = ap (λ (a : Scaled). with a diag) (firsts bound (take n x) et es) ∙ given _ (first_on bound (take n x)) diag diag (sym tested ∙ h)

  pub unscaled_refused : b ≡ false → (refused 8, diag) ≡ rescaled mode.FirstUnscaled n norms diag x bound
  unfolding rescaled
  unscaled_refused h = refusing _ (first_on bound (take n x)) diag diag (sym tested ∙ h)

-- the first scaled mode: d holds the new entries, t the start by them, a and b what the tests gave
module _ (n : ℕ) (norms diag x : List Float) (bound : Float) {d : List Float} {t : Start} {a : Bool} (k : length norms ≡ n)
    (ed : d ≡ first_scaling norms) (et : t ≡ start_by bound (norm (product_all d (take n x)))) (ea : a ≡ all_finite d) where
  abbrev products : List Float → List Float
  products l = product_all l (take n x)

  abbrev start : Start
  start = start_by bound (norm (products (first_scaling norms)))

  abbrev answer : Scaled
  answer = first_on bound (products (first_scaling norms))

  starts : t ≡ start
  starts = et ∙ ap (λ (l : List Float). start_by bound (norm (products l))) ed

  entries : length (first_scaling norms) ≡ n
  entries = first_length norms ∙ k

  all : a ≡ all_finite (first_scaling norms)
  all = ea ∙ ap all_finite ed

  pub first_refused : not a ≡ true → (refused 8, diag) ≡ rescaled mode.FirstScaled n norms diag x bound
  unfolding rescaled
  first_refused h = refusing _ answer (written (first_scaling norms) diag) diag (ap (λ (o : Bool). o && usable start) (sym all ∙ not-true _ h))

  both : {b : Bool} → not a ≡ false → b ≡ usable t → (all_finite (first_scaling norms) && usable start) ≡ b
  both h eb = ap (λ (o : Bool). o && usable start) (sym all ∙ not-false _ h) ∙ sym (eb ∙ ap usable starts)

  pub start-refused : {b : Bool} → not a ≡ false → b ≡ usable t → not b ≡ true → (refused 8, diag) ≡ rescaled mode.FirstScaled n norms diag x bound
  unfolding rescaled
  start-refused h eb g = refusing _ answer (written (first_scaling norms) diag) diag (both h eb ∙ not-true _ g)

  pub first_given : {b : Bool} {seen : Ranges} (l : List Float) → seen ≡ ranges (product_all d (take n x)) → not a ≡ false → b ≡ usable t → not b ≡ false → l ≡ d
      → (answered (first t seen), l ++ drop n diag) ≡ rescaled mode.FirstScaled n norms diag x bound
  unfolding rescaled
  first_given l es h eb g el =
      let saw = es ∙ ap (λ (z : List Float). ranges (products z)) ed in
      laid n diag (firsts bound (products (first_scaling norms)) starts saw) (el ∙ ed) entries
      ∙ given _ answer (written (first_scaling norms) diag) diag (both h eb ∙ not-false _ g)

-- later scaled mode: o the old entries, d the new ones
module _ (n : ℕ) (norms diag : List Float) {o d : List Float} {a : Bool} (k : length norms ≡ n) (f : n ≤ length diag)
    (eo : o ≡ take n diag) (ed : d ≡ later_scaling norms o) (ea : a ≡ all_finite d) where
  abbrev news : List Float
  news = later_scaling norms (take n diag)

  is : d ≡ news
  is = ed ∙ ap (later_scaling norms) eo

  long : length news ≡ n
  long = later-length norms (take n diag) (k ∙ sym (length-take-le n diag f)) ∙ k

  every : a ≡ all_finite news
  every = ea ∙ ap all_finite is

  pub later-refused : not a ≡ true → (refused 8, diag) ≡ rescaled mode.LaterScaled n norms diag [] plus_zero
  unfolding rescaled
  later-refused h = refusing _ (later neither) (written news diag) diag (sym every ∙ not-true _ h)

  pub later_given : {seen : Ranges} (l : List Float) → seen ≡ neither → not a ≡ false → l ≡ d
      → (answered (later seen), l ++ drop n diag) ≡ rescaled mode.LaterScaled n norms diag [] plus_zero
  unfolding rescaled
  later_given l es h el = laid n diag (ap later es) (el ∙ is) long ∙ given _ (later neither) (written news diag) diag (sym every ∙ not-false _ h)

-- ---- what a mode does not read
beside : (ok : Bool) (a : Scaled) (diag : List Float) → ((or_refused ok a [] []).0, diag) ≡ or_refused ok a diag diag
beside true a diag = refl
beside false a diag = refl

module _ (n : ℕ) (norms diag x : List Float) (bound : Float) {md : Mode} where
  pub first_all : {r : Reply Scaled × List Float} → md ≡ mode.FirstScaled → r ≡ rescaled mode.FirstScaled n norms diag x bound → r ≡ rescaled md n norms diag x bound
  first_all e h = rw e h

  pub unscaled_all : (r : Reply Scaled) → md ≡ mode.FirstUnscaled → r ≡ (rescaled mode.FirstUnscaled n [] [] x bound).0 → (r, diag) ≡ rescaled md n norms diag x bound
  unfolding rescaled
  unscaled_all r e h = rw (e, h) (beside (usable (start_by bound (norm (take n x)))) (first_on bound (take n x)) diag)

  pub later_all : {r : Reply Scaled × List Float} → md ≡ mode.LaterScaled → r ≡ rescaled mode.LaterScaled n norms diag [] plus_zero → r ≡ rescaled md n norms diag x bound
  unfolding rescaled
  later_all e h = rw e h

  pub kept_all : {seen : Ranges} → seen ≡ neither → md ≡ mode.LaterUnscaled → (answered (later seen), diag) ≡ rescaled md n norms diag x bound
  unfolding rescaled
  kept_all es e = rw (es, e)
