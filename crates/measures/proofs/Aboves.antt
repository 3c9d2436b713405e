-- 02, #105: is the gradient above the limit? Assumes nothing.
use mathlib.Core.Path.{◌≡◌, refl, sym, ap, ◌∙◌}
use mathlib.Core.Bool.{Bool, true, false, not, cond, true≢false}
use mathlib.Core.List.{List, [], ◌∷◌, ◌++◌}
use mathlib.Core.Logic.{◌↔◌, ◌⊎◌, inl, inr}
use Prim.Native.Nat.{ℕ}
use lib.Dec.{eqb}
use lib.ListN.{length, take}
use lib.Ieee.{Float, nan, inf, fin, binary64, div, eq, lt, is_nan}
use borrow.Author.Tests.{eqb-true}
use Rattle.leaves.specs.Reply.{Reply, answered, refused}
use Rattle.leaves.specs.Number.{plus_zero, abs_of, max_of, is_finite, is_negative}
use Rattle.leaves.specs.Vector.{dot_of}
use Rattle.leaves.specs.Product.{divided_by}
use Rattle.leaves.specs.Tests.{first_of}
use Rattle.leaves.proofs.Signs.{is_nan_lem}
use Rattle.leaves.proofs.Replies.{answered-refused, refused-answered, answered-same}
use Rattle.leaves.proofs.Refusals.{passed_iff}
use Rattle.factor.specs.Room.{load}
use Rattle.factor.specs.Solve.{gather}
use Rattle.factor.specs.Tests.{below}
use Rattle.factor.specs.Outcome.{Told}
use Rattle.factor.specs.declared.state.State.{State}
use Rattle.measures.specs.Gradient.{measures, largest, gradient, above, above_limit}
use Rattle.measures.specs.Measures.{gradient_call, above_tests, above_call}
use Rattle.measures.proofs.Measured.{gradient_tests, above-worked}
use Rattle.measures.proofs.Comparing.{finite_not_nan, max_number, max-finite, max-above_first, max-above-second, max-not_above, max_infinite, infinite_max}
use Rattle.measures.proofs.gradient.Gradients.{largest_is, largest-more, above_not, above_is, above_on, above_none}

-- ---- what the measures are: absolute values
abbrev Absolute : List Float → Type 0
Absolute [] = Unit {0}
Absolute (x ∷ xs) = (is_negative x ≡ false) × Absolute xs

absolute : (x : Float) → is_negative (abs_of x) ≡ false
unfolding is_negative abs_of
absolute nan = refl
absolute (inf s) = refl
absolute (fin s m e) = refl

measures_absolute : (b : List Float) (cs : List (List Float)) (ss : List Float) → Absolute (measures b cs ss)
unfolding measures
measures_absolute b [] ss = tt
measures_absolute b (c ∷ cs) [] = tt
measures_absolute b (c ∷ cs) (s ∷ ss) = by (eq s plus_zero) (measures_absolute b cs ss)
  where
    x : Float
    x = div binary64 (dot_of c (take (length c) b)) s

    by : (t : Bool) → Absolute (measures b cs ss) → Absolute (cond t (measures b cs ss) (abs_of x ∷ measures b cs ss))
    by true h = h
    by false h = (absolute x, h)

infinite : (x : Float) → is_negative x ≡ false → is_nan x ≡ false → is_finite x ≡ false → x ≡ inf false
unfolding is_negative is_nan is_finite
infinite nan a n f = absurd (true≢false n)
infinite (inf true) a n f = absurd (true≢false a)
infinite (inf false) a n f = refl
infinite (fin s m e) a n f = absurd (true≢false f)

-- ---- what an answered gradient says of the measures
answered-end : (top : Float) {g : Float} → largest top [] ≡ answered g → top ≡ g
unfolding largest
answered-end top {g} = by (is_finite top)
  where
    by : (b : Bool) → cond b (answered top) (refused 8) ≡ answered g → top ≡ g
    by true h = answered-same h
    by false h = refused-answered h

answered_turn : (top : Float) {g : Float} (x : Float) (xs : List Float) → largest top (x ∷ xs) ≡ answered g → (is_nan x ≡ false) × (largest (max_of top x) xs ≡ answered g)
unfolding largest
answered_turn top {g} x xs = by (is_nan x)
  where
    by : (b : Bool) → (let r : Reply Float = elim b [ true ↦ refused 8 | false ↦ largest (max_of top x) xs ] in
        r ≡ answered g → (b ≡ false) × (largest (max_of top x) xs ≡ answered g))
    by true h = refused-answered h
    by false h = (refl, h)

-- none is answered above infinity
never : {X : Type 0} {g : Float} (xs : List Float) → largest (inf false) xs ≡ answered g → X
unfolding largest is_finite
never [] h = refused-answered h
never (x ∷ xs) h =
    let t = answered_turn (inf false) x xs h in never xs (ap (λ (y : Float). largest y xs) (sym (infinite_max x t.0)) ∙ t.1)

stays : (limit top : Float) {g : Float} (xs : List Float) → is_nan top ≡ false → lt limit top ≡ true → largest top xs ≡ answered g → lt limit g ≡ true
stays limit top [] n h e = ap (lt limit) (sym (answered-end top e)) ∙ h
stays limit top (x ∷ xs) n h e =
    let t = answered_turn top x xs e in
    stays limit (max_of top x) xs (max_number top x n t.0) (max-above_first top x n limit t.0 h) t.1

agrees : (limit top : Float) {g : Float} (xs : List Float) → Absolute xs → is_nan top ≡ false → lt limit top ≡ false → largest top xs ≡ answered g
    → above limit xs ≡ answered (lt limit g)
agrees limit top [] a n h e = sym (above_none limit) ∙ ap answered (sym (ap (lt limit) (sym (answered-end top e)) ∙ h))
agrees limit top {g} (x ∷ xs) a n h e =
    let t = answered_turn top x xs e in
    by t.0 t.1 (agrees limit (max_of top x) xs a.1 (max_number top x n t.0)) (is_finite x) refl (lt limit x) refl
  where
    by : is_nan x ≡ false → largest (max_of top x) xs ≡ answered g
        → (lt limit (max_of top x) ≡ false → largest (max_of top x) xs ≡ answered g → above limit xs ≡ answered (lt limit g))
        → (f : Bool) → is_finite x ≡ f → (l : Bool) → lt limit x ≡ l → above limit (x ∷ xs) ≡ answered (lt limit g)
    by m r ih true f true l =
        sym (above_is limit x xs f l) ∙ ap answered (sym (stays limit (max_of top x) xs (max_number top x n m) (max-above-second top x n limit l) r))
    by m r ih true f false l = sym (above_on limit x xs f l) ∙ ih (max-not_above top x n limit h l) r
    by m r ih false f l k =
        let i = infinite x a.0 m f in
        never xs (ap (λ (y : Float). largest y xs) (sym (ap (max_of top) i ∙ max_infinite top n)) ∙ r)

-- 'Wherever the full gradient is answered, the two agree exactly.'
pub above-agrees : (ss : List Float) (bnorm limit : Float) (upper : List (List Float)) (qtb : List Float) (g : Float) → below limit ≡ false
    → gradient ss bnorm upper qtb ≡ answered g → above_limit ss bnorm limit upper qtb ≡ answered (lt limit g)
unfolding gradient above_limit is_nan
above-agrees ss bnorm limit upper qtb g h e =
    agrees limit plus_zero (measures (divided_by bnorm qtb) upper ss) (measures_absolute (divided_by bnorm qtb) upper ss) refl h e

answered_by : {A : Type 0} {g : A} {k : ℕ} (b : Bool) (x y : Told A) → y.reply ≡ refused k
    → (let z : Told A = elim b [ true ↦ x | false ↦ y ] in z.reply ≡ answered g → (b ≡ true) × (x.reply ≡ answered g))
answered_by true x y r h = (refl, h)
answered_by false x y r h = refused-answered (sym r ∙ h)

-- the same of the calls, 'for any store'
module _ (st : State) (order : List ℕ) (bnorm limit : Float) (store : List Float) (g : Float) (e : (gradient_call st order bnorm store).reply ≡ answered g) where
  abbrev norms : List Float
  norms = gather (take st.n order) (load st.n store).norms

  passed : (eqb (first_of (gradient_tests st (length store) order bnorm)) 0 ≡ true)
      × (gradient norms bnorm (load st.n store).upper (load st.n store).qtb ≡ answered g)
  unfolding gradient_call
  passed = answered_by _ _ _ refl e

  pub above-agrees-call : is_finite limit ≡ true → below limit ≡ false → (above_call st order bnorm limit store).reply ≡ answered (lt limit g)
  above-agrees-call f h =
      let p = (passed_iff (gradient_tests st (length store) order bnorm) refl).0 (eqb-true _ 0 passed.0) in
      let q = (passed_iff (above_tests st (length store) order bnorm limit) refl).1
      (p.0, (p.1.0, (p.1.1.0, (p.1.1.1.0, (p.1.1.1.1.0, (ap not f, (p.1.1.1.1.1.0, (h, tt)))))))) in
      ap (λ (t : Told Bool). t.reply) (sym (above-worked st order bnorm limit store refl q refl refl))
      ∙ above-agrees norms bnorm limit (load st.n store).upper (load st.n store).qtb g h passed.1

-- ---- exactly when
-- finite each, and none above the limit
abbrev pub NoneAbove : Float → List Float → Type 0
NoneAbove limit [] = Unit {0}
NoneAbove limit (x ∷ xs) = ((is_finite x ≡ true) × (lt limit x ≡ false)) × NoneAbove limit xs

-- such ones, then one that ends it, then anything
pub record EndedBy (limit : Float) (End : Float → Type 0) (ms : List Float) : Type 0 where
  pub before : List Float
  pub found : Float
  pub after : List Float
  pub splits : ms ≡ before ++ (found ∷ after)
  pub none_before : NoneAbove limit before
  pub ends : End found

abbrev pub Above : Float → Float → Type 0
Above limit x = (is_finite x ≡ true) × (lt limit x ≡ true)

abbrev pub NotFinite : Float → Type 0
NotFinite x = is_finite x ≡ false

module _ (limit : Float) where
  over : (before rest : List Float) → NoneAbove limit before → above limit (before ++ rest) ≡ above limit rest
  over [] rest h = refl
  over (x ∷ xs) rest h = sym (above_on limit x (xs ++ rest) h.0.0 h.0.1) ∙ over xs rest h.1

  yes_back : {ms : List Float} → EndedBy limit (Above limit) ms → above limit ms ≡ answered true
  yes_back r =
      ap (above limit) r.splits ∙ over r.before (r.found ∷ r.after) r.none_before
      ∙ sym (above_is limit r.found r.after r.ends.0 r.ends.1)

  eight_back : {ms : List Float} → EndedBy limit NotFinite ms → above limit ms ≡ refused 8
  eight_back r =
      ap (above limit) r.splits ∙ over r.before (r.found ∷ r.after) r.none_before
      ∙ sym (above_not limit r.found r.after r.ends)

  no_back : (ms : List Float) → NoneAbove limit ms → above limit ms ≡ answered false
  no_back [] h = sym (above_none limit)
  no_back (x ∷ xs) h = sym (above_on limit x xs h.0.0 h.0.1) ∙ no_back xs h.1

  later : {End : Float → Type 0} {xs : List Float} (x : Float) → is_finite x ≡ true → lt limit x ≡ false → EndedBy limit End xs → EndedBy limit End (x ∷ xs)
  later x f l r = record {
    before = x ∷ r.before;
    found = r.found;
    after = r.after;
    splits = ap (λ (ys : List Float). x ∷ ys) r.splits;
    none_before = ((f, l), r.none_before);
    ends = r.ends;
  }

  abbrev Ways : List Float → Type 0
  Ways ms = NoneAbove limit ms ⊎ (EndedBy limit (Above limit) ms ⊎ EndedBy limit NotFinite ms)

  -- it ends in one of three ways
  ways : (ms : List Float) → Ways ms
  ways [] = inl tt
  ways (x ∷ xs) = by (is_finite x) refl (lt limit x) refl (ways xs)
    where
      on : is_finite x ≡ true → lt limit x ≡ false → Ways xs → Ways (x ∷ xs)
      on f l (inl h) = inl ((f, l), h)
      on f l (inr (inl r)) = inr (inl (later x f l r))
      on f l (inr (inr r)) = inr (inr (later x f l r))

      by : (f : Bool) → is_finite x ≡ f → (l : Bool) → lt limit x ≡ l → Ways xs → Ways (x ∷ xs)
      by true f true l w = inr (inl (record { before = []; found = x; after = xs; splits = refl; none_before = tt; ends = (f, l) }))
      by true f false l w = on f l w
      by false f l k w = inr (inr (record { before = []; found = x; after = xs; splits = refl; none_before = tt; ends = f }))

  not_yes : {X : Type 0} → ◌≡◌ {A = Reply Bool} (answered false) (answered true) → X
  not_yes h = absurd (true≢false (sym (answered-same h)))

  -- 'answered true exactly when the measures are some finite ones, none above the limit, then a finite one above it, then anything'
  pub above_says_yes : (ms : List Float) → (above limit ms ≡ answered true) ↔ EndedBy limit (Above limit) ms
  above_says_yes ms = (λ h. from h (ways ms), yes_back)
    where
      from : above limit ms ≡ answered true → Ways ms → EndedBy limit (Above limit) ms
      from h (inl w) = not_yes (sym (no_back ms w) ∙ h)
      from h (inr (inl r)) = r
      from h (inr (inr r)) = refused-answered (sym (eight_back r) ∙ h)

  -- 'refused 8 exactly when there is a non-finite measure and no one before it is above the limit'
  pub above-refused_eight : (ms : List Float) → (above limit ms ≡ refused 8) ↔ EndedBy limit NotFinite ms
  above-refused_eight ms = (λ h. from h (ways ms), eight_back)
    where
      from : above limit ms ≡ refused 8 → Ways ms → EndedBy limit NotFinite ms
      from h (inl w) = answered-refused (sym (no_back ms w) ∙ h)
      from h (inr (inl r)) = answered-refused (sym (yes_back r) ∙ h)
      from h (inr (inr r)) = r

  -- 'otherwise, with no non-finite one and none above, answered false'
  pub above_says_no : (ms : List Float) → (above limit ms ≡ answered false) ↔ NoneAbove limit ms
  above_says_no ms = (λ h. from h (ways ms), no_back ms)
    where
      from : above limit ms ≡ answered false → Ways ms → NoneAbove limit ms
      from h (inl w) = w
      from h (inr (inl r)) = not_yes (sym h ∙ yes_back r)
      from h (inr (inr r)) = refused-answered (sym (eight_back r) ∙ h)

-- ---- where the gradient is refused
finite-answered : (limit : Float) (top : Float) (xs : List Float) → is_finite top ≡ true → NoneAbove limit xs → (g : Float) × (largest top xs ≡ answered g)
finite-answered limit top [] f h = (top, sym (largest_is top f))
finite-answered limit top (x ∷ xs) f h =
    let n = finite_not_nan x h.0.0 in
    let r = finite-answered limit (max_of top x) xs (max-finite top x (finite_not_nan top f) f h.0.0) h.1 in
    (r.0, sym (largest-more top x xs (is_nan_lem x ∙ n)) ∙ r.1)

-- 'Where the full gradient is refused 8, the question may have said yes already [..] and is refused 8 otherwise': it never says no
pub above_where_refused : (ss : List Float) (bnorm limit : Float) (upper : List (List Float)) (qtb : List Float) → gradient ss bnorm upper qtb ≡ refused 8
    → (above_limit ss bnorm limit upper qtb ≡ answered true) ⊎ (above_limit ss bnorm limit upper qtb ≡ refused 8)
unfolding gradient above_limit is_finite
above_where_refused ss bnorm limit upper qtb e = by (ways limit ms)
  where
    ms : List Float
    ms = measures (divided_by bnorm qtb) upper ss

    by : Ways limit ms → (above limit ms ≡ answered true) ⊎ (above limit ms ≡ refused 8)
    by (inl w) = answered-refused (sym (finite-answered limit plus_zero ms refl w).1 ∙ e)
    by (inr (inl r)) = inl (yes_back limit r)
    by (inr (inr r)) = inr (eight_back limit r)
