-- 01, 'Job sheet and its program': what stands between a sheet's factoring and its answer. In slices that pass the tests of a solve, `determined` is
-- answered, a first scaling is answered or refused 8 and leaves what a search accepts, and the search is answered or refused 8. Assumes nothing.
use mathlib.Core.Path.{◌≡◌, refl, sym, ap, ◌∙◌, subst}
use mathlib.Core.Bool.{Bool, true, false, cond, not, ◌&&◌, true≢false, and-eq-true_iff}
use mathlib.Core.List.{List, [], ◌∷◌}
use mathlib.Core.Logic.{◌⊎◌, inl, inr}
use Prim.Native.Nat.{ℕ, ◌*◌, ◌≤◌, min}
use native.Mathlib.Omega.{arith}
use lib.ListN.{length, take, drop, length-append, length-map, length-replicate}
use lib.Seq.{take_at}
use lib.Ieee.{Float, nan, inf, fin, binary64, up, down, mul, lt, le, eq}
use borrow.Author.Tests.{le-ltb, not-true}
use Rattle.leaves.specs.Reply.{Reply, answered, refused}
use Rattle.leaves.specs.Number.{plus_zero, one, is_finite, is_negative}
use Rattle.leaves.specs.Norm.{norm, ranges}
use Rattle.leaves.specs.Product.{product_all}
use Rattle.leaves.specs.Square.{zeros}
use Rattle.leaves.specs.Tests.{all_finite, none_zero}
use Rattle.leaves.proofs.Refusals.{passed_iff, call-worked}
use Rattle.leaves.proofs.Insides.{within}
use Rattle.leaves.proofs.Normed.{norm_not_negative}
use Rattle.factor.specs.State.{store_need}
use Rattle.factor.specs.Room.{load, lay, rested}
use Rattle.factor.specs.Tests.{room_tests, not_above}
use Rattle.factor.specs.Outcome.{Ended, ended, written}
use Rattle.factor.specs.Outcome as outcome
use Rattle.factor.specs.declared.state.State.{State}
use Rattle.factor.proofs.Passed.{Passed, Ordered, passed_sized}
use Rattle.factor.proofs.Layouts.{load_shaped}
use Rattle.measures.specs.Scaling.{first_scaling, radius_of, start_by, usable}
use Rattle.measures.specs.Determined.{determined_of}
use Rattle.measures.specs.Measures.{determined_call}
use Rattle.measures.specs.Rescale.{Scaled, first, or_refused, scaling_tests, rescaled, scaling_call}
use Rattle.measures.specs.declared.scaling.Start.{Start}
use Rattle.measures.specs.declared.scaling.Mode.TheVariants as mode
use Rattle.search.specs.Run.{Stop, Place}
use Rattle.search.specs.Search.{Flagged, search_tests, search_call}
use Rattle.search.proofs.Signs.{Signed, not_below, above_sign, clear_above, times_signed}
use Rattle.sheet.specs.Sheet.{Task, search, start}
use Rattle.sheet.specs.Fit.{Fit, searched, started, Finished, finished, mapped, by_search, by_determined, sought_from, by_scaling, started_from, task_from}
use Rattle.sheet.specs.declared.answer.Fitted.{Fitted}
use Rattle.demands.specs.Calls.{reply_number}
use Rattle.demands.specs.Calls as basic
use Rattle.demands.proofs.Keeping.{laws}
use Rattle.demands.proofs.SearchTable as table
use Rattle.demands.proofs.SheetNumbers.{Sought, Started, Asked}
use Rattle.leaves.specs.Refusing.{NoneHold}

-- answered, or refused 8 and the step as it came
abbrev pub Ends : {A : Type 0} → List Float → Finished A → Type 0
Ends step t = (reply_number t.reply ≡ 0) ⊎ (t ≡ finished (refused 8) step)

-- ---- the first scaling: no entry is zero, and the radius is above zero
one_nonzero : eq one plus_zero ≡ false
unfolding eq
one_nonzero = refl

scaling_nonzero : (norms : List Float) → none_zero (first_scaling norms) ≡ true
unfolding first_scaling none_zero
scaling_nonzero [] = refl
scaling_nonzero (s ∷ ss) = by (scaling_nonzero ss) (eq s plus_zero) refl
  where
    by : none_zero (first_scaling ss) ≡ true → (b : Bool) → eq s plus_zero ≡ b → (not (eq (cond b one s) plus_zero) && none_zero (first_scaling ss)) ≡ true
    by r true e = rw one_nonzero r
    by r false e = rw e r

-- a clear sign, and no zero
signed_above : (x : Float) → Signed false x → eq x plus_zero ≡ false → le x plus_zero ≡ false
unfolding le lt
signed_above nan p h = absurd p
signed_above (inf s) p h = rw (p, h)
signed_above (fin s m e) p h = rw (p, le-ltb (m * up e * 1) (0 * down e) (omega arith)) (rw p at h)

product-signed : (x y : Float) → is_finite x ≡ true → is_negative x ≡ false → is_finite y ≡ true → lt plus_zero y ≡ true → Signed false (mul binary64 x y)
unfolding is_finite lt
product-signed x nan f s g l = absurd (true≢false (sym g))
product-signed x (inf t) f s g l = absurd (true≢false (sym g))
product-signed x (fin true m e) f s g l = absurd (true≢false (sym l))
product-signed x (fin false m e) f s g l = times_signed x m e f s

module _ (bound : Float) (f : is_finite bound ≡ true) (a : not_above bound ≡ false) (xs : List Float) where
  abbrev begun : Start
  begun = start_by bound (norm xs)

  radius_above : is_finite (norm xs) ≡ true → eq begun.radius plus_zero ≡ false → not_above begun.radius ≡ false
  unfolding radius_of
  radius_above g = by (eq (norm xs) plus_zero) refl
    where
      by : (b : Bool) → eq (norm xs) plus_zero ≡ b → (let r = cond b bound (mul binary64 bound (norm xs)) in eq r plus_zero ≡ false → not_above r ≡ false)
      by true e z = a
      by false e z =
          signed_above (mul binary64 bound (norm xs))
          (product-signed bound (norm xs) f (above_sign bound plus_zero refl a) g (clear_above (norm xs) g (not_below (norm xs) (norm_not_negative xs)) e)) z

-- ---- the tests, from what is known
room_free : (st : State) (store shortest : ℕ) → Passed st store shortest → NoneHold (room_tests st store shortest)
room_free st store shortest p =
    (p.filled, (within st.m st.n p.sizes, (rw (le-ltb store (store_need st.n) p.store_long, le-ltb shortest st.n p.each_long), tt)))

shorter : (st : State) (store shortest k : ℕ) → Passed st store shortest → st.n ≤ k → Passed st store k
shorter st store shortest k p l = record { filled = p.filled; sizes = p.sizes; store_long = p.store_long; each_long = l }

-- ---- determined, then the search
search_ends : (n d : ℕ) (r : Reply Flagged) (out step : List Float) → (reply_number r ≡ 0) ⊎ ((r ≡ refused 8) × (out ≡ step)) → Ends step (by_search n d r out)
search_ends n d (answered p) out step h = inl refl
search_ends n d (refused k) out step (inl z) = inl z
search_ends n d (refused k) out step (inr e) = inr (ap (λ (x : Reply Flagged). by_search n d x out) e.0 ∙ ap (finished (refused 8)) e.1)

mapped_number : (f : Fitted → Fit) (r : Reply Fitted) → reply_number (mapped f r) ≡ reply_number r
mapped_number f (answered a) = refl
mapped_number f (refused k) = refl

mapped_ends : (f : Fitted → Fit) (step : List Float) (a : Finished Fitted) → Ends step a → Ends step (finished (mapped f a.reply) a.step)
mapped_ends f step a (inl z) = inl (mapped_number f a.reply ∙ z)
mapped_ends f step a (inr e) = inr (ap (λ (x : Finished Fitted). finished (mapped f x.reply) x.step) e)

module _ (st : State) (order : List ℕ) (step : List Float) where
  abbrev Lent : List Float → Type 0
  Lent store = Ordered st (length store) order (length step)

  lent_on : (store store' : List Float) → length store' ≡ length store → Lent store → Lent store'
  lent_on store store' e o = subst (λ (k : ℕ). Ordered st k order (length step)) (sym e) o

  module _ (store diag : List Float) (radius lambda : Float) (o : Lent store) (a : Sought st.n diag radius lambda) where
    search_free : NoneHold (search_tests st (length store) order diag radius lambda (length step))
    search_free =
        let p = o.room in
        let l : st.n ≤ min (length order) (min (length diag) (length step)) = omega (arith, o.order_long, a.diag_long, p.each_long) in
        let r = room_free st (length store) _ (shorter st (length store) (length step) _ p l) in
        (r.0, (r.1.0, (r.1.1.0, (rw o.permuted, (rw a.diag_finite, (rw a.radius_finite, (rw a.lambda_finite, (a.radius_above, (a.lambda_not_below, (rw a.diag_nonzero, tt))))))))))

    searched_ends : (n d : ℕ) → (let e = search_call st order diag radius lambda store step in Ends step (by_search n d e.reply e.out))
    searched_ends n d = by (table.ends st order diag radius lambda store step) refl
      where
        e : Ended Flagged
        e = search_call st order diag radius lambda store step

        by : (x : Stop ⊎ Place) → table.ends st order diag radius lambda store step ≡ x → Ends step (by_search n d e.reply e.out)
        by (inl x) h = search_ends n d e.reply e.out step (inl ((table.answered_otherwise st order diag radius lambda store step).1 (search_free, (x, h))))
        by (inr x) h =
            let w = table.eight_whole st order diag radius lambda store step ((table.refused_eight st order diag radius lambda store step).1 (search_free, (x, h))) in
            search_ends n d e.reply e.out step (inr (ap (λ (z : Ended Flagged). z.reply) w, ap (λ (z : Ended Flagged). z.out) w))

  module _ (store : List Float) (o : Lent store) where
    determined_is : determined_call st store ≡ outcome.told (answered (determined_of st.m (load st.n store).upper)) st (lay (rested (load st.n store)))
    unfolding determined_call
    determined_is =
        let p = shorter st (length store) (length step) st.n o.room (omega arith) in
        sym (call-worked _ (λ k. outcome.told (refused k) st store) _ ((passed_iff (room_tests st (length store) st.n) refl).1 (room_free st (length store) st.n p)))

    determined-lasts : length (determined_call st store).store ≡ length store
    unfolding basic.perform_store
    determined-lasts = (laws basic.determined).lasts st order store

    sought_ends : (diag : List Float) (radius lambda : Float) → Sought st.n diag radius lambda → Ends step (sought_from st order diag radius lambda store step)
    unfolding sought_from
    sought_ends diag radius lambda a =
        let s = (determined_call st store).store in
        let e = search_call st order diag radius lambda s step in
        let d = determined_of st.m (load st.n store).upper in
        subst (λ (x : Reply ℕ). Ends step (by_determined st.n x e step)) (sym (ap (λ (x : outcome.Told ℕ). x.reply) determined_is))
        (searched_ends s diag radius lambda (lent_on store s determined-lasts o) a st.n d)

  -- ---- call 2
  module _ (store : List Float) (o : Lent store) where
    module _ (x : List Float) (bound : Float) (a : Started st.n x bound) where
      scaling_free : NoneHold (scaling_tests st mode.FirstScaled (length store) (zeros 16) x bound)
      unfolding scaling_tests
      scaling_free =
          let p = o.room in
          let z : length (zeros 16) ≡ 16 = length-replicate 16 plus_zero in
          let l : st.n ≤ min (length (zeros 16)) (length x) = omega (arith, p.sizes.cols_few, a.x_long) in
          let r = room_free st (length store) _ (shorter st (length store) (length step) _ p l) in
          (r.0, (r.1.0, (r.1.1.0, (rw a.x_finite, (rw a.bound_finite, (a.bound_above, tt))))))

      abbrev given : Reply Scaled × List Float
      given = rescaled mode.FirstScaled st.n (load st.n store).norms (zeros 16) x bound

      scaling_is : scaling_call st mode.FirstScaled (zeros 16) x bound store ≡ ended given.0 st (lay (rested (load st.n store))) given.1
      unfolding scaling_call scaling_tests
      scaling_is =
          sym (call-worked _ (λ k. ended (refused k) st store (zeros 16)) _ ((passed_iff (scaling_tests st mode.FirstScaled (length store) (zeros 16) x bound) refl).1 scaling_free))

      scaling_lasts : length (lay (rested (load st.n store))) ≡ length store
      unfolding basic.perform_store
      scaling_lasts = ap (λ (e : Ended Scaled). length e.store) (sym scaling_is) ∙ (laws (basic.scaling mode.FirstScaled (zeros 16) x bound)).lasts st order store

      abbrev entries : List Float
      entries = first_scaling (load st.n store).norms

      abbrev begins : Start
      begins = start_by bound (norm (product_all entries (take st.n x)))

      entries_long : length entries ≡ st.n
      unfolding first_scaling
      entries_long = length-map (load st.n store).norms _ ∙ (load_shaped st.n store (passed_sized st store (length step) o.room)).norms_long

      -- what a first scaling leaves is what a search accepts
      scaled-asked : all_finite entries ≡ true → usable begins ≡ true → Sought st.n (written entries (zeros 16)) begins.radius plus_zero
      unfolding is_finite lt
      scaled-asked f u =
          let w = (and-eq-true_iff (is_finite begins.xnorm && is_finite begins.radius) (not (eq begins.radius plus_zero))).0 u in
          let v = (and-eq-true_iff (is_finite begins.xnorm) (is_finite begins.radius)).0 w.0 in
          let e : take st.n (written entries (zeros 16)) ≡ entries = take_at entries (drop (length entries) (zeros 16)) st.n entries_long in
          record {
            diag_long = omega (arith, length-append entries (drop (length entries) (zeros 16)), entries_long);
            diag_finite = rw e f;
            radius_finite = v.1;
            lambda_finite = refl;
            radius_above = radius_above bound a.bound_finite a.bound_above (product_all entries (take st.n x)) v.0 (not-true (eq begins.radius plus_zero) w.1);
            lambda_not_below = refl;
            diag_nonzero = rw e (scaling_nonzero (load st.n store).norms);
          }

      rescaled_ends : (b : Bool) → (all_finite entries && usable begins) ≡ b
          → (let g = or_refused b (first begins (ranges (product_all entries (take st.n x)))) (written entries (zeros 16)) (zeros 16) in Ends step (by_scaling st order g.0 g.1 (lay (rested (load st.n store))) step))
      rescaled_ends true e =
          let w = (and-eq-true_iff (all_finite entries) (usable begins)).0 e in
          let s = lay (rested (load st.n store)) in
          mapped_ends (started begins.radius) step _ (sought_ends s (lent_on store s scaling_lasts o) (written entries (zeros 16)) begins.radius plus_zero (scaled-asked w.0 w.1))
      rescaled_ends false e = inr refl

      started_ends : Ends step (started_from st order x bound store step)
      unfolding started_from rescaled
      started_ends =
          subst (λ (e : Ended Scaled). Ends step (by_scaling st order e.reply e.out e.store step)) (sym scaling_is) (rescaled_ends (all_finite entries && usable begins) refl)

    -- LAW
    pub task_ends : (t : Task) → Asked st.n t → Ends step (task_from t st order store step)
    unfolding task_from
    task_ends (search diag radius lambda) a = mapped_ends searched step _ (sought_ends store o diag radius lambda a)
    task_ends (start x bound) a = started_ends x bound a
