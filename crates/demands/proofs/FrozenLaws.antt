-- Demand 3 with marks, call by call: what a call keeps, what it reads, and when it settles what the held calls read. Assumes nothing.
use mathlib.Core.Path.{◌≡◌, refl, sym, ap, ◌∙◌, subst}
use mathlib.Core.Bool.{Bool, true, false, ◌&&◌, ◌||◌, and-eq-true_iff}
use mathlib.Core.List.{List}
use Prim.Native.Nat.{ℕ, ◌≤◌}
use native.Mathlib.Nat.{le_refl}
use native.Mathlib.Omega.{arith}
use lib.Dec.{eqb}
use lib.ListN.{length, take}
use lib.Ieee.{Float}
use borrow.Author.Tests.{eqb-true, eq-eqb}
use Rattle.leaves.specs.Square.{zeros}
use Rattle.leaves.specs.Tests.{first_of}
use Rattle.frozen.proofs.Reduces.{narrowed-length}
use Rattle.factor.specs.Room.{Room, load, leaving}
use Rattle.factor.specs.State.{is_empty, store_need}
use Rattle.factor.specs.State as plain
use Rattle.factor.specs.declared.state.Held.{Held}
use Rattle.factor.specs.declared.state.State.{State as Plain}
use Rattle.factor.specs.inner.Rooms.{Sized}
use Rattle.factor.proofs.Layouts.{load_shaped}
use Rattle.calls.specs.declared.state.State.{State}
use Rattle.calls.specs.State.{marked_held, cols, whole, without_frozen}
use Rattle.calls.specs.Outcome.{narrowed_in}
use Rattle.calls.proofs.Passed.{Ready}
use Rattle.demands.specs.History.{Call, base, search, AnyAnswer, number_of, Outcome, perform, is_solve, settling}
use Rattle.demands.specs.Alike.{Alike, HeldAlike, Kept, ToldAlike}
use Rattle.demands.specs.inner.Helds.{is_held}
use Rattle.demands.specs.Refusals.{refusal}
use Rattle.demands.specs.Marked.{MarkedOutcome, perform_marked, tests_marked, refusal_marked, reduced_call, reduced_outcome, out_back, store_back, read_back, marks_forgotten}
use Rattle.demands.proofs.Keeping.{Settled, Unsettled, leaving-kept, four_parts, same_length, work-left}
use Rattle.demands.proofs.Laws.{past_checks, laws}
use Rattle.demands.proofs.Tables as table
use Rattle.demands.proofs.MarkedForms.{marked_refused, marked-worked, marked_cases, holds_on}
use Rattle.demands.proofs.ReducedTests.{shortest_by, marked_ready, fewer, small_long, reduced-passes}
use Rattle.demands.proofs.FrozenTable.{met_none, none_met, given_number, frozen_answered, frozen_eight}
use Rattle.demands.proofs.FrozenRooms.{narrow-alike, narrow-held-alike, left_in, left_shaped, room_left, below_left, ldiag_left}
use Rattle.demands.proofs.FrozenKeeping.{solve_still, held_still, left_rests, left_settles, reduced_fresh, back_fresh, tests_fresh, tests_long, first_same, tests_same}

-- ---- a refusal leaves everything
module _ (c : Call) (k : ℕ) (st : Plain) (s : List Float) where
  pub refusal-state : (refusal c k st s).state ≡ st
  refusal-state = by c
    where
      by : (d : Call) → (refusal d k st s).state ≡ st
      by (base d) = refl
      by (search diag radius lambda out) = refl

  pub refusal-store : (refusal c k st s).store ≡ s
  refusal-store = by c
    where
      by : (d : Call) → (refusal d k st s).store ≡ s
      by (base d) = refl
      by (search diag radius lambda out) = refl

refusal-told : (c : Call) (j k : ℕ) (st : State) (s t : List Float) → j ≡ k → ToldAlike (marks_forgotten (refusal_marked c j st s)) (marks_forgotten (refusal_marked c k st t))
refusal-told (base c) j k st s t e = record { answer = ap (λ (i : ℕ). (refusal_marked (base c) i st s).answer) e; state = refl; out = refl }
refusal-told (search diag radius lambda out) j k st s t e = record { answer = ap (λ (i : ℕ). (refusal_marked (search diag radius lambda out) i st s).answer) e; state = refl; out = refl }

-- ---- a room by what is left in it
pub leaving-below : (b : List (List Float)) (l : List Float) (r : Room) → (leaving b l r).below ≡ b
unfolding leaving
leaving-below b l r = refl

pub leaving_ldiag : (b : List (List Float)) (l : List Float) (r : Room) → (leaving b l r).ldiag ≡ l
unfolding leaving
leaving_ldiag b l r = refl

leaving-work : (b : List (List Float)) (l : List Float) (r : Room) → (leaving b l r).work ≡ zeros (length r.work)
unfolding leaving
leaving-work b l r = refl

not_solve : (b d : Bool) → (b && d) ≡ false → d ≡ true → b ≡ false
not_solve true d h e = sym e ∙ h
not_solve false d h e = refl

-- ---- one store
module _ (c : Call) (st : State) (order : List ℕ) (m : st.marks ≡ 0 → ⊥) (s : List Float) where
  abbrev pub tested : ℕ
  tested = first_of (tests_marked c st order s)

  abbrev pub small : Outcome
  small = reduced_outcome c st order s

  module _ (e : tested ≡ 0) where
    pub is_ready : Ready st s (shortest_by c st order)
    is_ready = marked_ready c st order s (none_met c st order s m e)

    pub is_fewer : cols st ≤ st.n
    is_fewer = fewer st s (shortest_by c st order) is_ready

    pub sized : Sized st.n s
    sized = record { small = is_ready.reducible.few; fits = is_ready.reducible.long }

    pub small_sized : Sized (cols st) small.store
    small_sized =
        let f = small_long st s (shortest_by c st order) is_ready in
        let g = (laws (reduced_call st c)).lasts (without_frozen st) (take (cols st) order) (narrowed_in st s) in
        let a = is_ready.reducible.few in
        let b = is_fewer in
        record { small = omega arith; fits = omega arith }

    pub room_back : load st.n (store_back c st small.store s) ≡ left_in st small.store s c
    room_back = room_left st small.store s sized small_sized is_fewer c

  -- what is kept
  pub marked_keeps : Kept (load st.n s) (load st.n (perform_marked c st order s).store)
  marked_keeps = marked_cases st order s c m (λ (o : MarkedOutcome). Kept (load st.n s) (load st.n o.store))
      (λ e. subst (λ (x : Room). Kept (load st.n s) x) (sym (room_back e)) (leaving-kept (below_left c st (load (cols st) small.store) (load st.n s)) (ldiag_left c st (load (cols st) small.store) (load st.n s)) (load st.n s)))
      (λ h. subst (λ (x : List Float). Kept (load st.n s) (load st.n x)) (sym (refusal-store c tested (whole st) s)) (record { upper = refl; qtb = refl; norms = refl; rest = refl }))

  pub marked-lasts : length (perform_marked c st order s).store ≡ length s
  marked-lasts = marked_cases st order s c m (λ (o : MarkedOutcome). length o.store ≡ length s)
      (λ e.
      let r = load st.n s in
      let b = below_left c st (load (cols st) small.store) r in
      let l = ldiag_left c st (load (cols st) small.store) r in
      let t = store_back c st small.store s in
      let a = room_back e in
      same_length st.n s t (sized e).fits
      (four_parts st.n t (is_ready e).sizes.cols_some (work-left st.n b l r (load st.n t) a (left_shaped st small.store s (sized e) (small_sized e) (is_fewer e) c)))
      (ap (λ (x : Room). x.rest) a ∙ (leaving-kept b l r).rest))
      (λ h. ap length (refusal-store c tested (whole st) s))

  -- when it settles
  abbrev pub settles_here : Bool
  settles_here = let k = number_of (perform_marked c st order s).answer in is_solve c && (eqb k 0 || eqb k 8)

  pub settles_is : settles_here ≡ (is_solve c && eqb tested 0)
  settles_is = ap (λ (b : Bool). is_solve c && b)
      (past_checks (number_of (perform_marked c st order s).answer) tested (given_number c st order s m)
      (λ e. met_none c st order s m ((frozen_answered c st order s m).0 e).0) (λ e. met_none c st order s m ((frozen_eight c st order s m).0 e).0))

  pub settled_both : settles_here ≡ true → (is_solve c ≡ true) × (tested ≡ 0)
  settled_both h =
      let w = (and-eq-true_iff (is_solve c) (eqb tested 0)).0 (sym settles_is ∙ h) in
      (w.0, eqb-true tested 0 w.1)

  both_settled : is_solve c ≡ true → tested ≡ 0 → settles_here ≡ true
  both_settled i e = settles_is ∙ (and-eq-true_iff (is_solve c) (eqb tested 0)).1 (i, eq-eqb tested 0 e)

  small_settles : is_solve c ≡ true → tested ≡ 0 → settling (reduced_call st c) (without_frozen st) (take (cols st) order) (narrowed_in st s) ≡ true
  small_settles i e =
      (table.settles_when (reduced_call st c) (without_frozen st) (take (cols st) order) (narrowed_in st s)).1 (solve_still c st ∙ i, reduced-passes st order s c (none_met c st order s m e))

  -- and otherwise
  pub marked_otherwise : settles_here ≡ false → Unsettled (whole st) (load st.n s) (whole (perform_marked c st order s).state) (load st.n (perform_marked c st order s).store)
  marked_otherwise h = marked_cases st order s c m (λ (o : MarkedOutcome). Unsettled (whole st) (load st.n s) (whole o.state) (load st.n o.store))
      (λ e.
      let i = not_solve (is_solve c) (eqb tested 0) (sym settles_is ∙ h) (eq-eqb tested 0 e) in
      let l = left_rests c i st (load (cols st) small.store) (load st.n s) in
      let u = room_back e in
      record {
        state = ap whole (holds_on st order s c (no_solve (reduced_call st c) (solve_still c st ∙ i)));
        below = ap (λ (x : Room). x.below) u ∙ leaving-below _ _ (load st.n s) ∙ l.0;
        ldiag = ap (λ (x : Room). x.ldiag) u ∙ leaving_ldiag _ _ (load st.n s) ∙ l.1;
      })
      (λ g.
      let a = refusal-state c tested (whole st) s in
      let b = refusal-store c tested (whole st) s in
      record { state = a; below = ap (λ (x : List Float). (load st.n x).below) b; ldiag = ap (λ (x : List Float). (load st.n x).ldiag) b })
    where
      no_solve : (d : Call) → is_solve d ≡ false → settling d (without_frozen st) (take (cols st) order) (narrowed_in st s) ≡ false
      no_solve d i = rw i

-- ---- two stores that are long enough, with the same R, qt_b and norms
module _ (c : Call) (st : State) (order : List ℕ) (m : st.marks ≡ 0 → ⊥) (s t : List Float) (p : store_need st.n ≤ length s) (q : store_need st.n ≤ length t)
    (a : Alike (load st.n s) (load st.n t)) where
  tested-same : tested c st order m s ≡ tested c st order m t
  tested-same = ap first_of (tests_long c st order s t p q)

  -- of the two stores without the frozen columns
  module _ (e : tested c st order m s ≡ 0) where
    long_small : (x : List Float) → store_need st.n ≤ length x → store_need (cols st) ≤ length (narrowed_in st x)
    long_small x l = let f = narrowed-length st.n (cols st) x (is_fewer c st order m s e) l in rw f (le_refl (store_need (cols st)))

    small_alike : Alike (load (cols st) (narrowed_in st s)) (load (cols st) (narrowed_in st t))
    small_alike = narrow-alike st.n (cols st) s t (is_fewer c st order m s e) p q a

    small_reads : (is_held c ≡ true → HeldAlike (load st.n s) (load st.n t)) → ToldAlike (small c st order m s) (small c st order m t)
    small_reads g = (laws (reduced_call st c)).reads (without_frozen st) (take (cols st) order) (narrowed_in st s) (narrowed_in st t) (long_small s p) (long_small t q) small_alike
        (λ h. narrow-held-alike st.n (cols st) s t (is_fewer c st order m s e) p q (g (sym (held_still c st) ∙ h)))

  back_told : {e f : Outcome} → ToldAlike e f → ToldAlike (marks_forgotten (read_back c st s e)) (marks_forgotten (read_back c st t f))
  back_told {e} {f} x = record {
    answer = x.answer;
    state = ap (λ (y : Plain). plain.with_held (whole st) y.held) x.state;
    out = ap (λ (y : AnyAnswer). out_back c st y e.out) x.answer ∙ ap (λ (y : List Float). out_back c st f.answer y) x.out;
  }

  pub marked_reads : (is_held c ≡ true → HeldAlike (load st.n s) (load st.n t)) → ToldAlike (marks_forgotten (perform_marked c st order s)) (marks_forgotten (perform_marked c st order t))
  marked_reads g = marked_cases st order s c m (λ (o : MarkedOutcome). ToldAlike (marks_forgotten o) (marks_forgotten (perform_marked c st order t)))
      (λ e. subst (λ (o : MarkedOutcome). ToldAlike (marks_forgotten (read_back c st s (small c st order m s))) (marks_forgotten o)) (sym (marked-worked st order t c m (sym tested-same ∙ e)))
      (back_told (small_reads e g)))
      (λ h. subst (λ (o : MarkedOutcome). ToldAlike (marks_forgotten (refusal_marked c (tested c st order m s) st s)) (marks_forgotten o)) (sym (marked_refused st order t c m (λ e. h (tested-same ∙ e))))
      (refusal-told c (tested c st order m s) (tested c st order m t) st s t tested-same))

  pub marked_settles : settles_here c st order m s ≡ true → Settled (load st.n (perform_marked c st order s).store) (load st.n (perform_marked c st order t).store)
  marked_settles h =
      let w = settled_both c st order m s h in
      let e = w.1 in
      let f = sym tested-same ∙ e in
      let x = (laws (reduced_call st c)).settles (without_frozen st) (take (cols st) order) (narrowed_in st s) (narrowed_in st t) (long_small e s p) (long_small e t q) (small_alike e) (small_settles c st order m s w.0 e) in
      let zs = load_shaped st.n s (sized c st order m s e) in
      let zt = load_shaped st.n t (sized c st order m t f) in
      let l = left_settles st (load (cols st) (small c st order m s).store) (load (cols st) (small c st order m t).store) (load st.n s) (load st.n t) x.below x.ldiag zs zt c w.0 in
      let u = ap (λ (o : MarkedOutcome). load st.n o.store) (marked-worked st order s c m e) ∙ room_back c st order m s e in
      let v = ap (λ (o : MarkedOutcome). load st.n o.store) (marked-worked st order t c m f) ∙ room_back c st order m t f in
      record {
        below = ap (λ (y : Room). y.below) u ∙ leaving-below _ _ (load st.n s) ∙ l.0 ∙ sym (ap (λ (y : Room). y.below) v ∙ leaving-below _ _ (load st.n t));
        ldiag = ap (λ (y : Room). y.ldiag) u ∙ leaving_ldiag _ _ (load st.n s) ∙ l.1 ∙ sym (ap (λ (y : Room). y.ldiag) v ∙ leaving_ldiag _ _ (load st.n t));
        work =
            ap (λ (y : Room). y.work) u ∙ leaving-work _ _ (load st.n s) ∙ ap zeros (zs.work_long ∙ sym zt.work_long)
            ∙ sym (ap (λ (y : Room). y.work) v ∙ leaving-work _ _ (load st.n t));
      }

-- ---- whatever is held
pub marked_fresh : (c : Call) (st : State) (h : Held) (order : List ℕ) (m : st.marks ≡ 0 → ⊥) (s : List Float) → is_empty h ≡ false → settles_here c st order m s ≡ true
    → (settles_here c (marked_held st h) order m s ≡ true) × (perform_marked c (marked_held st h) order s ≡ perform_marked c st order s)
marked_fresh c st h order m s i g =
    let w = settled_both c st order m s g in
    let e = w.1 in
    let z = ap first_of (tests_fresh st h c order s w.0 i (is_ready c st order m s e).filled) ∙ e in
    let o = take (cols st) order in
    let x = ((laws (reduced_call st c)).fresh (without_frozen st) h o (narrowed_in st s) i (small_settles c st order m s w.0 e)).1 in
    let y : reduced_outcome c (marked_held st h) order s ≡ reduced_outcome c st order s = ap (λ (d : Call). perform d (plain.with_held (without_frozen st) h) o (narrowed_in st s)) (reduced_fresh st h c) ∙ x in (
      both_settled c (marked_held st h) order m s w.0 z,
      marked-worked (marked_held st h) order s c m z ∙ back_fresh st h c s (reduced_outcome c (marked_held st h) order s) ∙ ap (λ (d : Outcome). read_back c st s d) y ∙ sym (marked-worked st order s c m e),
    )

-- ---- of the order list the first n alone are read
pub marked_orders : (c : Call) (st : State) (o p : List ℕ) (m : st.marks ≡ 0 → ⊥) (s : List Float) → st.n ≤ length o → st.n ≤ length p → take st.n o ≡ take st.n p
    → perform_marked c st o s ≡ perform_marked c st p s
marked_orders c st o p m s a b e =
    let t = ap first_of (tests_same st o p a b e c s) in
    let y : reduced_outcome c st o s ≡ reduced_outcome c st p s = ap (λ (l : List ℕ). perform (reduced_call st c) (without_frozen st) l (narrowed_in st s)) (first_same st o p a b e) in
    marked_cases st o s c m (λ (x : MarkedOutcome). x ≡ perform_marked c st p s)
    (λ z. ap (λ (d : Outcome). read_back c st s d) y ∙ sym (marked-worked st p s c m (sym t ∙ z)))
    (λ h. ap (λ (k : ℕ). refusal_marked c k st s) t ∙ sym (marked_refused st p s c m (λ z. h (t ∙ z))))
