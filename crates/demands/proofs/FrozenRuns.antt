-- 02, #108: after a call with marks the store without the frozen columns holds what the call on the problem without them leaves, in any slices that hold it.
-- Assumes nothing.
use mathlib.Core.Path.{◌≡◌, refl, sym, ap, ◌∙◌, subst}
use mathlib.Core.Bool.{Bool, true, false, ◌&&◌, ◌||◌}
use mathlib.Core.List.{List}
use Prim.Native.Nat.{ℕ, ◌≤◌}
use native.Mathlib.Nat.{le_refl}
use native.Mathlib.Omega.{arith}
use lib.Dec.{eqb}
use lib.ListN.{length, take}
use lib.Ieee.{Float}
use Rattle.leaves.specs.Refusing.{NoneHold}
use Rattle.frozen.proofs.Reduces.{cut_from, narrowed-length}
use Rattle.factor.specs.Room.{Room, load}
use Rattle.factor.specs.State.{store_need}
use Rattle.factor.specs.declared.state.State.{State as Plain}
use Rattle.factor.proofs.Layouts.{load_shaped}
use Rattle.calls.specs.declared.state.State.{State}
use Rattle.calls.specs.State.{cols, without_frozen}
use Rattle.calls.specs.Outcome.{narrowed_in}
use Rattle.demands.specs.History.{Call, AnyAnswer, number_of, perform, is_solve, settling}
use Rattle.demands.specs.Alike.{HeldAlike, Kept, ToldAlike, SameContents}
use Rattle.demands.specs.Marked.{MarkedOutcome, reduced_call, store_back}
use Rattle.demands.specs.Refusals.{tests_of}
use Rattle.demands.proofs.Laws.{laws}
use Rattle.demands.proofs.MarkedForms.{marked-worked}
use Rattle.demands.proofs.ReducedTests.{reduced-passes}
use Rattle.demands.proofs.FrozenTable.{none_met}
use Rattle.demands.proofs.FrozenKeeping.{solve_still}
use Rattle.demands.proofs.FrozenRooms.{narrow-upper, narrow_below, narrow_qtb, narrow-norms, narrow_ldiag}
use Rattle.demands.proofs.FrozenLaws.{tested, small, is_fewer, sized, small_sized, room_back, leaving-below, leaving_ldiag, marked_keeps, marked-lasts}
use Rattle.demands.proofs.FrozenSimulation.{BackTo, back_to, call_empties}

-- ---- calls without marks on stores with the same in them leave stores with the same in them
module _ (d : Call) (st : Plain) (o : List ℕ) (s t : List Float) (a : SameContents st s t) where
  abbrev after : List Float → List Float
  after x = (perform d st o x).store

  pub told_same : ToldAlike (perform d st o s) (perform d st o t)
  told_same = (laws d).reads st o s t a.long_left a.long_right a.alike (λ h. a.held_alike)

  settling-same : settling d st o s ≡ settling d st o t
  settling-same = ap (λ (x : AnyAnswer). is_solve d && (eqb (number_of x) 0 || eqb (number_of x) 8)) told_same.answer

  held_follows : (b : Bool) → settling d st o s ≡ b → HeldAlike (load st.n (after s)) (load st.n (after t))
  held_follows true e =
      let w = (laws d).settles st o s t a.long_left a.long_right a.alike e in
      record { below = w.below; ldiag = w.ldiag }
  held_follows false e =
      let u = (laws d).otherwise st o s e in
      let v = (laws d).otherwise st o t (sym settling-same ∙ e) in
      record { below = u.below ∙ a.held_alike.below ∙ sym v.below; ldiag = u.ldiag ∙ a.held_alike.ldiag ∙ sym v.ldiag }

  pub plain_follows : SameContents st (after s) (after t)
  plain_follows =
      let k = (laws d).keeps st o s in
      let j = (laws d).keeps st o t in
      let l = a.long_left in
      let r = a.long_right in
      let f = (laws d).lasts st o s in
      let g = (laws d).lasts st o t in
      record {
        long_left = omega arith;
        long_right = omega arith;
        alike = record {
          upper = k.upper ∙ a.alike.upper ∙ sym j.upper;
          qtb = k.qtb ∙ a.alike.qtb ∙ sym j.qtb;
          norms = k.norms ∙ a.alike.norms ∙ sym j.norms;
        };
        held_alike = held_follows (settling d st o s) refl;
      }

pub same-both : {st : Plain} {s t u : List Float} → SameContents st s t → SameContents st t u → SameContents st s u
same-both a b = record {
  long_left = a.long_left;
  long_right = b.long_right;
  alike = record { upper = a.alike.upper ∙ b.alike.upper; qtb = a.alike.qtb ∙ b.alike.qtb; norms = a.alike.norms ∙ b.alike.norms };
  held_alike = record { below = a.held_alike.below ∙ b.held_alike.below; ldiag = a.held_alike.ldiag ∙ b.held_alike.ldiag };
}

-- ---- the store after a call with marks, without the frozen columns
module _ (c : Call) (st : State) (order : List ℕ) (m : st.marks ≡ 0 → ⊥) (s : List Float) (e : tested c st order m s ≡ 0) where
  abbrev left : List Float
  left = store_back c st (small c st order m s).store s

  abbrev first : List ℕ
  first = take (cols st) order

  kept-wide : Kept (load st.n s) (load st.n left)
  kept-wide = subst (λ (o : MarkedOutcome). Kept (load st.n s) (load st.n o.store)) (marked-worked st order s c m e) (marked_keeps c st order m s)

  long : store_need st.n ≤ length s
  long = (sized c st order m s e).fits

  left_long : store_need st.n ≤ length left
  left_long =
      let a = long in
      let b = ap (λ (o : MarkedOutcome). length o.store) (sym (marked-worked st order s c m e)) ∙ marked-lasts c st order m s in
      omega arith

  fits : cols st ≤ st.n
  fits = is_fewer c st order m s e

  passes : NoneHold (tests_of (reduced_call st c) (without_frozen st) first (narrowed_in st s))
  passes = reduced-passes st order s c (none_met c st order s m e)

  rests : is_solve c ≡ false → ((load (cols st) (small c st order m s).store).below ≡ (load (cols st) (narrowed_in st s)).below) × ((load (cols st) (small c st order m s).store).ldiag ≡ (load (cols st) (narrowed_in st s)).ldiag)
  rests i =
      let u = (laws (reduced_call st c)).otherwise (without_frozen st) first (narrowed_in st s) (no_solve (reduced_call st c) (solve_still c st ∙ i)) in
      (u.below, u.ldiag)
    where
      no_solve : (d : Call) → is_solve d ≡ false → settling d (without_frozen st) first (narrowed_in st s) ≡ false
      no_solve d j = rw j

  below_back : BackTo st (load (cols st) (small c st order m s).store) (load st.n s) (load (cols st) (narrowed_in st s)) fits
      (load_shaped (cols st) (small c st order m s).store (small_sized c st order m s e)) (load_shaped st.n s (sized c st order m s e))
      (narrow_below st.n (cols st) s fits long) (narrow_ldiag st.n (cols st) s fits long) c
  below_back = back_to st (load (cols st) (small c st order m s).store) (load st.n s) (load (cols st) (narrowed_in st s)) fits
      (load_shaped (cols st) (small c st order m s).store (small_sized c st order m s e)) (load_shaped st.n s (sized c st order m s e))
      (narrow_below st.n (cols st) s fits long) (narrow_ldiag st.n (cols st) s fits long) c (λ i. call_empties c i st first (narrowed_in st s) passes) rests

  -- LAW
  pub narrow_back : SameContents (without_frozen st) (narrowed_in st left) (small c st order m s).store
  narrow_back =
      let k = (laws (reduced_call st c)).keeps (without_frozen st) first (narrowed_in st s) in
      let w = kept-wide in
      let u = room_back c st order m s e in
      let n = st.n in
      let f = cols st in
      record {
        long_left = let l = narrowed-length n f left fits left_long in rw l (le_refl (store_need f));
        long_right = (small_sized c st order m s e).fits;
        alike = record {
          upper = narrow-upper n f left fits left_long ∙ ap (λ (x : List (List Float)). take f x) w.upper ∙ sym (narrow-upper n f s fits long) ∙ sym k.upper;
          qtb = narrow_qtb n f left fits left_long ∙ ap (λ (x : List Float). take f x) w.qtb ∙ sym (narrow_qtb n f s fits long) ∙ sym k.qtb;
          norms = narrow-norms n f left fits left_long ∙ ap (λ (x : List Float). take f x) w.norms ∙ sym (narrow-norms n f s fits long) ∙ sym k.norms;
        };
        held_alike = record {
          below = narrow_below n f left fits left_long ∙ ap (λ (x : Room). cut_from f 0 (take f x.below)) u ∙ ap (λ (x : List (List Float)). cut_from f 0 (take f x)) (leaving-below _ _ (load n s)) ∙ below_back.0;
          ldiag = narrow_ldiag n f left fits left_long ∙ ap (λ (x : Room). take f x.ldiag) u ∙ ap (λ (x : List Float). take f x) (leaving_ldiag _ _ (load n s)) ∙ below_back.1;
        };
      }
