-- 01, 'Refusal numbers, tested in this order': a number is given exactly when its condition holds and none before it does. Assumes nothing.
use mathlib.Core.Path.{◌≡◌, refl, sym, ap, ◌∙◌}
use mathlib.Core.Bool.{Bool, true, false, ◌&&◌, and-eq-true_iff}
use mathlib.Core.List.{List, [], ◌∷◌, ◌++◌}
use mathlib.Core.Logic.{◌↔◌}
use Prim.Native.Nat.{ℕ, ◌<◌}
use native.Mathlib.Omega.{arith}
use lib.Dec.{ltb, eqb}
use borrow.Author.Tests.{ltb-true, eq-eqb}
use Rattle.leaves.specs.Tests.{Test, first_of}
use Rattle.leaves.specs.Refusing.{NoneHold, RefusedBy}

-- every number is a refusal's: none is 0. It computes: `refl` for a call's list.
abbrev pub numbered : List Test → Bool
numbered [] = true
numbered (t ∷ ts) = ltb 0 t.1 && numbered ts

-- ---- one test
pub test_met : (t : Test) (ts : List Test) → t.0 ≡ true → first_of (t ∷ ts) ≡ t.1
unfolding first_of
test_met t ts h = rw h

pub test_passed : (t : Test) (ts : List Test) → t.0 ≡ false → first_of (t ∷ ts) ≡ first_of ts
unfolding first_of
test_passed t ts h = rw h

-- ---- exactly when
refused_back : (earlier later : List Test) (k : ℕ) → NoneHold earlier → first_of (earlier ++ ((true, k) ∷ later)) ≡ k
refused_back [] later k h = test_met (true, k) later refl
refused_back (t ∷ ts) later k h = test_passed t (ts ++ ((true, k) ∷ later)) h.0 ∙ refused_back ts later k h.1

after : (t : Test) (ts : List Test) (k : ℕ) → t.0 ≡ false → RefusedBy ts k → RefusedBy (t ∷ ts) k
after t ts k h r = record { earlier = t ∷ r.earlier; later = r.later; splits = ap (λ (l : List Test). t ∷ l) r.splits; none_earlier = (h, r.none_earlier) }

refused_there : (ts : List Test) (k : ℕ) → 0 < k → first_of ts ≡ k → RefusedBy ts k
unfolding first_of
refused_there [] k p e = absurd (omega arith)
refused_there ((true, j) ∷ ts) k p e = record { earlier = []; later = ts; splits = ap (λ (i : ℕ). (true, i) ∷ ts) e; none_earlier = tt }
refused_there ((false, j) ∷ ts) k p e = after (false, j) ts k refl (refused_there ts k p e)

-- refused k: k's condition holds, and none earlier
pub refused_iff : (ts : List Test) (k : ℕ) → 0 < k → (first_of ts ≡ k) ↔ RefusedBy ts k
refused_iff ts k p = (refused_there ts k p, λ r. ap first_of r.splits ∙ refused_back r.earlier r.later k r.none_earlier)

passed_there : (ts : List Test) → numbered ts ≡ true → first_of ts ≡ 0 → NoneHold ts
unfolding first_of
passed_there [] q e = tt
passed_there ((true, j) ∷ ts) q e = let p : 0 < j = ltb-true 0 j ((and-eq-true_iff (ltb 0 j) (numbered ts)).0 q).0 in absurd (omega arith)
passed_there ((false, j) ∷ ts) q e = (refl, passed_there ts ((and-eq-true_iff (ltb 0 j) (numbered ts)).0 q).1 e)

passed_back : (ts : List Test) → NoneHold ts → first_of ts ≡ 0
unfolding first_of
passed_back [] h = refl
passed_back (t ∷ ts) h = test_passed t ts h.0 ∙ passed_back ts h.1

-- passed: no condition holds
pub passed_iff : (ts : List Test) → numbered ts ≡ true → (first_of ts ≡ 0) ↔ NoneHold ts
passed_iff ts q = (passed_there ts q, passed_back ts)

-- ---- more tests after a list that is tested already: `let c = ..; if c != 0 { refused c }`, and the further tests after it
pub stopped : (ts us : List Test) (c : ℕ) → c ≡ first_of ts → (c ≡ 0 → ⊥) → first_of (ts ++ us) ≡ c
unfolding first_of
stopped [] us c e h = absurd (h e)
stopped ((true, j) ∷ ts) us c e h = sym e
stopped ((false, j) ∷ ts) us c e h = stopped ts us c e h

pub went_on : (ts us : List Test) (c : ℕ) → numbered ts ≡ true → c ≡ first_of ts → c ≡ 0 → first_of (ts ++ us) ≡ first_of us
went_on ts us c q e z = over ts (passed_there ts q (sym e ∙ z))
  where
    over : (l : List Test) → NoneHold l → first_of (l ++ us) ≡ first_of us
    over [] h = refl
    over (t ∷ l) h = test_passed t (l ++ us) h.0 ∙ over l h.1

-- ---- a call by its tests, as each is defined: what it does when none is met, or the refusal
module _ {A : Type 0} (worked : A) (refusal : ℕ → A) (ts : List Test) where
  pub call-refused : (c : ℕ) → first_of ts ≡ c → eqb c 0 ≡ false → refusal c ≡ elim (eqb (first_of ts) 0) [ true ↦ worked | false ↦ refusal (first_of ts) ]
  call-refused c e h = rw (ap (λ (k : ℕ). eqb k 0) e ∙ h) (ap refusal (sym e))

  pub call-worked : first_of ts ≡ 0 → worked ≡ elim (eqb (first_of ts) 0) [ true ↦ worked | false ↦ refusal (first_of ts) ]
  call-worked e = rw (eq-eqb (first_of ts) 0 e)

-- ---- and over two lists
pub none_of_both : (ts us : List Test) → NoneHold (ts ++ us) → NoneHold ts × NoneHold us
none_of_both [] us h = (tt, h)
none_of_both (t ∷ ts) us h = let r = none_of_both ts us h.1 in ((h.0, r.0), r.1)

-- ---- tests in order: the tests of another function passed, one's own passed, none left
pub went_to : (ts us : List Test) {c k : ℕ} → numbered ts ≡ true → c ≡ first_of ts → c ≡ 0 → k ≡ first_of us → k ≡ first_of (ts ++ us)
went_to ts us {c = c} q e z h = h ∙ sym (went_on ts us c q e z)

pub past : (t : Test) (us : List Test) {k : ℕ} → t.0 ≡ false → k ≡ first_of us → k ≡ first_of (t ∷ us)
past t us p h = h ∙ sym (test_passed t us p)

pub none_left : 0 ≡ first_of []
unfolding first_of
none_left = refl

-- and what is passed with later tests is passed
pub earlier_passed : (ts us : List Test) → numbered ts ≡ true → numbered (ts ++ us) ≡ true → first_of (ts ++ us) ≡ 0 → first_of ts ≡ 0
earlier_passed ts us q r e = (passed_iff ts q).1 (none_of_both ts us ((passed_iff (ts ++ us) r).0 e)).0
