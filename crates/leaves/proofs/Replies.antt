-- Two answers that are read alike are the same answer. Assumes nothing.
use mathlib.Core.Path.{◌≡◌, refl, ap, sym, ◌∙◌}
use Prim.Native.Nat.{ℕ}
use native.Mathlib.Omega.{arith}
use Rattle.std.specs.Prelude.{Result, Ok, Err, cond, eqb}
use Rattle.leaves.specs.Reply.{Reply, answered, refused, refusal_number, reply_of, measured_of}
use Rattle.leaves.specs.declared.reply.Refusal.{Refusal}
use Rattle.leaves.specs.declared.reply.Refusal.TheVariants as refusal
use Rattle.leaves.specs.declared.norm.Ranges.{Ranges}
use Rattle.leaves.specs.declared.norm.Normed.{Normed}
use lib.Ieee.{Float}

pub answered-refused : {A X : Type 0} {x : A} {k : ℕ} → answered x ≡ refused k → X
answered-refused {x = x} {k = k} e = absurd (let z : ◌≡◌ {A = ℕ} 0 1 = cc in omega arith)

pub refused-answered : {A X : Type 0} {x : A} {k : ℕ} → refused k ≡ answered x → X
refused-answered {x = x} {k = k} e = absurd (let z : ◌≡◌ {A = ℕ} 0 1 = cc in omega arith)

pub answered-same : {A : Type 0} {x y : A} → answered x ≡ answered y → x ≡ y
answered-same e = cc

pub refused-same : {A : Type 0} {j k : ℕ} → ◌≡◌ {A = Reply A} (refused j) (refused k) → j ≡ k
refused-same e = cc

-- the refusal of a number
refusal_at : ℕ → Refusal
refusal_at k =
    cond (eqb k 1) refusal.Sheet
    (cond (eqb k 2) refusal.Sizes
    (cond (eqb k 3) refusal.Length
    (cond (eqb k 4) refusal.Order
    (cond (eqb k 5) refusal.NotHeld
    (cond (eqb k 6) refusal.NotFinite (cond (eqb k 7) refusal.Range (cond (eqb k 8) refusal.Overflow refusal.AllFrozen)))))))

refusal_back : (r : Refusal) → refusal_at (refusal_number r) ≡ r
unfolding refusal_at
refusal_back refusal.Sheet = refl
refusal_back refusal.Sizes = refl
refusal_back refusal.Length = refl
refusal_back refusal.Order = refl
refusal_back refusal.NotHeld = refl
refusal_back refusal.NotFinite = refl
refusal_back refusal.Range = refl
refusal_back refusal.Overflow = refl
refusal_back refusal.AllFrozen = refl

pub refusal_number-same : (r t : Refusal) → refusal_number r ≡ refusal_number t → r ≡ t
refusal_number-same r t e = sym (refusal_back r) ∙ ap refusal_at e ∙ refusal_back t

-- no refusal has the number 0, which stands for none
pub refusal_number-some : (r : Refusal) → refusal_number r ≡ 0 → ⊥
refusal_number-some refusal.Sheet e = omega arith
refusal_number-some refusal.Sizes e = omega arith
refusal_number-some refusal.Length e = omega arith
refusal_number-some refusal.Order e = omega arith
refusal_number-some refusal.NotHeld e = omega arith
refusal_number-some refusal.NotFinite e = omega arith
refusal_number-some refusal.Range e = omega arith
refusal_number-some refusal.Overflow e = omega arith
refusal_number-some refusal.AllFrozen e = omega arith

pub reply_of-same : {A : Type 0} (r t : Result A Refusal) → reply_of r ≡ reply_of t → r ≡ t
reply_of-same (Ok x) (Ok y) e = ap Ok (answered-same e)
reply_of-same (Ok x) (Err k) e = answered-refused e
reply_of-same (Err k) (Ok x) e = refused-answered e
reply_of-same (Err j) (Err k) e = ap Err (refusal_number-same j k (refused-same e))

pub measured_of-same : (r t : Result Normed Refusal) → measured_of r ≡ measured_of t → r ≡ t
measured_of-same (Ok a) (Ok b) e = ap (λ (p : Float × Ranges). Ok (record { value = p.0; seen = p.1 })) (answered-same e)
measured_of-same (Ok a) (Err k) e = answered-refused e
measured_of-same (Err k) (Ok a) e = refused-answered e
measured_of-same (Err j) (Err k) e = ap Err (refusal_number-same j k (refused-same e))

-- an answer where the definition has one
pub reply_of-ok : {A : Type 0} (r : Result A Refusal) {x : A} → reply_of r ≡ answered x → r ≡ Ok x
reply_of-ok r {x = x} e = reply_of-same r (Ok x) e
