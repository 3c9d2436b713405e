-- Two answers that are read alike are the same answer, and so with the slices beside them; and what is known of an answer where the code
-- asks for its case: by `?`, by `if let`, by `unwrap`. Assumes nothing.
use mathlib.Core.Path.{◌≡◌, refl, sym, ap, ◌∙◌}
use mathlib.Core.Bool.{true, false}
use mathlib.Core.List.{List}
use Prim.Native.Nat.{ℕ}
use lib.Dec.{eqb}
use lib.Ieee.{Float}
use borrow.Author.Tests.{ne_eqb}
use Rattle.std.specs.Prelude.{Result, Ok, Err}
use Rattle.std.specs.Result.{IsErrAnd}
use Rattle.leaves.specs.declared.reply.Refusal.{Refusal}
use Rattle.leaves.specs.declared.reply.Told.{Told}
use Rattle.leaves.specs.Reply.{refusal_number, reply_of, failed_by}
use Rattle.leaves.specs.Tests.{Test, first_of}
use Rattle.leaves.proofs.Refusals.{call-refused}
use Rattle.leaves.proofs.Replies.{refusal_number-same, refusal_number-some, reply_of-same}
use Rattle.factor.specs.Outcome.{Read, read, Ended, ended}
use Rattle.factor.specs.declared.state.State.{State}

-- ---- what is read alike is the same

-- two tests that failed by the same number
pub failed_by-same : (r t : Result (Unit {0}) Refusal) → failed_by r ≡ failed_by t → r ≡ t
failed_by-same (Ok x) (Ok y) e = refl
failed_by-same (Ok x) (Err k) e = absurd (refusal_number-some k (sym e))
failed_by-same (Err k) (Ok x) e = absurd (refusal_number-some k e)
failed_by-same (Err j) (Err k) e = ap Err (refusal_number-same j k e)

-- an answer, and the one slice that is written
pub read_same : (r t : Result (Unit {0}) Refusal) {o p : List Float} → read (reply_of r) o ≡ read (reply_of t) p → (r ≡ t) × (o ≡ p)
read_same r t e = (reply_of-same r t (ap (λ (x : Read). x.reply) e), ap (λ (x : Read). x.out) e)

-- an answer and a state, each of its own
pub told_same : {A S : Type 0} (r t : Told A S) → r.answer ≡ t.answer → r.state ≡ t.state → r ≡ t
told_same {A} {S} r t a b =
    ap (λ (d : Result A Refusal). record { answer = d; state = r.state }) a ∙ ap (λ (q : S). record { answer = t.answer; state = q }) b

-- a call's answer and state, and both lent slices after it
pub ended_same : (r t : Told (Unit {0}) State) {s u o p : List Float} → ended (reply_of r.answer) r.state s o ≡ ended (reply_of t.answer) t.state u p
    → (r ≡ t) × (s ≡ u) × (o ≡ p)
ended_same r t e = (
  told_same r t (reply_of-same r.answer t.answer (ap (λ (x : Ended (Unit {0})). x.reply) e)) (ap (λ (x : Ended (Unit {0})). x.state) e),
  ap (λ (x : Ended (Unit {0})). x.store) e,
  ap (λ (x : Ended (Unit {0})). x.out) e,
)

-- ---- where the code asks for a case

-- what a `?` hands on is the refusal that it met
pub handed_on : {A : Type 0} (r : Result A Refusal) (k : Refusal) → IsErrAnd r (λ j. j ≡ k) → r ≡ Err k
handed_on (Ok x) k h = absurd h
handed_on (Err j) k h = ap Err h

-- tests that an `if let` found to be no refusal are passed
pub passed_check : {A : Type 0} (r : Result A Refusal) {k : ℕ} → failed_by r ≡ k → ((j : Refusal) → r ≡ Err j → ⊥) → 0 ≡ k
passed_check (Ok x) e h = e
passed_check (Err j) e h = absurd (h j refl)

-- what an `unwrap` gives of an answer that is known
pub unwrapped : {A : Type 0} {r : Result A Refusal} {x y : A} → r ≡ Ok x → r ≡ Ok y → x ≡ y
unwrapped e h = cc

-- a call that its tests refuse
pub refused_by : {A : Type 0} (worked : A) (refusal : ℕ → A) (ts : List Test) (r : Refusal) → refusal_number r ≡ first_of ts
    → refusal (refusal_number r) ≡ elim (eqb (first_of ts) 0) [ true ↦ worked | false ↦ refusal (first_of ts) ]
refused_by worked refusal ts r e = call-refused worked refusal ts (refusal_number r) (sym e) (ne_eqb (refusal_number r) 0 (refusal_number-some r))
