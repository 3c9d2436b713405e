-- The lines of an answer: when they can be written, and what is written. Assumes nothing.
use Prim.Native.Nat.{ℕ, ◌+◌, ◌≤◌}
use mathlib.Core.Path.{◌≡◌, refl, sym, ap, ◌∙◌}
use mathlib.Core.Bool.{Bool, true, false, ◌||◌, true≢false}
use mathlib.Core.List.{List, ◌++◌}
use native.Mathlib.Omega.{arith}
use borrow.Author.Tests.{ne_eqb, ltb-false}
use lib.Dec.{eqb, ltb}
use lib.ListN.{length, take, drop}
use lib.Seq.{sets-eq, take-append_seam}
use lib.Ieee.{Float}
use Rattle.std.specs.Prelude.{Result, Ok, Err}
use Rattle.std.specs.Result.{MatchResult, IsErrAnd}
use Rattle.leaves.specs.declared.reply.Refusal.{Refusal}
use Rattle.leaves.specs.Reply.{Reply, refused, refusal_number}
use Rattle.leaves.specs.Square.{zeros}
use Rattle.leaves.specs.Tests.{first_of}
use Rattle.leaves.proofs.Replies.{refusal_number-some}
use Rattle.leaves.proofs.Refusals.{passed_iff, call-refused, call-worked}
use Rattle.sheet.specs.Fit.{Fit, fit_of, numbered_of, Finished, finished, sheet_call}
use Rattle.sheet.specs.Lines.{lines_of, sheet_text, column_tests, lines_tests, printed, lines_call, text_call}
use Rattle.sheet.specs.inner.Handed.{put}
use Rattle.sheet.specs.declared.answer.Answer.{Answer}
use Rattle.sheet.proofs.Columns.{sheet_lines_free}
use Rattle.leaves.specs.Refusing.{NoneHold}

second : (a b : Bool) → (a || b) ≡ false → b ≡ false
second true b h = absurd (true≢false h)
second false b h = h

pub columns_passed : (n step : ℕ) → first_of (column_tests n step) ≡ 0 → (n ≤ 16) × (n ≤ step)
columns_passed n step z =
    let p : NoneHold (column_tests n step) = (passed_iff (column_tests n step) refl).0 z in
    (ltb-false 16 n (second (eqb n 0) (ltb 16 n) p.0), ltb-false step n p.1.0)

-- what was put at the start of a room that holds it
pub taken : (a l : List ℕ) {p : ℕ} {m : List ℕ} → (p, m) ≡ put a 0 l → p ≤ length l → take p m ≡ a
taken a l {p} {m} e h =
    let q : p ≡ 0 + length a = ap (λ (x : ℕ × List ℕ). x.0) e in
    let z : 0 + length a ≡ length a = omega arith in
    let d : m ≡ a ++ drop (0 + length a) l = ap (λ (x : ℕ × List ℕ). x.1) e ∙ sets-eq a l 0 (omega arith) in
    rw (d, q, z) (take-append_seam a _)

module _ (a : Reply Fit) (step : List Float) (text : List ℕ) where
  abbrev refusal : ℕ → Reply ℕ × List ℕ
  refusal k = (refused k, text)

  pub lines_refused : (k : Refusal) → refusal_number k ≡ first_of (lines_tests a (length step)) → (refused (refusal_number k), text) ≡ lines_call a step text
  unfolding lines_call
  lines_refused k e = call-refused (printed (lines_of a step) text) refusal (lines_tests a (length step)) (refusal_number k) (sym e) (ne_eqb _ _ (refusal_number-some k))

  pub lines_printed : 0 ≡ first_of (lines_tests a (length step)) → {b : List ℕ} → b ≡ lines_of a step → {r : Reply ℕ × List ℕ} → r ≡ printed b text → r ≡ lines_call a step text
  unfolding lines_call
  lines_printed e g h =
      h ∙ ap (λ (x : List ℕ). printed x text) g ∙ call-worked (printed (lines_of a step) text) refusal (lines_tests a (length step)) (sym e)

-- a refusal by its number is read as the refusal
pub numbered-same : (r : Result Answer Refusal) (t : Result Answer ℕ) → MatchResult r (λ x. t ≡ Ok x) (λ k. IsErrAnd t (λ j. j ≡ refusal_number k)) → numbered_of t ≡ fit_of r
numbered-same (Ok a) t h = ap numbered_of h
numbered-same (Err k) (Ok a) h = absurd h
numbered-same (Err k) (Err j) h = ap refused h

-- a sheet's answer, printed: no test of its lines is met
pub sheet-printed : (s text : List ℕ) {a : Reply Fit} {old step : List Float} {r : Reply ℕ × List ℕ} → old ≡ zeros 16 → finished a step ≡ sheet_call s old → length step ≡ length old → r ≡ lines_call a step text
    → r ≡ text_call s text
unfolding text_call sheet_text lines_call
sheet-printed s text {a} {old} {step} z e l h =
    let n : length step ≡ 16 = l ∙ ap length z in
    let f : first_of (lines_tests a (length step)) ≡ 0
    = ap (λ (k : ℕ). first_of (lines_tests a k)) n ∙ ap (λ (t : Finished Fit). first_of (lines_tests t.reply 16)) e ∙ sheet_lines_free s old in
    h
    ∙ sym (call-worked (printed (lines_of a step) text) (λ (k : ℕ). (refused k, text)) (lines_tests a (length step)) f)
    ∙ ap (λ (t : Finished Fit). printed (lines_of t.reply t.step) text) (e ∙ ap (sheet_call s) z)
