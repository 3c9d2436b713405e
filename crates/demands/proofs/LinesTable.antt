-- 01, refusals 2 and 3 of the lines that `fitstep` prints, as a table: of an answer that names columns out of range or a step too short, and of a
-- buffer that is too short for the bytes. Assumes nothing.
use mathlib.Core.Path.{◌≡◌, refl, ap, ◌∙◌}
use mathlib.Core.Bool.{Bool, true, false}
use mathlib.Core.List.{List, [], ◌∷◌, ◌++◌}
use Prim.Native.Nat.{ℕ, ◌<◌}
use native.Mathlib.Omega.{arith}
use lib.Dec.{eqb, ltb, leb}
use lib.ListN.{length, drop}
use lib.Ieee.{Float}
use borrow.Author.Tests.{ne_eqb, ltb-true, ltb-false, le-leb, lt-leb}
use mathlib.Core.Bool.{and-eq-true_iff}
use Rattle.leaves.specs.Reply.{Reply, answered, refused}
use Rattle.leaves.specs.Tests.{Test, first_of}
use Rattle.leaves.proofs.Refusals.{numbered}
use Rattle.sheet.specs.Fit.{Fit, searched, started}
use Rattle.sheet.specs.Lines.{lines_tests, lines_of, sheet_text, printed, lines_call, text_call}
use Rattle.demands.specs.Workings.{SheetLines}
use Rattle.demands.proofs.WorkingTable.{outcome, by_tests}

abbrev Left : Type 0
Left = Reply ℕ × List ℕ

-- ---- one more test after the others
more : {A B : Type 0} (came : Reply B → A) (worked : A) (ts : List Test) (t : Test) → numbered ts ≡ true
    → ◌≡◌ {A = A} (elim (eqb (first_of ts) 0) [ true ↦ elim (eqb (first_of (t ∷ [])) 0) [ true ↦ worked | false ↦ came (refused (first_of (t ∷ []))) ] | false ↦ came (refused (first_of ts)) ])
    (elim (eqb (first_of (ts ++ (t ∷ []))) 0) [ true ↦ worked | false ↦ came (refused (first_of (ts ++ (t ∷ [])))) ])
unfolding first_of
more came worked [] t q = refl
more came worked ((true, k) ∷ ts) t q = let p : 0 < k = ltb-true 0 k ((and-eq-true_iff (ltb 0 k) (numbered ts)).0 q).0 in rw (ne_eqb k 0 (λ e. omega arith))
more came worked ((false, k) ∷ ts) t q = more came worked ts t ((and-eq-true_iff (ltb 0 k) (numbered ts)).0 q).1

-- ---- the bytes in the buffer
abbrev short : List ℕ → List ℕ → Test
short bytes text = (ltb (length text) (length bytes), 3)

abbrev whole : List ℕ → List ℕ → Left
whole bytes text = (answered (length bytes), bytes ++ drop (length bytes) text)

printed_is : (bytes text : List ℕ) → printed bytes text ≡ elim (eqb (first_of (short bytes text ∷ [])) 0) [ true ↦ whole bytes text | false ↦ (refused (first_of (short bytes text ∷ [])), text) ]
unfolding printed first_of
printed_is bytes text = by (ltb (length text) (length bytes)) refl
  where
    by : (b : Bool) → ltb (length text) (length bytes) ≡ b
        → ◌≡◌ {A = Left} (elim (leb (length bytes) (length text)) [ true ↦ whole bytes text | false ↦ (refused 3, text) ])
        (elim (eqb (first_of ((b, 3) ∷ [])) 0) [ true ↦ whole bytes text | false ↦ (refused (first_of ((b, 3) ∷ [])), text) ])
    by true e = rw (lt-leb (length bytes) (length text) (ltb-true (length text) (length bytes) e))
    by false e = rw (le-leb (length bytes) (length text) (ltb-false (length text) (length bytes) e))

tests_numbered : (a : Reply Fit) (n : ℕ) → numbered (lines_tests a n) ≡ true
tests_numbered (answered (searched f)) n = refl
tests_numbered (answered (started radius f)) n = refl
tests_numbered (refused k) n = refl

all_numbered : (a : Reply Fit) (n : ℕ) (bytes text : List ℕ) → numbered (lines_tests a n ++ (short bytes text ∷ [])) ≡ true
all_numbered (answered (searched f)) n bytes text = refl
all_numbered (answered (started radius f)) n bytes text = refl
all_numbered (refused k) n bytes text = refl

lines_is : (a : Reply Fit) (step : List Float) (text : List ℕ)
    → lines_call a step text
    ≡ outcome (lines_tests a (length step) ++ (short (lines_of a step) text ∷ [])) (λ (x : Left). x.0) (λ (r : Reply ℕ). (r, text)) (whole (lines_of a step) text)
unfolding lines_call
lines_is a step text =
    ap (λ (x : Left). elim (eqb (first_of (lines_tests a (length step))) 0) [ true ↦ x | false ↦ (refused (first_of (lines_tests a (length step))), text) ]) (printed_is (lines_of a step) text)
    ∙ more (λ (r : Reply ℕ). (r, text)) (whole (lines_of a step) text) (lines_tests a (length step)) (short (lines_of a step) text) (tests_numbered a (length step))

-- LAW
pub sheet_lines : SheetLines
unfolding text_call
sheet_lines = record {
  write_lines = λ a step text. rw (lines_is a step text) (by_tests _ _ _ _ (all_numbered a (length step) (lines_of a step) text) (λ r. refl) refl);
  fit_lines = λ s text. rw (printed_is (sheet_text s) text) (by_tests _ _ _ _ refl (λ r. refl) refl);
}
