-- A sheet longer than any has the text of its first 17,556 bytes: `fitstep` need not read more. Assumes nothing.
use Prim.Native.Nat.{ℕ, ◌<◌, ◌≤◌}
use mathlib.Core.Path.{◌≡◌, refl, sym, ap, ◌∙◌}
use mathlib.Core.Bool.{Bool, true, false, cond, not, ◌||◌}
use mathlib.Core.List.{List, [], ◌∷◌}
use native.Mathlib.Omega.{arith}
use borrow.Author.Tests.{ne_eqb, le-ltb}
use lib.Dec.{eqb, ltb}
use lib.ListN.{length, take}
use lib.Seq.{take-take, length-take-le}
use lib.Ieee.{Float}
use Rattle.leaves.specs.Reply.{refused}
use Rattle.leaves.specs.Tests.{outside, Test, first_of}
use Rattle.leaves.specs.Square.{zeros}
use Rattle.leaves.proofs.Insides.{inside, jacobian_small}
use Rattle.leaves.proofs.Refusals.{test_passed, call-refused}
use Rattle.sheet.specs.Sheet.{head_of, lasts, count_of, length_of, job_of}
use Rattle.sheet.specs.Tests.{unknown, number_tests, numbers_of, sheet_tests}
use Rattle.sheet.specs.Fit.{Fit, Finished, finished, worked, sheet_call}
use Rattle.sheet.specs.Lines.{lines_of, sheet_text}
use Rattle.sheet.specs.declared.head.Head.{Head}

-- what an overlong sheet is refused by: its head's tests, then its length
abbrev number : Head → ℕ
number h = first_of ((unknown h, 1) ∷ (outside h.m h.n, 2) ∷ (true, 3) ∷ [])

few : (call : ℕ) → lasts call ≤ 2
few call = by (eqb call 1)
  where
    by : (b : Bool) → cond b 2 1 ≤ 2
    by true = omega arith
    by false = omega arith

-- the longest sheet
pub longest : (h : Head) → outside h.m h.n ≡ false → length_of h ≤ 17555
unfolding count_of
longest h o = let i = inside h.m h.n o in omega (arith, jacobian_small i, i.rows_few, i.cols_few, few h.call)

tests_stop : (u o l : Bool) (ts : List Test) → (o ≡ false → l ≡ true) → first_of ((u, 1) ∷ (o, 2) ∷ (l, 3) ∷ ts) ≡ first_of ((u, 1) ∷ (o, 2) ∷ (true, 3) ∷ [])
unfolding first_of
tests_stop true o l ts h = refl
tests_stop false true l ts h = refl
tests_stop false false l ts h = rw (h refl)

some_number : (u o : Bool) → eqb (first_of ((u, 1) ∷ (o, 2) ∷ (true, 3) ∷ [])) 0 ≡ false
unfolding first_of
some_number true o = refl
some_number false true = refl
some_number false false = refl

module _ (s : List ℕ) (long : 17555 < length s) where
  too_long : (room : ℕ) → outside (head_of s).m (head_of s).n ≡ false → (not (eqb (length s) (length_of (head_of s))) || ltb room (head_of s).n) ≡ true
  too_long room o =
      let m = longest (head_of s) o in
      rw (ne_eqb (length s) (length_of (head_of s)) (λ e. omega arith))

  met : (room : ℕ) → first_of (sheet_tests s room) ≡ number (head_of s)
  unfolding sheet_tests
  met room =
      test_passed _ _ (le-ltb (length s) 3 (omega arith))
      ∙ tests_stop (unknown (head_of s)) (outside (head_of s).m (head_of s).n) _ (number_tests (head_of s) (numbers_of (head_of s) s)) (too_long room)

  refused_long : (step : List Float) → finished (refused (number (head_of s))) step ≡ sheet_call s step
  unfolding sheet_call
  refused_long step =
      call-refused (worked (job_of (head_of s) (numbers_of (head_of s) s)) step) (λ (k : ℕ). finished (refused k) step) (sheet_tests s (length step)) (number (head_of s)) (met (length step)) (some_number (unknown (head_of s)) (outside (head_of s).m (head_of s).n))

same_head : (s : List ℕ) (k : ℕ) → 3 ≤ k → head_of (take k s) ≡ head_of s
unfolding head_of
same_head s k h = rw (take-take 3 k s h)

pub overlong : (s : List ℕ) → 17555 < length s → sheet_text (take 17556 s) ≡ sheet_text s
unfolding sheet_text
overlong s h =
    let l : length (take 17556 s) ≡ 17556 = length-take-le 17556 s (omega arith) in
    let e : sheet_call (take 17556 s) (zeros 16) ≡ sheet_call s (zeros 16)
    = sym (refused_long (take 17556 s) (omega arith) (zeros 16))
    ∙ ap (λ (x : Head). finished (refused (number x)) (zeros 16)) (same_head s 17556 (omega arith))
    ∙ refused_long s h (zeros 16) in
    ap (λ (t : Finished Fit). lines_of t.reply t.step) e
