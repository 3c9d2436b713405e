-- A sheet's text has at most 1,024 bytes, so that in a buffer of that length `fitstep` always prints. Assumes nothing.
use Prim.Native.Nat.{ℕ, suc, ◌+◌, ◌*◌, ◌≤◌}
use mathlib.Core.Path.{◌≡◌}
use mathlib.Core.List.{List, [], ◌∷◌, ◌++◌}
use native.Mathlib.Omega.{arith}
use borrow.Author.Tests.{le-leb}
use lib.ListN.{length, take, length-append, length-take}
use lib.Ieee.{Float}
use Rattle.leaves.specs.Reply.{Reply, answered, refused}
use Rattle.leaves.specs.Square.{zeros}
use Rattle.leaves.specs.Tests.{first_of}
use Rattle.text.specs.Put.{decimal_of}
use Rattle.sheet.specs.Fit.{Fit, searched, started, sheet_call}
use Rattle.sheet.specs.Lines.{radius_word, lambda_word, norm_word, trials_word, determined_word, step_word, refused_word, line, double, step_lines, count_lines, fitted_lines, lines_of, sheet_text, lines_tests, printed, text_call}
use Rattle.sheet.specs.declared.answer.Fitted.{Fitted}
use Rattle.sheet.proofs.Texts.{double_long, decimal_short}
use Rattle.sheet.proofs.Printing.{columns_passed}
use Rattle.sheet.proofs.Columns.{sheet_lines_free}

-- a word, a space, a value and a line feed
line_long : (word value : List ℕ) → length (line word value) ≡ length word + length value + 2
line_long word value =
    let a = length-append (word ++ (32 ∷ []) ++ value) (10 ∷ []) in
    let b = length-append (word ++ (32 ∷ [])) value in
    let d = length-append word (32 ∷ []) in
    omega arith

step_value : (i : ℕ) (x : Float) → length (decimal_of i ++ (32 ∷ []) ++ double x) ≤ 37
step_value i x =
    let a = length-append (decimal_of i ++ (32 ∷ [])) (double x) in
    let b = length-append (decimal_of i) (32 ∷ []) in
    omega (arith, decimal_short i, double_long x)

steps_long : (i : ℕ) (xs : List Float) → length (step_lines i xs) ≤ 43 * length xs
unfolding step_lines step_word
steps_long i [] = omega arith
steps_long i (x ∷ xs) =
    let v = decimal_of i ++ (32 ∷ []) ++ double x in
    let a = length-append (line step_word v) (step_lines (suc i) xs) in
    omega (arith, line_long step_word v, step_value i x, steps_long (suc i) xs)

counts_long : (f : Fitted) → length (count_lines f) ≤ 106
unfolding count_lines lambda_word norm_word trials_word determined_word
counts_long f =
    let a = line lambda_word (double f.lambda) in
    let b = line norm_word (double f.norm) in
    let d = line trials_word (decimal_of f.trials) in
    let e = line determined_word (decimal_of f.determined) in
    let p = line_long lambda_word (double f.lambda) in
    let q = line_long norm_word (double f.norm) in
    let s = line_long trials_word (decimal_of f.trials) in
    let t = line_long determined_word (decimal_of f.determined) in
    let u = length-append (a ++ b ++ d) e in
    let v = length-append (a ++ b) d in
    let w = length-append a b in
    omega (arith, double_long f.lambda, double_long f.norm, decimal_short f.trials, decimal_short f.determined)

fitted_long : (f : Fitted) (step : List Float) → f.columns ≤ 16 → length (fitted_lines f step) ≤ 794
unfolding fitted_lines
fitted_long f step h =
    let a = length-append (count_lines f) (step_lines 0 (take f.columns step)) in
    omega (arith, counts_long f, steps_long 0 (take f.columns step), length-take f.columns step)

lines_long : (a : Reply Fit) (step : List Float) → first_of (lines_tests a 16) ≡ 0 → length (lines_of a step) ≤ 1024
unfolding lines_of radius_word refused_word
lines_long (answered (searched f)) step h = omega (arith, fitted_long f step (columns_passed f.columns 16 h).0)
lines_long (answered (started r f)) step h =
    let a = length-append (line radius_word (double r)) (fitted_lines f step) in
    omega (arith, line_long radius_word (double r), double_long r, fitted_long f step (columns_passed f.columns 16 h).0)
lines_long (refused k) step h = omega (arith, line_long refused_word (decimal_of k), decimal_short k)

pub text_short : (s : List ℕ) → length (sheet_text s) ≤ 1024
unfolding sheet_text
text_short s = let a = sheet_call s (zeros 16) in lines_long a.reply a.step (sheet_lines_free s (zeros 16))

-- so a buffer of 1,024 bytes is never refused
pub always_printed : (s text : List ℕ) → 1024 ≤ length text → (text_call s text).0 ≡ answered (length (sheet_text s))
unfolding text_call printed
always_printed s text h = let n = text_short s in rw (le-leb (length (sheet_text s)) (length text) (omega arith), printed)
