-- 01, 'Job sheet and its program': the lines that are printed, as ASCII codes.
use Rattle.std.specs.Prelude.{ℕ, suc, true, false, ◌||◌, List, [], ◌∷◌, ◌++◌, eqb, ltb, leb, length, take, drop, Float}
use Rattle.std.specs.Float.{binary64}
use Rattle.std.specs.Float.Ieee.{to_bits}
use Rattle.leaves.specs.Reply.{Reply, answered, refused}
use Rattle.leaves.specs.Square.{zeros}
use Rattle.leaves.specs.Tests.{Test, first_of}
use Rattle.text.specs.Put.{digits, decimal_of}
use Rattle.sheet.specs.Fit.{Fit, searched, started, sheet_call}
use Rattle.sheet.specs.declared.answer.Fitted.{Fitted}

-- the words
unfoldable pub radius_word : List ℕ
radius_word = 114 ∷ 97 ∷ 100 ∷ 105 ∷ 117 ∷ 115 ∷ []

unfoldable pub lambda_word : List ℕ
lambda_word = 108 ∷ 97 ∷ 109 ∷ 98 ∷ 100 ∷ 97 ∷ []

unfoldable pub norm_word : List ℕ
norm_word = 110 ∷ 111 ∷ 114 ∷ 109 ∷ []

unfoldable pub trials_word : List ℕ
trials_word = 116 ∷ 114 ∷ 105 ∷ 97 ∷ 108 ∷ 115 ∷ []

unfoldable pub determined_word : List ℕ
determined_word = 100 ∷ 101 ∷ 116 ∷ 101 ∷ 114 ∷ 109 ∷ 105 ∷ 110 ∷ 101 ∷ 100 ∷ []

unfoldable pub step_word : List ℕ
step_word = 115 ∷ 116 ∷ 101 ∷ 112 ∷ []

unfoldable pub refused_word : List ℕ
refused_word = 114 ∷ 101 ∷ 102 ∷ 117 ∷ 115 ∷ 101 ∷ 100 ∷ []

-- a word, a space, a value and the end of the line
abbrev pub line : List ℕ → List ℕ → List ℕ
line word value = word ++ (32 ∷ []) ++ value ++ (10 ∷ [])

-- a double as 16 capital hex digits; counts and places in decimal
abbrev pub double : Float → List ℕ
double x = digits 16 16 (to_bits binary64 x)

-- one line per column
unfoldable pub step_lines : ℕ → List Float → List ℕ
step_lines i [] = []
step_lines i (x ∷ xs) = line step_word (decimal_of i ++ (32 ∷ []) ++ double x) ++ step_lines (suc i) xs

-- the lines between the radius and the step
unfoldable pub count_lines : Fitted → List ℕ
count_lines f =
    line lambda_word (double f.lambda)
    ++ line norm_word (double f.norm)
    ++ line trials_word (decimal_of f.trials)
    ++ line determined_word (decimal_of f.determined)

unfoldable pub fitted_lines : Fitted → List Float → List ℕ
fitted_lines f step = count_lines f ++ step_lines 0 (take f.columns step)

unfoldable pub lines_of : Reply Fit → List Float → List ℕ
lines_of (answered (searched f)) step = fitted_lines f step
lines_of (answered (started radius f)) step = line radius_word (double radius) ++ fitted_lines f step
lines_of (refused k) step = line refused_word (decimal_of k)

-- what `fitstep` prints, for every sheet
unfoldable pub sheet_text : List ℕ → List ℕ
sheet_text s = let a = sheet_call s (zeros 16) in lines_of a.reply a.step

-- ---- the lines in a lent buffer

-- 2: columns out of range; 3: a step too short
abbrev pub column_tests : ℕ → ℕ → List Test
column_tests n step = (eqb n 0 || ltb 16 n, 2) ∷ (ltb step n, 3) ∷ []

abbrev pub lines_tests : Reply Fit → ℕ → List Test
lines_tests (answered (searched f)) step = column_tests f.columns step
lines_tests (answered (started radius f)) step = column_tests f.columns step
lines_tests (refused k) step = []

-- 3: the buffer is too short, and left as it was; else the bytes from its start, and how many they are
unfoldable pub printed : List ℕ → List ℕ → Reply ℕ × List ℕ
printed bytes text = elim (leb (length bytes) (length text)) [
  | true ↦ (answered (length bytes), bytes ++ drop (length bytes) text)
  | false ↦ (refused 3, text)
]

unfoldable pub lines_call : Reply Fit → List Float → List ℕ → Reply ℕ × List ℕ
lines_call a step text =
    let c = first_of (lines_tests a (length step)) in
    elim (eqb c 0) [ true ↦ printed (lines_of a step) text | false ↦ (refused c, text) ]

unfoldable pub text_call : List ℕ → List ℕ → Reply ℕ × List ℕ
text_call s text = printed (sheet_text s) text
