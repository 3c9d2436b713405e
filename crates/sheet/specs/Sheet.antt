-- 01, 'Job sheet and its program': a sheet is a list of bytes. Its fields are packed most significant bit first.
use Rattle.std.specs.Prelude.{ℕ, zero, suc, ◌+◌, ◌*◌, ◌/◌, ◌%◌, ◌^◌, true, false, cond, List, [], ◌∷◌, eqb, take, drop, get_or, Float}
use Rattle.std.specs.Float.{nan, binary64}
use Rattle.std.specs.Float.Ieee.{of_bits}
use Rattle.sheet.specs.declared.head.Head.{Head}

-- bytes as one number, the most significant first, after what v holds already
unfoldable pub big : ℕ → List ℕ → ℕ
big v [] = v
big v (b ∷ bs) = big (v * 256 + b) bs

-- version 4 bits, call 4, m 10, n 6: the first three bytes
unfoldable pub head_of : List ℕ → Head
head_of s =
    let h = big 0 (take 3 s) in
    record { version = h / 2 ^ 20; call = h / 2 ^ 16 % 2 ^ 4; m = h / 2 ^ 6 % 2 ^ 10; n = h % 2 ^ 6 }

-- doubles as 64 bits
unfoldable pub doubles : ℕ → List ℕ → List Float
doubles zero s = []
doubles (suc k) s = of_bits binary64 (big 0 (take 8 s)) ∷ doubles k (drop 8 s)

-- The numbers: Jacobian, residuals, a number for each column; after them call 1 has radius and lambda, call 2 the step bound.
abbrev pub lasts : ℕ → ℕ
lasts call = cond (eqb call 1) 2 1

unfoldable pub count_of : Head → ℕ
count_of h = h.m * h.n + h.m + h.n + lasts h.call

-- a sheet's exact length
abbrev pub length_of : Head → ℕ
length_of h = 3 + 8 * count_of h

-- what a call has beside Jacobian and residuals: 1 has scaling, radius and lambda; 2 has parameters x and the step bound
pub data Task : Type 0 where
  search : List Float → Float → Float → Task
  start : List Float → Float → Task

unfoldable pub task_of : ℕ → ℕ → List Float → Task
task_of call n xs = elim (eqb call 1) [
  | true ↦ search (take n xs) (get_or xs n nan) (get_or xs (n + 1) nan)
  | false ↦ start (take n xs) (get_or xs n nan)
]

pub record Job : Type 0 where
  pub m : ℕ
  pub n : ℕ
  pub jacobian : List Float
  pub residuals : List Float
  pub task : Task

unfoldable pub job_of : Head → List Float → Job
job_of h xs =
    let rest = drop (h.m * h.n) xs in
    record {
      m = h.m;
      n = h.n;
      jacobian = take (h.m * h.n) xs;
      residuals = take h.m rest;
      task = task_of h.call h.n (drop h.m rest);
    }
