-- A counted loop as a function on its state, and tables of numbers.
use Rattle.std.specs.Prelude.{ℕ, zero, suc, ◌+◌, ◌-◌, List, [], ◌∷◌, ◌++◌}

-- `for i in 0..n`: f 0, f 1, .., f (n - 1), in that order, from s
unfoldable pub upto : {S : Type 0} → (ℕ → S → S) → ℕ → S → S
upto f zero s = s
upto f (suc n) s = f n (upto f n s)

-- `for i in a..b`
unfoldable pub between : {S : Type 0} → (ℕ → S → S) → ℕ → ℕ → S → S
between f a b s = upto (λ t. f (a + t)) (b - a) s

-- what g tells of each turn of `for i in 0..n`, before f takes it, one after the other
unfoldable pub along : {S A : Type 0} → (ℕ → S → List A) → (ℕ → S → S) → ℕ → S → List A
along g f zero s = []
along g f (suc n) s = along g f n s ++ g n (upto f n s)

-- and of `for i in a..b`
unfoldable pub along_between : {S A : Type 0} → (ℕ → S → List A) → (ℕ → S → S) → ℕ → ℕ → S → List A
along_between g f a b s = along (λ t. g (a + t)) (λ t. f (a + t)) (b - a) s

-- a, a + 1, .., k of them
unfoldable pub count_from : ℕ → ℕ → List ℕ
count_from zero a = []
count_from (suc k) a = a ∷ count_from k (suc a)
