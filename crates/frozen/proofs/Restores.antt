-- A store that is spread out to n columns: how long it is, and that it is there again without the frozen columns. Assumes nothing.
use Prim.Native.Nat.{ℕ, zero, suc, ◌+◌, ◌-◌, ◌*◌, ◌≤◌}
use mathlib.Core.Path.{◌≡◌, sym, ap, ◌∙◌, subst}
use mathlib.Core.List.{List, ◌++◌, append_assoc}
use native.Mathlib.Nat.{suc-mul, zero-mul}
use native.Mathlib.Omega.{arith}
use lib.ListN.{length, take, drop, length-append, length-drop, length-replicate}
use lib.Seq.{length-take-le, take_at, drop_at, take-add, take_all}
use lib.Ieee.{Float}
use Rattle.leaves.specs.Number.{plus_zero}
use Rattle.leaves.specs.Square.{zeros}
use Rattle.frozen.specs.Narrowed.{runs, narrowed, spread, spread_out}

zeros-length : (k : ℕ) → length (zeros k) ≡ k
zeros-length k = length-replicate k plus_zero

pub spread-length : (w apart k : ℕ) (s : List Float) → w ≤ apart → k * w ≤ length s → length (spread w apart k s) ≡ k * apart
unfolding spread
spread-length w apart zero s h l = sym (zero-mul apart)
spread-length w apart (suc k) s h l =
    let e = suc-mul k apart in
    let f = suc-mul k w in
    let t = length-take-le w s (omega arith) in
    let z = zeros-length (apart - w) in
    let r = spread-length w apart k (drop w s) h (simp length-drop (omega arith)) in
    let a = length-append (zeros (apart - w)) (spread w apart k (drop w s)) in
    length-append (take w s) (zeros (apart - w) ++ spread w apart k (drop w s)) ∙ omega arith

-- what was spread is read run by run
pub spread-runs : (w apart k : ℕ) (s rest : List Float) → w ≤ apart → k * w ≤ length s → runs w apart k (spread w apart k s ++ rest) ≡ take (k * w) s
unfolding spread runs
spread-runs w apart zero s rest h l = rw (zero-mul w)
spread-runs w apart (suc k) s rest h l =
    let e : suc k * w ≡ w + k * w = omega (arith, suc-mul k w) in
    let t = length-take-le w s (omega arith) in
    let z = zeros-length (apart - w) in
    let more = spread w apart k (drop w s) in
    let front : length (take w s ++ zeros (apart - w)) ≡ apart = length-append (take w s) (zeros (apart - w)) ∙ omega arith in
    let a : (take w s ++ (zeros (apart - w) ++ more)) ++ rest ≡ take w s ++ ((zeros (apart - w) ++ more) ++ rest) = append_assoc (take w s) (zeros (apart - w) ++ more) rest in
    let b : (take w s ++ (zeros (apart - w) ++ more)) ++ rest ≡ (take w s ++ zeros (apart - w)) ++ (more ++ rest) =
    ap (λ (x : List Float). x ++ rest) (sym (append_assoc (take w s) (zeros (apart - w)) more)) ∙ append_assoc (take w s ++ zeros (apart - w)) more rest in
    let first : take w ((take w s ++ (zeros (apart - w) ++ more)) ++ rest) ≡ take w s = ap (λ (x : List Float). take w x) a ∙ take_at (take w s) ((zeros (apart - w) ++ more) ++ rest) w t in
    let next : drop apart ((take w s ++ (zeros (apart - w) ++ more)) ++ rest) ≡ more ++ rest =
    ap (λ (x : List Float). drop apart x) b ∙ drop_at (take w s ++ zeros (apart - w)) (more ++ rest) apart front in
    rw (first, next, spread-runs w apart k (drop w s) rest h (simp length-drop (omega arith)), e) (sym (take-add w (k * w) s))

-- the columns of the reduced problem, and the further ones
columns_all : (a b n : ℕ) → a + b ≡ n → a * n + b * n ≡ n * n
columns_all a b n e = subst (λ (k : ℕ). a * k + b * k ≡ k * k) e (omega arith)

module _ (n free : ℕ) (s : List Float) (fits : free ≤ n) (long : free * free + 4 * free ≤ length s) where
  abbrev square : List Float
  square = spread free n free s

  abbrev parts : List Float
  parts = spread free n 4 (drop (free * free) s)

  square_length : length square ≡ free * n
  square_length = spread-length free n free s fits (omega arith)

  parts_fit : 4 * free ≤ length (drop (free * free) s)
  parts_fit = simp length-drop (omega arith)

  front_length : length (square ++ zeros ((n - free) * n)) ≡ n * n
  front_length =
      let a = square_length in
      let b = zeros-length ((n - free) * n) in
      let c = columns_all free (n - free) n (omega arith) in
      length-append square (zeros ((n - free) * n)) ∙ omega arith

  front_first : spread_out n free s ≡ (square ++ zeros ((n - free) * n)) ++ parts
  unfolding spread_out
  front_first = sym (append_assoc square (zeros ((n - free) * n)) parts)

  -- LAW
  pub spread_out-length : length (spread_out n free s) ≡ n * n + 4 * n
  spread_out-length =
      let a = front_length in
      let b = spread-length free n 4 (drop (free * free) s) fits parts_fit in
      ap length front_first ∙ length-append (square ++ zeros ((n - free) * n)) parts ∙ omega arith

  -- LAW
  pub spread_out-narrowed : (rest : List Float) → length s ≡ free * free + 4 * free → narrowed n free (spread_out n free s ++ rest) ≡ s
  unfolding narrowed
  spread_out-narrowed rest l =
      let z = zeros ((n - free) * n) in
      let a : spread_out n free s ++ rest ≡ square ++ (z ++ (parts ++ rest)) =
      ap (λ (x : List Float). x ++ rest) front_first ∙ append_assoc (square ++ z) parts rest ∙ append_assoc square z (parts ++ rest) in
      let b : spread_out n free s ++ rest ≡ (square ++ z) ++ (parts ++ rest) = ap (λ (x : List Float). x ++ rest) front_first ∙ append_assoc (square ++ z) parts rest in
      let first : runs free n free (spread_out n free s ++ rest) ≡ take (free * free) s =
      ap (λ (x : List Float). runs free n free x) a ∙ spread-runs free n free s (z ++ (parts ++ rest)) fits (omega arith) in
      let next : runs free n 4 (drop (n * n) (spread_out n free s ++ rest)) ≡ take (4 * free) (drop (free * free) s) =
      ap (λ (x : List Float). runs free n 4 (drop (n * n) x)) b ∙ ap (λ (x : List Float). runs free n 4 x) (drop_at (square ++ z) (parts ++ rest) (n * n) front_length)
      ∙ spread-runs free n 4 (drop (free * free) s) rest fits parts_fit in
      rw (first, next) (sym (take-add (free * free) (4 * free) s) ∙ take_all (free * free + 4 * free) s (omega arith))
