-- What a reduction starts from. Assumes nothing.
use mathlib.Core.Path.{◌≡◌, refl, sym, ap, ◌∙◌}
use mathlib.Core.List.{List, [], ◌∷◌, map}
use Prim.Native.Nat.{ℕ, zero, suc, ◌+◌, ◌*◌, ◌<◌, ◌≤◌}
use native.Mathlib.Nat.{mul_comm, le_refl, not-suc-le-zero, le_of_suc-le-suc}
use native.Mathlib.Numerals.{add-one}
use native.Mathlib.Omega.{arith}
use lib.ListN.{length, get_or, take, drop}
use lib.Seq.{length-take-le, take-suc, get_or-take}
use lib.Ieee.{Float, nan}
use Rattle.std.specs.Prelude.{Result, Ok}
use Rattle.leaves.specs.Reply.{measured_of}
use Rattle.leaves.specs.declared.reply.Refusal.{Refusal}
use Rattle.leaves.specs.declared.norm.Normed.{Normed}
use Rattle.leaves.specs.Norm.{norm, either, ranges, ranges_of, enorm}
use Rattle.leaves.proofs.Norms.{enorm_fits}
use Rattle.leaves.specs.declared.norm.Ranges.{Ranges}
use Rattle.leaves.proofs.Seen.{ranges_of_last}
use Rattle.leaves.specs.Loop.{count_from}
use Rattle.leaves.specs.Triangle.{columns}
use Rattle.reduce.specs.Reduction.{start}
use Rattle.reduce.specs.inner.Bench.{grid, Benched, under_way}
use Rattle.leaves.proofs.Triangles.{column_at}
use Rattle.leaves.proofs.Squares.{columns-length}
use Rattle.leaves.proofs.Joined.{columns_front}
use Rattle.leaves.proofs.Grids.{column_long}

pub norms-length : (cs : List (List Float)) → length (map norm cs) ≡ length cs
norms-length [] = refl
norms-length (c ∷ cs) = ap suc (norms-length cs)

pub norms_at : (cs : List (List Float)) (i : ℕ) → i < length cs → get_or (map norm cs) i nan ≡ norm (get_or cs i [])
norms_at [] i h = absurd (not-suc-le-zero h)
norms_at (c ∷ cs) zero h = refl
norms_at (c ∷ cs) (suc i) h = norms_at cs i (le_of_suc-le-suc h)

-- a norm of at most 128 numbers, unwrapped
pub norm_told : (v : List Float) (r : Result Normed Refusal) {t : Normed} → length v ≤ 128 → measured_of r ≡ enorm v → r ≡ Ok t → (t.value ≡ norm v) × (t.seen ≡ ranges v)
norm_told v r {t = t} l e w =
    let f = enorm_fits v r l e in
    let s : t ≡ record { value = norm v; seen = ranges v } = cc in
    (ap (λ (x : Normed). x.value) s, ap (λ (x : Normed). x.seen) s)

-- the flags of the columns so far, and of the next
pub measured_next : (cs : List (List Float)) (k : ℕ) (seen : Ranges) → k < length cs → seen ≡ ranges_of (take k cs) → either seen (ranges (get_or cs k [])) ≡ ranges_of (take (k + 1) cs)
measured_next cs k seen h e = ap (λ (x : Ranges). either x (ranges (get_or cs k []))) e ∙ sym (ranges_of_last (take k cs) (get_or cs k [])) ∙ ap ranges_of (sym (take-suc cs k [] h)) ∙ rw add-one refl

-- ---- the columns of a bench
pub bench-wide : (m n : ℕ) (s : List Float) → length (take n (grid m n s)) ≡ n
bench-wide m n s = length-take-le n (grid m n s) (let l = columns-length m (suc n) s in omega arith)

pub bench_long : (m n : ℕ) (s : List Float) → Benched m n s → (l : ℕ) → l < n → length (get_or (take n (grid m n s)) l []) ≡ m
bench_long m n s b l h = rw (get_or-take n (grid m n s) l [] h) (column_long m (suc n) s l (omega arith) (let w = b.whole in omega arith))

-- ---- the bench holds the Jacobian and the residuals
pub take-columns : (m n : ℕ) (s : List Float) → take n (columns m (suc n) s) ≡ columns m n s
unfolding columns
take-columns m zero s = refl
take-columns m (suc n) s = ap (λ (l : List (List Float)). take m s ∷ l) (take-columns m n (drop m s))

pub front_columns : (m n : ℕ) (s : List Float) → columns m n (take (m * n) s) ≡ columns m n s
front_columns m n s = ap (λ (k : ℕ). columns m n (take k s)) (mul_comm m n) ∙ columns_front m n s

pub filled_columns : (m n : ℕ) (s : List Float) → take n (grid m n s) ≡ columns m n (take (m * n) s)
filled_columns m n s = take-columns m n s ∙ sym (front_columns m n s)

pub filled_residuals : (m n : ℕ) (s : List Float) → get_or (grid m n s) n [] ≡ take m (drop (m * n) s)
filled_residuals m n s = column_at m (suc n) n s (le_refl (suc n)) ∙ ap (λ (k : ℕ). take m (drop k s)) (mul_comm n m)

pub begun : (m n : ℕ) (bench norms d w : List Float) (o o₀ : List ℕ) → norms ≡ map norm (take n (grid m n bench)) → d ≡ norms → w ≡ norms → o ≡ count_from (length o₀) 0
    → length o₀ ≡ n → under_way m n bench d w o ≡ start (take n (grid m n bench)) (get_or (grid m n bench) n [])
unfolding start
begun m n bench norms d w o o₀ en ed ew eo lo =
    let k : count_from (length o₀) 0 ≡ count_from (length (take n (grid m n bench))) 0 = ap (λ (l : ℕ). count_from l 0) (lo ∙ sym (bench-wide m n bench)) in
    rw (ed, ew, en, eo, k)
