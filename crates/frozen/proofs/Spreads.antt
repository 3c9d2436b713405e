-- Runs of numbers laid apart, +0 between them. Assumes nothing.
use Prim.Native.Nat.{ℕ, zero, suc, ◌+◌, ◌-◌, ◌*◌, ◌≤◌, ◌<◌}
use mathlib.Core.Path.{◌≡◌, refl, sym, ap, ◌∙◌}
use mathlib.Core.List.{List, [], ◌++◌, append_assoc}
use mathlib.Core.Bool.{true, false}
use native.Mathlib.Nat.{suc-mul, zero-mul, add-mul, mul-le-mul, le_refl}
use native.Mathlib.Omega.{arith}
use lib.ListN.{length, take, drop, length-append, length-drop, length-replicate}
use lib.Seq.{length-take-le, take_all, drop_at}
use lib.Ieee.{Float}
use borrow.Author.Tests.{lt-ltb, le-ltb}
use Rattle.leaves.proofs.Overs.{append_nil, two_parts, filled}
use Rattle.leaves.proofs.Splices.{part_long}
use Rattle.leaves.specs.Reply.{answered, refused}
use Rattle.leaves.specs.Square.{zeros}
use Rattle.leaves.specs.Tests.{outside}
use Rattle.frozen.specs.Narrowed.{spread, spread_out, spread_call}
use Rattle.frozen.proofs.Runs.{part_written, after_parts, two_laid}

-- a run, and +0 up to where the next begins
pub run_long : (w apart a : ℕ) (src : List Float) → w ≤ apart → a + w ≤ length src → length (take w (drop a src) ++ zeros (apart - w)) ≡ apart
run_long w apart a src h k =
    let t = part_long a w src k in
    let z : length (zeros (apart - w)) ≡ apart - w = length-replicate _ _ in
    length-append (take w (drop a src)) (zeros (apart - w)) ∙ omega arith

-- as a copy and a fill leave it
pub run_laid : (src dst y z : List Float) → length src ≤ length dst → y ≡ src → z ≡ zeros (length (take (length (y ++ drop (length src) dst) - length src) (drop (length src) (y ++ drop (length src) dst))))
    → take (length src) (y ++ drop (length src) dst) ++ (z ++ drop (length (y ++ drop (length src) dst) - length src) (drop (length src) (y ++ drop (length src) dst))) ≡ src ++ zeros (length dst - length src)
run_laid src dst y z h ey ez =
    let p = length src in
    let w = length dst - length src in
    let l : length y ≡ length src = ap length ey in
    let q : length (y ++ drop (length src) dst) ≡ length dst = length-append y (drop (length src) dst) ∙ simp length-drop (omega arith) in
    let f : z ≡ zeros w = filled p w dst y z l (omega arith) (rw q at ez) in
    rw q (two_parts p w src (zeros w) dst y z refl (omega arith) ey f)

pub spread_turn : (w apart n k : ℕ) (src dst y rest : List Float) → k < n → k * apart ≤ length dst → length y ≡ apart → y ≡ take w (drop (k * w) src) ++ zeros (apart - w)
    → take ((k + 1) * apart) (take (k * apart) dst ++ (y ++ rest)) ++ spread w apart (n - (k + 1)) (drop ((k + 1) * w) src) ≡ take (k * apart) dst ++ spread w apart (n - k) (drop (k * w) src)
unfolding spread
spread_turn w apart n k src dst y rest h l z e =
    let f : n - k ≡ suc (n - (k + 1)) = omega arith in
    let t = take (k * apart) dst in
    let v = take w (drop (k * w) src) in
    let s = spread w apart (n - (k + 1)) (drop w (drop (k * w) src)) in
    rw (part_written apart k dst y rest l z, f, after_parts w k src, e)
    (append_assoc t (v ++ zeros (apart - w)) s ∙ ap (λ (r : List Float). t ++ r) (append_assoc v (zeros (apart - w)) s))

pub spread_end : (w apart left a b : ℕ) (src dst all : List Float) → left ≤ 0 → length dst ≡ b → take b dst ++ spread w apart left (drop a src) ≡ all → dst ≡ all
unfolding spread
spread_end w apart zero a b src dst all h l e = sym (append_nil dst) ∙ (ap (λ (s : List Float). s ++ []) (sym (take_all b dst (omega arith))) ∙ e)
spread_end w apart (suc left) a b src dst all h l e = absurd (omega arith)

pub spread-length : (w apart k : ℕ) (s : List Float) → w ≤ apart → k * w ≤ length s → length (spread w apart k s) ≡ k * apart
unfolding spread
spread-length w apart zero s h l = sym (zero-mul apart)
spread-length w apart (suc k) s h l =
    let e = suc-mul k apart in
    let f = suc-mul k w in
    let t = length-take-le w s (omega arith) in
    let r = spread-length w apart k (drop w s) h (simp length-drop (omega arith)) in
    let q = length-append (zeros (apart - w)) (spread w apart k (drop w s)) in
    let z : length (zeros (apart - w)) ≡ apart - w = length-replicate _ _ in
    length-append (take w s) (zeros (apart - w) ++ spread w apart k (drop w s)) ∙ omega arith

-- all of it: n·n + 4n
pub spread_out-length : (n free : ℕ) (s : List Float) → free ≤ n → free * free + 4 * free ≤ length s → length (spread_out n free s) ≡ n * n + 4 * n
unfolding spread_out
spread_out-length n free s h l =
    let a = spread-length free n free s h (omega arith) in
    let b = spread-length free n 4 (drop (free * free) s) h (simp length-drop (omega arith)) in
    let z : length (zeros ((n - free) * n)) ≡ (n - free) * n = length-replicate _ _ in
    let v : n * n ≡ (n - free) * n + free * n = let i : n ≡ n - free + free = omega arith in ap (λ (k : ℕ). k * n) i ∙ add-mul (n - free) free n in
    length-append (spread free n free s) (zeros ((n - free) * n) ++ spread free n 4 (drop (free * free) s))
    ∙ (ap (λ (k : ℕ). length (spread free n free s) + k) (length-append (zeros ((n - free) * n)) (spread free n 4 (drop (free * free) s))) ∙ omega arith)

-- ---- a first part, the next and a third, written one after the other
abbrev two : ℕ → ℕ → List Float → List Float → List Float → List Float
two a b y z s = take a (y ++ drop a s) ++ (z ++ drop (b - a) (drop a (y ++ drop a s)))

abbrev pub three : ℕ → ℕ → ℕ → List Float → List Float → List Float → List Float → List Float
three a b e y z w s = take b (two a b y z s) ++ (w ++ drop (e - b) (drop b (two a b y z s)))

pub three_laid : (a b e : ℕ) (y z w s : List Float) → length y ≡ a → length z ≡ b - a → a ≤ b → b ≤ e → three a b e y z w s ≡ (y ++ (z ++ w)) ++ drop e s
three_laid a b e y z w s hy hz l m =
    let h : length (y ++ z) ≡ b = length-append y z ∙ omega arith in
    let t : two a b y z s ≡ (y ++ z) ++ drop b s = two_laid a b y z s hy l in
    rw t (two_laid b e (y ++ z) w s h m ∙ ap (λ (r : List Float). r ++ drop e s) (append_assoc y z w))

-- what the second part has room for
pub second_long : (a w : ℕ) (y s : List Float) → length y ≡ a → a + w ≤ length s → length (take w (drop a (y ++ drop a s))) ≡ w
second_long a w y s h l = rw (drop_at y (drop a s) a h) (length-take-le w (drop a s) (simp length-drop (omega arith)))

-- ---- `spread`

module _ (n free : ℕ) (small store : List Float) where
  pub spread_n : outside 1 n ≡ true → (refused 2, store) ≡ spread_call n free small store
  unfolding spread_call
  spread_n h = rw (h, spread_call) refl

  pub spread_free : outside 1 n ≡ false → outside 1 free ≡ true → (refused 2, store) ≡ spread_call n free small store
  unfolding spread_call
  spread_free h k = rw (h, k, spread_call) refl

  module _ (h : outside 1 n ≡ false) (k : outside 1 free ≡ false) where
    pub spread_wider : n < free → (refused 2, store) ≡ spread_call n free small store
    unfolding spread_call
    spread_wider l = rw (h, k, lt-ltb n free l, spread_call) refl

    module _ (l : free ≤ n) where
      pub spread_small : length small < free * free + 4 * free → (refused 3, store) ≡ spread_call n free small store
      unfolding spread_call
      spread_small p = rw (h, k, le-ltb n free l, lt-ltb (length small) (free * free + 4 * free) p, spread_call) refl

      module _ (p : free * free + 4 * free ≤ length small) where
        pub spread-store : length store < n * n + 4 * n → (refused 3, store) ≡ spread_call n free small store
        unfolding spread_call
        spread-store q = rw (h, k, le-ltb n free l, le-ltb (length small) (free * free + 4 * free) p, lt-ltb (length store) (n * n + 4 * n) q, spread_call) refl

        pub spread_done : n * n + 4 * n ≤ length store → (answered tt, spread_out n free small ++ drop (n * n + 4 * n) store) ≡ spread_call n free small store
        unfolding spread_call
        spread_done q = rw (h, k, le-ltb n free l, le-ltb (length small) (free * free + 4 * free) p, le-ltb (length store) (n * n + 4 * n) q, spread_call) refl

        -- as the three are laid
        pub spread_laid : (y z w : List Float) → n * n + 4 * n ≤ length store → y ≡ spread free n free small
            → z ≡ zeros (length (take (n * n - free * n) (drop (free * n) (y ++ drop (free * n) store)))) → w ≡ spread free n 4 (take (length small - free * free) (drop (free * free) small))
            → (answered tt, three (free * n) (n * n) (n * n + 4 * n) y z w store) ≡ spread_call n free small store
        unfolding spread_out
        spread_laid y z w q ey ez ew =
            let u : free * n ≤ n * n = mul-le-mul l (le_refl n) in
            let v : n * n ≡ (n - free) * n + free * n = let i : n ≡ n - free + free = omega arith in ap (λ (k : ℕ). k * n) i ∙ add-mul (n - free) free n in
            let a : length y ≡ free * n = ap length ey ∙ spread-length free n free small l (omega arith) in
            let g : length (take (n * n - free * n) (drop (free * n) (y ++ drop (free * n) store))) ≡ n * n - free * n = second_long (free * n) (n * n - free * n) y store a (omega arith) in
            let j : n * n - free * n ≡ (n - free) * n = omega arith in
            let d : z ≡ zeros ((n - free) * n) = ez ∙ ap zeros (g ∙ j) in
            let b : length z ≡ n * n - free * n = ap length d ∙ (length-replicate _ _ ∙ sym j) in
            let t : take (length small - free * free) (drop (free * free) small) ≡ drop (free * free) small = take_all (length small - free * free) (drop (free * free) small) (simp length-drop (omega arith)) in
            let c : w ≡ spread free n 4 (drop (free * free) small) = ew ∙ ap (λ (s : List Float). spread free n 4 s) t in
            let m : y ++ (z ++ w) ≡ spread_out n free small = rw (ey, d, c, spread_out) refl in
            let o = three_laid (free * n) (n * n) (n * n + 4 * n) y z w store a b u (omega arith) in
            ap (λ (s : List Float). (answered tt, s)) (o ∙ ap (λ (s : List Float). s ++ drop (n * n + 4 * n) store) m) ∙ spread_done q
