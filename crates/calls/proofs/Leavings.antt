-- What a factoring with frozen columns leaves: its order list, its store and its bench. Assumes nothing.
use Prim.Native.Nat.{ℕ, zero, suc, ◌+◌, ◌-◌, ◌≤◌, ◌<◌}
use mathlib.Core.Path.{◌≡◌, refl, sym, ap, ◌∙◌}
use mathlib.Core.List.{List, ◌∷◌, ◌++◌, append_assoc}
use native.Mathlib.Nat.{add-zero, zero-add, mul-le-mul}
use native.Mathlib.Omega.{arith}
use lib.ListN.{length, get_or, take, drop, length-append, length-replicate, replicate-append-replicate, take-append-drop}
use lib.Seq.{take_at, take-take, get_or-append-add, length-take-le}
use lib.Ieee.{Float}
use Rattle.leaves.specs.Loop.{count_from}
use Rattle.leaves.specs.Number.{plus_zero}
use Rattle.std.specs.Prelude.{Result}
use Rattle.leaves.specs.declared.reply.Refusal.{Refusal}
use Rattle.leaves.specs.Reply.{reply_of}
use Rattle.leaves.specs.Square.{zeros}
use Rattle.leaves.proofs.Insides.{within}
use Rattle.leaves.proofs.Splices.{lent, filled, drop_front}
use Rattle.frozen.specs.Narrowed.{spread_out, spread_call}
use Rattle.frozen.proofs.Spreads.{spread_out-length, spread_done}
use Rattle.factor.specs.State.{store_need}
use Rattle.factor.specs.Outcome.{written}
use Rattle.leaves.proofs.Overs.{over, count-length, count_at}
use Rattle.calls.proofs.Ways.{Done, done}

-- ---- an order list whose remaining places continue the count
abbrev pub counted : ℕ → List ℕ → List ℕ
counted free o = take free o ++ count_from (length o - free) free

module _ (free : ℕ) (o : List ℕ) (h : free ≤ length o) where
  first_long : length (take free o) ≡ free
  first_long = length-take-le free o h

  pub counted_long : length (counted free o) ≡ length o
  counted_long =
      let a = first_long in
      let c = count-length (length o - free) free in
      length-append (take free o) (count_from (length o - free) free) ∙ omega arith

  pub counted_start : o ≡ over free (counted free o) o
  counted_start = sym (rw (take_at (take free o) (count_from (length o - free) free) free first_long) (take-append-drop free o))

  pub counted_at : (k : ℕ) → free ≤ k → k < length o → get_or (counted free o) k 0 ≡ k
  counted_at k p q =
      let a = first_long in
      let e : k ≡ length (take free o) + (k - free) = omega arith in
      let t = get_or-append-add (take free o) (count_from (length o - free) free) (k - free) 0 in
      let c = count_at (length o - free) free (k - free) (omega arith) in
      ap (λ (j : ℕ). get_or (counted free o) j 0) e ∙ (t ∙ (c ∙ omega arith))

-- counted in its first n places
pub counted_lent : (n free : ℕ) (o y : List ℕ) → free ≤ n → n ≤ length o → y ≡ counted free (take n o) → y ++ drop n o ≡ take free o ++ (count_from (n - free) free ++ drop n o)
counted_lent n free o y h l e =
    let t : take free (take n o) ≡ take free o = take-take free n o h in
    let k : length (take n o) ≡ n = length-take-le n o l in
    rw (e, t, k) (append_assoc (take free o) (count_from (n - free) free) (drop n o))

-- a count, and the count that goes on
pub count-joined : (a b k : ℕ) → count_from a k ++ count_from b (k + a) ≡ count_from (a + b) k
unfolding count_from
count-joined zero b k = rw (add-zero k, zero-add b) refl
count-joined (suc a) b k =
    let e : k + suc a ≡ suc k + a = omega arith in
    let f : suc a + b ≡ suc (a + b) = omega arith in
    rw (e, f) (ap (λ (l : List ℕ). k ∷ l) (count-joined a b (suc k)))

-- ---- +0 at the first places
pub cleared_first : (k need : ℕ) (s y : List Float) → need ≡ k → k ≤ length s → y ≡ zeros (length (take need s)) → y ++ drop need s ≡ written (zeros k) s
cleared_first k need s y en l e =
    let t : length (take k s) ≡ k = length-take-le k s l in
    let z : length (zeros k) ≡ k = length-replicate k plus_zero in
    rw (e, en, t, z) refl

-- from p to q
pub rest_cleared : (p q : ℕ) (y b : List Float) → p ≤ q → q ≤ length b → y ≡ zeros (length (take (q - p) (drop p b)))
    → take p b ++ (y ++ drop (q - p) (drop p b)) ≡ take p b ++ (zeros (q - p) ++ drop q b)
rest_cleared p q y b h l e = rw (filled p q y b plus_zero l e) (lent p q (zeros (q - p)) b h)

-- of which the first p are +0 already
pub all_cleared : (p q : ℕ) (b bench : List Float) → p ≤ q → b ≡ written (zeros p) bench → take p b ++ (zeros (q - p) ++ drop q b) ≡ written (zeros q) bench
all_cleared p q b bench h e =
    let lp : length (zeros p) ≡ p = length-replicate p plus_zero in
    let lq : length (zeros q) ≡ q = length-replicate q plus_zero in
    let s : p + (q - p) ≡ q = omega arith in
    let f : b ≡ zeros p ++ drop p bench = e ∙ rw lp refl in
    let d : drop q (zeros p ++ drop p bench) ≡ drop q bench = rw (← s) (drop_front p (q - p) (zeros p) bench lp) in
    let w : zeros p ++ zeros (q - p) ≡ zeros q = replicate-append-replicate p (q - p) plus_zero ∙ ap zeros s in
    rw (f, take_at (zeros p) (drop p bench) p lp, d, lq) (sym (append_assoc (zeros p) (zeros (q - p)) (drop q bench)) ∙ ap (λ (l : List Float). l ++ drop q bench) w)

-- ---- the reduced problem's store in the lent one
spread_leaves : (n free : ℕ) (small store y : List Float) (d : Result (Unit {0}) Refusal) → 0 < free → free ≤ n → n ≤ 16 → length small ≡ store_need free → store_need n ≤ length store
    → (reply_of d, y) ≡ spread_call n free small store → Done d y (written (spread_out n free small) store)
spread_leaves n free small store y d p h k ls l e =
    let i = within 1 n (record { rows_some = omega arith; rows_few = omega arith; cols_some = omega arith; cols_few = k }) in
    let j = within 1 free (record { rows_some = omega arith; rows_few = omega arith; cols_some = p; cols_few = omega arith }) in
    let all = spread_done n free small store i j h (omega arith) l in
    let z : length (spread_out n free small) ≡ store_need n = spread_out-length n free small h (omega arith) in
    let q = done d (e ∙ sym all) in
    (q.0, q.1 ∙ rw z refl)

pub need_within : (n free : ℕ) → free ≤ n → store_need free ≤ store_need n
need_within n free h = let q = mul-le-mul h h in omega arith

pub need_small : (n free : ℕ) → free ≤ n → n ≤ 16 → store_need free ≤ 320
need_small n free h k = let l : free ≤ 16 = omega arith in let q = mul-le-mul l l in omega arith

-- copied out of the lent one's first places, and back
pub spread_back : (n free need : ℕ) (store small z y : List Float) (d : Result (Unit {0}) Refusal) → 0 < free → free ≤ n → n ≤ 16 → store_need n ≤ length store → need ≡ store_need free
    → z ≡ take need store → (reply_of d, y) ≡ spread_call n free (take need (z ++ drop need small)) store
    → Done d y (written (spread_out n free (take (store_need free) store)) store)
spread_back n free need store small z y d p h k l en ez ey =
    let w = need_within n free h in
    let ls : length (take need store) ≡ need = length-take-le need store (omega arith) in
    let t : take need (z ++ drop need small) ≡ take need store = take_at z (drop need small) need (ap length ez ∙ ls) ∙ ez in
    let g = spread_leaves n free (take need store) store y d p h k (ls ∙ en) l (rw t at ey) in
    (g.0, g.1 ∙ ap (λ (i : ℕ). written (spread_out n free (take i store)) store) en)
