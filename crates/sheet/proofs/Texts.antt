-- Bytes put one after the other into a buffer are their join, put once; and how long the texts are. Assumes nothing.
use Prim.Native.Nat.{ℕ, zero, suc, ◌+◌, ◌/◌, ◌<◌, ◌≤◌}
use mathlib.Core.Path.{◌≡◌, sym, ap, ◌∙◌}
use mathlib.Core.Bool.{Bool, true, false}
use mathlib.Core.List.{List, [], ◌∷◌, ◌++◌, append_assoc}
use native.Mathlib.Omega.{arith}
use native.Mathlib.Numerals.{add-one}
use borrow.Author.Tests.{le-leb, lt-leb}
use lib.Dec.{ltb}
use lib.ListN.{length, set, drop, get_or, length-append, drop_of_length-le}
use lib.Seq.{sets, sets-eq, length-sets, drop-cons}
use lib.Ieee.{Float, nan}
use Rattle.leaves.specs.Reply.{answered, refused}
use Rattle.text.specs.Put.{places_from, places_of, decimal_of, stored}
use Rattle.text.proofs.Places.{digits-length}
use Rattle.sheet.specs.Lines.{line, double, step_word, step_lines, printed}
use Rattle.sheet.specs.inner.Handed.{put}

-- ---- one after the other
sets_join : (a b l : List ℕ) (at : ℕ) → sets (sets l at a) (at + length a) b ≡ sets l at (a ++ b)
sets_join [] b l at = let e : at + 0 ≡ at = omega arith in rw e
sets_join (x ∷ a) b l at = let e : at + suc (length a) ≡ suc at + length a = omega arith in rw e (sets_join a b (set l at x) (suc at))

pub put-put : (a b l : List ℕ) (at : ℕ) {p : ℕ} {m : List ℕ} {r : ℕ × List ℕ} → (p, m) ≡ put a at l → r ≡ put b p m → r ≡ put (a ++ b) at l
put-put a b l at e f =
    let z : at + length a + length b ≡ at + length (a ++ b) = rw length-append (omega arith) in
    f ∙ ap (λ (x : ℕ × List ℕ). put b x.0 x.1) e ∙ ap (λ (k : ℕ). (k, sets (sets l at a) (at + length a) b)) z ∙ ap (λ (k : List ℕ). (at + length (a ++ b), k)) (sets_join a b l at)

-- what fits lands
pub lands : (a l : List ℕ) (at : ℕ) {r : ℕ × List ℕ} → r ≡ stored a at l → at + length a ≤ length l → r ≡ put a at l
unfolding stored
lands a l at e h = e ∙ rw (le-leb _ _ h)

pub lands_next : (a b l : List ℕ) (at : ℕ) {p : ℕ} {m : List ℕ} {r : ℕ × List ℕ} → (p, m) ≡ put a at l → r ≡ stored b p m → at + length a + length b ≤ length l → r ≡ put (a ++ b) at l
lands_next a b l at {p} {m} e f h =
    let q : p ≡ at + length a = ap (λ (x : ℕ × List ℕ). x.0) e in
    let n : length m ≡ length l = ap (λ (x : ℕ × List ℕ). length x.1) e ∙ length-sets l at a in
    put-put a b l at e (lands b m p f (omega arith))

pub behind : (a l : List ℕ) (at : ℕ) {p : ℕ} {m : List ℕ} → (p, m) ≡ put a at l → p ≡ at + length a
behind a l at e = ap (λ (x : ℕ × List ℕ). x.0) e

pub as_long : (a l : List ℕ) (at : ℕ) {p : ℕ} {m : List ℕ} → (p, m) ≡ put a at l → length m ≡ length l
as_long a l at e = ap (λ (x : ℕ × List ℕ). length x.1) e ∙ length-sets l at a

-- ---- how long
pub double_long : (x : Float) → length (double x) ≡ 16
double_long x = digits-length 16 16 _

places_most : (f b k n : ℕ) → places_from f b k n ≤ k + f
unfolding places_from
places_most zero b k n = omega arith
places_most (suc f) b k n = by (ltb n b) (places_most f b (k + 1) (n / b))
  where
    by : (t : Bool) → places_from f b (k + 1) (n / b) ≤ k + 1 + f → elim t [ true ↦ k | false ↦ places_from f b (k + 1) (n / b) ] ≤ k + suc f
    by true h = omega arith
    by false h = omega arith

pub decimal_short : (n : ℕ) → length (decimal_of n) ≤ 20
unfolding decimal_of places_of
decimal_short n = rw digits-length (omega (arith, places_most 19 10 1 n))

-- ---- a step's lines
pub step_turn : (xs : List Float) (l : List ℕ) (at i : ℕ) {p : ℕ} {m : List ℕ} {r : ℕ × List ℕ} → i < length xs
    → (p, m) ≡ put (line step_word (decimal_of i ++ (32 ∷ []) ++ double (get_or xs i nan))) at l → put (step_lines i (drop i xs)) at l ≡ r → put (step_lines (i + 1) (drop (i + 1) xs)) p m ≡ r
unfolding step_lines
step_turn xs l at i h e g =
    put-put (line step_word (decimal_of i ++ (32 ∷ []) ++ double (get_or xs i nan))) (step_lines (suc i) (drop (suc i) xs)) l at e (rw add-one) ∙ (rw (drop-cons xs i nan h) at g)

pub step_end : (xs : List Float) (l : List ℕ) (at i : ℕ) {r : ℕ × List ℕ} → length xs ≤ i → put (step_lines i (drop i xs)) at l ≡ r → (at, l) ≡ r
unfolding step_lines
step_end xs l at i h g = let z : at ≡ at + 0 = omega arith in ap (λ (k : ℕ). (k, l)) z ∙ (rw (drop_of_length-le xs {i = i} h) at g)

-- ---- the parts of a line, as they are joined
pub joined_2 : (a d e : List ℕ) → a ++ (d ++ e) ≡ (a ++ d) ++ e
joined_2 a d e = sym (append_assoc a d e)

pub joined_step : (a b d e f : List ℕ) → ((a ++ d) ++ b) ++ (e ++ f) ≡ (a ++ ((d ++ b) ++ e)) ++ f
joined_step a b d e f = simp append_assoc

-- ---- all or nothing
pub print_short : (a l : List ℕ) → length l < length a → (refused 3, l) ≡ printed a l
unfolding printed
print_short a l h = rw (lt-leb _ _ h, printed)

pub print_all : (a l : List ℕ) {p : ℕ} {m : List ℕ} → length a ≤ length l → (p, m) ≡ stored a 0 l → (answered (length a), m) ≡ printed a l
unfolding printed
print_all a l {m = m} h e =
    let z : 0 + length a ≡ length a = omega arith in
    let d : m ≡ a ++ drop (length a) l = ap (λ (x : ℕ × List ℕ). x.1) (lands a l 0 e (omega arith)) ∙ sets-eq a l 0 (omega arith) ∙ ap (λ (k : ℕ). a ++ drop k l) z in
    rw (le-leb _ _ h, printed) (ap (λ (x : List ℕ). (answered (length a), x)) d)
