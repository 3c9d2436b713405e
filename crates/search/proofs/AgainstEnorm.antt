-- Demand 2: document 01's norm is MINPACK-1's ENORM, bit for bit, of any numbers among which is no NaN, and so wherever the norm is no NaN.
-- Assumes nothing.
use mathlib.Core.Path.{◌≡◌, refl, sym, ap, ◌∙◌}
use mathlib.Core.Bool.{Bool, true, false, cond, not, ◌&&◌, ◌||◌, true≢false}
use mathlib.Core.List.{List, [], ◌∷◌}
use Prim.Native.Nat.{ℕ, suc, ◌+◌, ◌*◌, ◌<◌}
use native.Mathlib.Omega.{arith}
use lib.Dec.{eqb, ltb}
use lib.ListN.{length, get_or}
use lib.Ieee.{Float, nan, inf, fin, binary64, up, down, add, mul, div, sum, lt, le, eq, ne, is_nan, round}
use borrow.Author.Tests.{eq-eqb, ne_eqb, ltb-true, ltb-false}
use Rattle.leaves.specs.Number.{plus_zero, one, abs_of, square_of}
use Rattle.leaves.specs.Norm.{rdwarf, rgiant, agiant, sums, middle, small, large, add_in, step, accumulate, none, finish_large, finish_middle, finish_small, finish, norm}
use Rattle.leaves.specs.declared.norm.Sums.{Sums}
use Rattle.leaves.proofs.Normed.{arms, nan_entry}
use Rattle.search.specs.Enorm as minpack
use Rattle.search.specs.Enorm.{Accumulators, accumulators, squared, large_component, small_component, component, components, calculated, minpack_enorm}
use Rattle.search.proofs.Signs.{Signed, round_signed}
use Rattle.search.specs.Against.{NoNan}

-- ---- numbers whose sign is clear: the two comparisons are each other's opposite
less : (a b : ℕ) → ltb a b ≡ not (ltb b a || (eqb b a && true))
less a b = by (ltb a b) refl (ltb b a) refl
  where
    by : (x : Bool) → ltb a b ≡ x → (y : Bool) → ltb b a ≡ y → x ≡ not (y || (eqb b a && true))
    by true e true f = let p = ltb-true a b e in let q = ltb-true b a f in absurd (omega arith)
    by true e false f = let p = ltb-true a b e in rw (ne_eqb b a (λ (z : b ≡ a). omega arith))
    by false e true f = refl
    by false e false f = let p = ltb-false a b e in let q = ltb-false b a f in rw (eq-eqb b a (omega arith))

opposite : (x y : Float) → Signed false x → Signed false y → lt x y ≡ not (le y x)
unfolding lt le eq
opposite nan y p q = absurd p
opposite (inf true) y p q = absurd (true≢false p)
opposite (inf false) nan p q = absurd q
opposite (inf false) (inf true) p q = absurd (true≢false q)
opposite (inf false) (inf false) p q = refl
opposite (inf false) (fin t n d) p q = refl
opposite (fin true m e) y p q = absurd (true≢false p)
opposite (fin false m e) nan p q = absurd q
opposite (fin false m e) (inf true) p q = absurd (true≢false q)
opposite (fin false m e) (inf false) p q = refl
opposite (fin false m e) (fin true n d) p q = absurd (true≢false q)
opposite (fin false m e) (fin false n d) p q = less (m * up e * down d) (n * up d * down e)

-- ---- signs
abs-signed : (x : Float) → is_nan x ≡ false → Signed false (abs_of x)
unfolding abs_of is_nan
abs-signed nan h = absurd (true≢false h)
abs-signed (inf s) h = refl
abs-signed (fin s m e) h = refl

square_signed : (v : Float) → Signed false v → Signed false (mul binary64 v v)
unfolding mul
square_signed nan h = absurd h
square_signed (inf s) h = rw h
square_signed (fin s m e) h = rw h (round_signed false (m * up e * (m * up e)) (down e * down e))

sum-signed : (x y : Float) → Signed false x → Signed false y → Signed false (add binary64 x y)
unfolding add sum
sum-signed nan y p q = absurd p
sum-signed (inf s) nan p q = absurd q
sum-signed (inf s) (inf t) p q = rw (p, q)
sum-signed (inf s) (fin t n d) p q = p
sum-signed (fin s m e) nan p q = absurd q
sum-signed (fin s m e) (inf t) p q = q
sum-signed (fin s m e) (fin t n d) p q = rw (p, q) (round_signed false (m * up e * down d + n * up d * down e) (down e * down d))

-- ---- ENORM's constants are ours, and its accumulators
one_same : minpack.one ≡ one
unfolding minpack.one round
one_same = refl

rdwarf-same : minpack.rdwarf ≡ rdwarf
unfolding minpack.rdwarf rdwarf
rdwarf-same = refl

rgiant-same : minpack.rgiant ≡ rgiant
unfolding minpack.rgiant rgiant
rgiant-same = refl

abbrev theirs : Sums → Accumulators
theirs t = accumulators t.s1 t.s2 t.s3 t.x1max t.x3max

chosen_sums : (b : Bool) (x y : Sums) → theirs (cond b x y) ≡ cond b (theirs x) (theirs y)
chosen_sums true x y = refl
chosen_sums false x y = refl

-- by the opposite test
turned : (b : Bool) (x y : Sums) → theirs (cond (not b) x y) ≡ cond b (theirs y) (theirs x)
turned true x y = refl
turned false x y = refl

turned_back : (b : Bool) (x y : Sums) → theirs (cond b x y) ≡ cond (not b) (theirs y) (theirs x)
turned_back true x y = refl
turned_back false x y = refl

-- ---- one component
record Signs (t : Sums) : Type 0 where
  of_x1max : Signed false t.x1max
  of_x3max : Signed false t.x3max
  of_s2 : Signed false t.s2

large_same : (t : Sums) (v : Float) → Signs t → Signed false v → theirs (large t v) ≡ large_component (theirs t) v
unfolding large large_component square_of
large_same t v h p = rw (opposite t.x1max v h.of_x1max p, one_same) (turned (le v t.x1max) _ _)

small_same : (t : Sums) (v : Float) → Signs t → Signed false v → theirs (small t v) ≡ small_component (theirs t) v
unfolding small small_component square_of ne
small_same t v h p =
    let risen = sums t.s1 t.s2 (add binary64 one (mul binary64 t.s3 (squared (div binary64 t.x3max v)))) t.x1max v in
    let gained = sums t.s1 t.s2 (add binary64 t.s3 (squared (div binary64 v t.x3max))) t.x1max t.x3max in
    rw (opposite t.x3max v h.of_x3max p, one_same)
    (turned (le v t.x3max) risen (cond (eq v plus_zero) t gained) ∙ ap (λ (z : Accumulators). cond (le v t.x3max) z (theirs risen)) (turned_back (eq v plus_zero) t gained))

component-same : (g : Float) (t : Sums) (x : Float) → Signs t → is_nan x ≡ false → theirs (step g t x) ≡ component g (theirs t) x
unfolding add_in middle component square_of
component-same g t x h n =
    let v = abs_of x in
    let p = abs-signed x n in
    let inner : theirs (cond (le v rdwarf) (small t v) (large t v)) ≡ cond (le v rdwarf) (small_component (theirs t) v) (large_component (theirs t) v) =
    chosen_sums (le v rdwarf) (small t v) (large t v)
    ∙ ap (λ (z : Accumulators). cond (le v rdwarf) z (theirs (large t v))) (small_same t v h p)
    ∙ ap (λ (z : Accumulators). cond (le v rdwarf) (small_component (theirs t) v) z) (large_same t v h p) in
    rw rdwarf-same
    (chosen_sums (lt rdwarf v && lt v g) (middle t v) (cond (le v rdwarf) (small t v) (large t v))
    ∙ ap (λ (z : Accumulators). cond (lt rdwarf v && lt v g) (theirs (middle t v)) z) inner)

-- and it keeps the signs
signs_after : (g : Float) (t : Sums) (x : Float) → Signs t → is_nan x ≡ false → Signs (step g t x)
unfolding add_in middle small large square_of
signs_after g t x h n =
    let v = abs_of x in
    let p = abs-signed x n in
    arms Signs (lt rdwarf v && lt v g) {x = middle t v} {y = cond (le v rdwarf) (small t v) (large t v)}
    (record { of_x1max = h.of_x1max; of_x3max = h.of_x3max; of_s2 = sum-signed t.s2 (mul binary64 v v) h.of_s2 (square_signed v p) })
    (arms Signs (le v rdwarf) {x = small t v} {y = large t v}
    (arms Signs (lt t.x3max v) (record { of_x1max = h.of_x1max; of_x3max = p; of_s2 = h.of_s2 })
    (arms Signs (eq v plus_zero) {x = t} h (record { of_x1max = h.of_x1max; of_x3max = h.of_x3max; of_s2 = h.of_s2 })))
    (arms Signs (lt t.x1max v) (record { of_x1max = p; of_x3max = h.of_x3max; of_s2 = h.of_s2 })
    (record { of_x1max = h.of_x1max; of_x3max = h.of_x3max; of_s2 = h.of_s2 })))

components-same : (g : Float) (t : Sums) (xs : List Float) → Signs t → NoNan xs → (theirs (accumulate g t xs) ≡ components g (theirs t) xs) × Signs (accumulate g t xs)
unfolding accumulate components
components-same g t [] h n = (refl, h)
components-same g t (x ∷ xs) h n =
    let r = components-same g (step g t x) xs (signs_after g t x h n.0) n.1 in
    (r.0 ∙ ap (λ (z : Accumulators). components g z xs) (component-same g t x h n.0), r.1)

-- ---- the result, by its three tests
chosen : (a b c : Bool) (l x y z u : Float) → cond (not a) l (cond (not b) (cond c x y) z) ≡ cond a (cond b z (cond (not c) y (cond c x u))) l
chosen true true c l x y z u = refl
chosen true false true l x y z u = refl
chosen true false false l x y z u = refl
chosen false b c l x y z u = refl

calculated-same : (unset : Float) (t : Sums) → Signs t → finish t ≡ calculated unset (theirs t)
unfolding finish finish_large finish_middle finish_small calculated ne
calculated-same unset t h = rw (opposite t.s2 t.x3max h.of_s2 h.of_x3max, one_same) (chosen (eq t.s1 plus_zero) (eq t.s2 plus_zero) (le t.x3max t.s2) _ _ _ _ unset)

-- LAW: whatever stood in ENORM's result before
pub norm_is_enorm : (unset : Float) (xs : List Float) → NoNan xs → norm xs ≡ minpack_enorm unset xs
unfolding norm minpack_enorm agiant
norm_is_enorm unset xs n =
    let r = components-same (agiant (length xs)) none xs (record { of_x1max = refl; of_x3max = refl; of_s2 = refl }) n in
    rw rgiant-same (calculated-same unset _ r.1 ∙ ap (calculated unset) r.0)

-- ---- a norm that is a number
entries_no_nan : (xs : List Float) → ((i : ℕ) → i < length xs → is_nan (get_or xs i nan) ≡ false) → NoNan xs
entries_no_nan [] h = tt
entries_no_nan (x ∷ xs) h = (h 0 (omega arith), entries_no_nan xs (λ i l. h (suc i) (omega arith)))

-- LAW: of numbers with a NaN among them the norm is NaN, so wherever it is none
pub enorm_is_norm : (unset : Float) (xs : List Float) → is_nan (norm xs) ≡ false → minpack_enorm unset xs ≡ norm xs
unfolding is_nan
enorm_is_norm unset xs h = sym (norm_is_enorm unset xs (entries_no_nan xs (λ i l. by i l (is_nan (get_or xs i nan)) refl)))
  where
    by : (i : ℕ) → i < length xs → (z : Bool) → is_nan (get_or xs i nan) ≡ z → z ≡ false
    by i l true e = sym (ap is_nan (nan_entry xs i l e)) ∙ h
    by i l false e = refl
