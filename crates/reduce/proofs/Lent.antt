-- The reduction on lent slices, by its tests and by what is worked on them. Assumes nothing.
use mathlib.Core.Path.{◌≡◌, refl, sym, ap, subst, ◌∙◌}
use mathlib.Core.Bool.{false, ◌&&◌, and-eq-true_iff}
use mathlib.Core.List.{List, [], ◌∷◌, ◌++◌, map, append_assoc}
use Prim.Native.Nat.{ℕ, zero, suc, ◌+◌, ◌*◌, ◌<◌, min}
use native.Mathlib.Nat.{suc-mul, zero-mul, add_comm, mul_comm, le_refl, le_of_eq}
use native.Mathlib.Omega.{arith}
use lib.Dec.{eqb}
use lib.ListN.{length, get_or, take, drop, length-append}
use lib.Seq.{take_at, drop_at, take-add, take_all}
use lib.Ieee.{Float}
use borrow.Author.Tests.{eqb-true, eq-eqb, ne_eqb, not-false}
use Rattle.leaves.specs.Reply.{Reply, answered, refused, refusal_number}
use Rattle.leaves.specs.declared.reply.Refusal.{Refusal}
use Rattle.leaves.proofs.Replies.{refusal_number-some}
use Rattle.leaves.specs.Tests.{first_of, outside}
use Rattle.leaves.specs.Norm.{norm, either, ranges_of}
use Rattle.leaves.specs.declared.norm.Ranges.{Ranges}
use Rattle.leaves.proofs.Seen.{ranges_of-append}
use Rattle.leaves.specs.Triangle.{columns}
use Rattle.leaves.specs.Loop.{upto, along}
use Rattle.leaves.proofs.Triangles.{column_at}
use Rattle.leaves.proofs.Refusals.{passed_iff, call-refused, call-worked}
use Rattle.reduce.specs.Reduction.{Reduction, start, reduction_of, reduced as reduced_at, measured_at, measured}
use Rattle.reduce.specs.inner.Bench.{grid, Benched, under_way, Reduces}
use Rattle.reduce.specs.Reduced.{Reduced, reduced_as, flat, reduce_tests, reduce_call}
use Rattle.reduce.proofs.Begins.{take-columns}
use Rattle.reduce.proofs.Fitting.{Fits, reduction-fits}
use Rattle.leaves.proofs.Insides.{Inside}

-- ---- 2: sizes within their ranges
-- ---- the tests: none is met exactly where sizes and lengths fit
pub record Lengths (m n jac res norms diag order bench : ℕ) : Type 0 where
  pub sizes : outside m n ≡ false
  pub jac_long : jac ≡ m * n
  pub res_long : res ≡ m
  pub norms_long : norms ≡ n
  pub diag_long : diag ≡ n
  pub order_long : order ≡ n
  pub bench_long : bench ≡ m * n + m

module _ (m n jac res norms diag order bench : ℕ) where
  pub lengths : 0 ≡ first_of (reduce_tests m n jac res norms diag order bench) → Lengths m n jac res norms diag order bench
  lengths e =
      let h = (passed_iff (reduce_tests m n jac res norms diag order bench) refl).0 (sym e) in
      let a = eqb jac (m * n) in
      let b = eqb res m in
      let c = eqb norms n in
      let d = eqb diag n in
      let o = eqb order n in
      let p = (and-eq-true_iff (a && b && c && d && o) (eqb bench (m * n + m))).0 (not-false _ h.1.0) in
      let q = (and-eq-true_iff (a && b && c && d) o).0 p.0 in
      let r = (and-eq-true_iff (a && b && c) d).0 q.0 in
      let s = (and-eq-true_iff (a && b) c).0 r.0 in
      let t = (and-eq-true_iff a b).0 s.0 in
      record {
        sizes = h.0;
        jac_long = eqb-true jac (m * n) t.0;
        res_long = eqb-true res m t.1;
        norms_long = eqb-true norms n s.1;
        diag_long = eqb-true diag n r.1;
        order_long = eqb-true order n q.1;
        bench_long = eqb-true bench (m * n + m) p.1;
      }

  pub fitting : Lengths m n jac res norms diag order bench → first_of (reduce_tests m n jac res norms diag order bench) ≡ 0
  unfolding first_of
  fitting l =
      rw (
        l.sizes,
        eq-eqb _ _ l.jac_long,
        eq-eqb _ _ l.res_long,
        eq-eqb _ _ l.norms_long,
        eq-eqb _ _ l.diag_long,
        eq-eqb _ _ l.order_long,
        eq-eqb _ _ l.bench_long,
      )

pub benched : {m n : ℕ} (b : List Float) → Inside m n → length b ≡ m * n + m → Benched m n b
benched {m = m} {n = n} b i h = record { rows = i.rows_few; across = i.cols_few; whole = h ∙ ap (λ (k : ℕ). k + m) (mul_comm m n) ∙ sym (suc-mul n m) }

-- ---- columns one after the other, and read back
flat-columns : (m k : ℕ) (s : List Float) → flat (columns m k s) ≡ take (k * m) s
unfolding flat columns
flat-columns m zero s = let e : 0 * m ≡ 0 = zero-mul m in rw e
flat-columns m (suc k) s =
    let e : suc k * m ≡ m + k * m = suc-mul k m ∙ add_comm (k * m) m in
    rw (e, take-add m (k * m) s) (ap (λ (l : List Float). take m s ++ l) (flat-columns m k (drop m s)))

-- a whole bench is its columns and its residuals
bench_whole : (m n : ℕ) (b : List Float) → length b ≡ suc n * m → flat (take n (grid m n b)) ++ get_or (grid m n b) n [] ≡ b
bench_whole m n b h =
    let e : suc n * m ≡ n * m + m = suc-mul n m in
    let f : flat (take n (grid m n b)) ≡ take (n * m) b = ap flat (take-columns m n b) ∙ flat-columns m n b in
    rw (f, column_at m (suc n) n b (le_refl (suc n))) (sym (take-add (n * m) m b) ∙ take_all (n * m + m) b (omega arith))

module _ (m : ℕ) where
  flat_long : (cs : List (List Float)) → ((k : ℕ) → k < length cs → length (get_or cs k []) ≡ m) → length (flat cs) ≡ length cs * m
  unfolding flat
  flat_long [] t = sym (zero-mul m)
  flat_long (c ∷ cs) t =
      let l : length c ≡ m = t 0 (omega arith) in
      let r : length (flat cs) ≡ length cs * m = flat_long cs (λ k h. t (suc k) (omega arith)) in
      let e : suc (length cs) * m ≡ length cs * m + m = suc-mul (length cs) m in
      length-append c (flat cs) ∙ omega arith

  columns-flat : (cs : List (List Float)) (b : List Float) → ((k : ℕ) → k < length cs → length (get_or cs k []) ≡ m) → columns m (length cs) (flat cs ++ b) ≡ cs
  unfolding flat columns
  columns-flat [] b t = refl
  columns-flat (c ∷ cs) b t =
      let l : length c ≡ m = t 0 (omega arith) in
      rw (append_assoc c (flat cs) b, take_at c (flat cs ++ b) m l, drop_at c (flat cs ++ b) m l)
      (ap (λ (x : List (List Float)). c ∷ x) (columns-flat cs b (λ k h. t (suc k) (omega arith))))

-- ---- the call, from what its tests and its working say
module _ (m n : ℕ) (jac res v₀ d₀ : List Float) (o₀ : List ℕ) (b₀ : List Float) where
  abbrev tests : ℕ
  tests = first_of (reduce_tests m n (length jac) (length res) (length v₀) (length d₀) (length o₀) (length b₀))

  abbrev worked : Reduced
  worked = let f = reduction_of m n (columns m n jac) res in reduced_as (answered (ranges_of (measured m n (columns m n jac) res))) (map norm (columns m n jac)) f.diag f.order (flat f.cols ++ f.rhs)

  pub call_refuses : (r : Refusal) → refusal_number r ≡ tests → reduced_as (refused (refusal_number r)) v₀ d₀ o₀ b₀ ≡ reduce_call m n jac res v₀ d₀ o₀ b₀
  unfolding reduce_call
  call_refuses r e = call-refused worked (λ (k : ℕ). reduced_as (refused k) v₀ d₀ o₀ b₀) _ (refusal_number r) (sym e) (ne_eqb (refusal_number r) 0 (refusal_number-some r))

  call_works : tests ≡ 0 → worked ≡ reduce_call m n jac res v₀ d₀ o₀ b₀
  unfolding reduce_call
  call_works e = call-worked worked (λ (k : ℕ). reduced_as (refused k) v₀ d₀ o₀ b₀) _ e

  -- what the working leaves: begun as r, and reduced column by column
  pub call_works_out : (v d w b : List Float) (o : List ℕ) (r : Reduction) (seen all : Ranges) → tests ≡ 0 → v ≡ map norm (columns m n jac) → r ≡ start (columns m n jac) (take m res)
      → under_way m n b d w o ≡ upto (reduced_at n) (min m n) r → seen ≡ ranges_of (columns m n jac) → all ≡ either seen (ranges_of (along (measured_at n) (reduced_at n) (min m n) r))
      → length b ≡ suc n * m → reduced_as (answered all) v d o b ≡ reduce_call m n jac res v₀ d₀ o₀ b₀
  unfolding reduction_of measured
  call_works_out v d w b o r seen all t hv h₁ h₂ hs ha full =
      let l = lengths m n (length jac) (length res) (length v₀) (length d₀) (length o₀) (length b₀) (sym t) in
      let f : Reduction = reduction_of m n (columns m n jac) res in
      let same : take m res ≡ res = take_all m res (le_of_eq l.res_long) in
      let from : r ≡ start (columns m n jac) res = h₁ ∙ ap (start (columns m n jac)) same in
      let e : under_way m n b d w o ≡ f = h₂ ∙ ap (upto (reduced_at n) (min m n)) from in
      let hb : b ≡ flat f.cols ++ f.rhs = sym (bench_whole m n b full) ∙ ap (λ (x : Reduction). flat x.cols ++ x.rhs) e in
      let hd : d ≡ f.diag = ap (λ (x : Reduction). x.diag) e in
      let ho : o ≡ f.order = ap (λ (x : Reduction). x.order) e in
      let told : all ≡ ranges_of (measured m n (columns m n jac) res) =
      ha ∙ ap (λ (x : Ranges). either x (ranges_of (along (measured_at n) (reduced_at n) (min m n) r))) hs
      ∙ ap (λ (x : Reduction). either (ranges_of (columns m n jac)) (ranges_of (along (measured_at n) (reduced_at n) (min m n) x))) from
      ∙ sym (ranges_of-append (columns m n jac) (along (measured_at n) (reduced_at n) (min m n) (start (columns m n jac) res))) in
      let whole : reduced_as (answered all) v d o b ≡ worked = rw (told, hv, hd, ho, hb) in
      whole ∙ call_works t

-- at the start r_diag has the norms of the columns as they stand
pub start-norms : (r : Reduction) (cs : List (List Float)) (b : List Float) → r ≡ start cs b → r.diag ≡ map norm r.cols
unfolding start
start-norms r cs b e = ap (λ (x : Reduction). x.diag) e ∙ sym (ap (λ (x : Reduction). map norm x.cols) e)

pub start-cols : (r : Reduction) (cs : List (List Float)) (b : List Float) → r ≡ start cs b → cs ≡ r.cols
unfolding start
start-cols r cs b e = sym (ap (λ (x : Reduction). x.cols) e)

-- ---- for callers: what stands in the lent slices after a reduction whose sizes and lengths fit
pub reduces : (m n : ℕ) (jac res v₀ v d₀ d : List Float) (o₀ o : List ℕ) (b₀ b : List Float) {r : Reply Ranges} → outside m n ≡ false → length jac ≡ m * n → length res ≡ m
    → length v₀ ≡ n → length d₀ ≡ n → length o₀ ≡ n → length b₀ ≡ m * n + m → reduced_as r v d o b ≡ reduce_call m n jac res v₀ d₀ o₀ b₀ → Reduces m n jac res r v d o b
reduces m n jac res v₀ v d₀ d o₀ o b₀ b {r = r} hs hj hr hv hd ho hb e =
    let t = fitting m n (length jac) (length res) (length v₀) (length d₀) (length o₀) (length b₀) (record { sizes = hs; jac_long = hj; res_long = hr; norms_long = hv; diag_long = hd; order_long = ho; bench_long = hb }) in
    let w : reduced_as r v d o b ≡ worked m n jac res v₀ d₀ o₀ b₀ = e ∙ sym (call_works m n jac res v₀ d₀ o₀ b₀ t) in
    let f : Reduction = reduction_of m n (columns m n jac) res in
    let fits : Fits m n f = reduction-fits m n jac res (le_of_eq (sym hj)) hr in
    let tall : (k : ℕ) → k < length f.cols → length (get_or f.cols k []) ≡ m = λ k h. fits.cols_tall k (subst (λ (x : ℕ). k < x) fits.cols_wide h) in
    let whole : b ≡ flat f.cols ++ f.rhs = ap (λ (x : Reduced). x.bench) w in
    let back : columns m n (flat f.cols ++ f.rhs) ≡ f.cols = ap (λ (k : ℕ). columns m k (flat f.cols ++ f.rhs)) (sym fits.cols_wide) ∙ columns-flat m f.cols f.rhs tall in
    let far : length (flat f.cols) ≡ n * m = flat_long m f.cols tall ∙ ap (λ (k : ℕ). k * m) fits.cols_wide in
    record {
      reply = ap (λ (x : Reduced). x.reply) w;
      norms = ap (λ (x : Reduced). x.norms) w;
      cols = take-columns m n b ∙ ap (columns m n) whole ∙ back;
      rhs = column_at m (suc n) n b (le_refl (suc n)) ∙ ap (λ (x : List Float). take m (drop (n * m) x)) whole
          ∙ ap (take m) (drop_at (flat f.cols) f.rhs (n * m) far)
          ∙ take_all m f.rhs (le_of_eq fits.rhs_long);
      diag = ap (λ (x : Reduced). x.diag) w;
      order = ap (λ (x : Reduced). x.order) w;
    }
