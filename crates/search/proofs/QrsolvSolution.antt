-- 110 to 160 of QRSOLV are the base's damped solve: nsing is the rank, wa is zero from there on, and x is what is laid out by ipvt. Assumes nothing.
use mathlib.Core.Path.{◌≡◌, refl, sym, ap, ap₂, ◌∙◌}
use mathlib.Core.Bool.{Bool, true, false, cond, ◌&&◌}
use mathlib.Core.List.{List, [], ◌∷◌, ◌++◌}
use Prim.Native.Nat.{ℕ, zero, suc, ◌+◌, ◌-◌, ◌<◌, ◌≤◌}
use native.Mathlib.Omega.{arith}
use lib.Dec.{ltb}
use lib.ListN.{length, get_or, take, drop, set, length-drop, length-map, length-replicate}
use lib.Seq.{append_snoc, get_or_at, set_at, take_all, length-take-le}
use lib.Ieee.{Float, nan, binary64, add, sub, mul, div, eq}
use borrow.Author.Tests.{eq-eqb, lt-ltb, le-ltb}
use Rattle.leaves.specs.Number.{plus_zero}
use Rattle.leaves.specs.Vector.{dot_from}
use Rattle.leaves.specs.Square.{zeros}
use Rattle.factor.specs.Tests.{is_permutation}
use Rattle.factor.specs.Solve.{rank, scatter, backward}
use Rattle.factor.proofs.Backs.{back_length}
use Rattle.eliminate.specs.Eliminate.{tails}
use Rattle.search.specs.Qrsolv.{at, put, cell, unset, Cut, nsing_at, do110, do120, do140, do160, permuted}
use Rattle.search.proofs.QrsolvPlaces.{laid, Rising, length_snoc, set_next}
use Rattle.search.proofs.LmparVectors.{nsing_kept}
use Rattle.search.proofs.Shapes.{Tri, tri_length, scatter_fresh}

-- ---- 110
abbrev pub cut : ℕ → List Float → Cut
cut nsing wa = record { nsing = nsing; wa = wa }

module _ (n : ℕ) (sdiag : List Float) where
  -- one place
  abbrev at110 : ℕ → ℕ → List Float → Cut
  at110 nsing j wa = cut nsing (cond (ltb nsing n) (put wa j plus_zero) wa)

  -- past nsing
  after110 : (fw ws : List Float) (j k : ℕ) → length fw ≡ j → k < n → do110 n sdiag (length ws) j (cut k (fw ++ ws)) ≡ cut k (fw ++ zeros (length ws))
  unfolding do110
  after110 fw [] j k l h = refl
  after110 fw (w ∷ ws) j k l h =
      let W = fw ++ (w ∷ ws) in
      ap (λ (i : ℕ). do110 n sdiag (length ws) (suc j) (at110 i j W)) (nsing_kept n j k (at sdiag j) h)
      ∙ ap (λ (z : Bool). do110 n sdiag (length ws) (suc j) (cut k (cond z (put W j plus_zero) W))) (lt-ltb k n h)
      ∙ ap (λ (v : List Float). do110 n sdiag (length ws) (suc j) (cut k v)) (set_next fw ws w plus_zero l)
      ∙ after110 (fw ++ (plus_zero ∷ [])) ws (suc j) k (length_snoc fw plus_zero l) h
      ∙ ap (cut k) (append_snoc fw plus_zero (zeros (length ws)))

  pub do110_is : (fd ds fw ws : List Float) (j : ℕ) → sdiag ≡ fd ++ ds → length fd ≡ j → length fw ≡ j → length ds ≡ length ws → j + length ds ≡ n
      → do110 n sdiag (length ds) j (cut n (fw ++ ws)) ≡ cut (j + rank ds) (fw ++ (take (rank ds) ws ++ zeros (length ws - rank ds)))
  unfolding do110 rank
  do110_is fd [] fw [] j e ld lw l h = ap₂ (λ (i : ℕ) (v : List Float). cut i (fw ++ v)) (omega arith) refl
  do110_is fd [] fw (w ∷ ws) j e ld lw l h = absurd (omega arith)
  do110_is fd (d ∷ ds) fw [] j e ld lw l h = absurd (omega arith)
  do110_is fd (d ∷ ds) fw (w ∷ ws) j e ld lw l h =
      let W = fw ++ (w ∷ ws) in
      let d-is : at sdiag j ≡ d = ap (λ (v : List Float). at v j) e ∙ get_or_at fd d ds nan j ld in
      ap (λ (x : Float). do110 n sdiag (length ds) (suc j) (at110 (nsing_at n j n x) j W)) d-is
      ∙ ap (λ (z : Bool). do110 n sdiag (length ds) (suc j) (at110 (cond (eq d plus_zero && z) j n) j W)) (eq-eqb n n refl)
      ∙ by (eq d plus_zero) (do110_is (fd ++ (d ∷ [])) ds (fw ++ (w ∷ [])) ws (suc j) (e ∙ sym (append_snoc fd d ds)) (length_snoc fd d ld) (length_snoc fw w lw) (omega arith) (omega arith))
    where
      by : (z : Bool) → do110 n sdiag (length ds) (suc j) (cut n ((fw ++ (w ∷ [])) ++ ws)) ≡ cut (suc j + rank ds) ((fw ++ (w ∷ [])) ++ (take (rank ds) ws ++ zeros (length ws - rank ds)))
          → do110 n sdiag (length ds) (suc j) (at110 (cond (z && true) j n) j (fw ++ (w ∷ ws)))
          ≡ cut (j + cond z 0 (suc (rank ds))) (fw ++ (take (cond z 0 (suc (rank ds))) (w ∷ ws) ++ zeros (suc (length ws) - cond z 0 (suc (rank ds)))))
      by true r =
          let W = fw ++ (w ∷ ws) in
          let c : length ds ≡ length ws = omega arith in
          let k : suc (length ws) ≡ suc (length ws) - 0 = omega arith in
          ap₂ (λ (z : Bool) (i : ℕ). do110 n sdiag i (suc j) (cut j (cond z (put W j plus_zero) W))) (lt-ltb j n (omega arith)) c
          ∙ ap (λ (v : List Float). do110 n sdiag (length ws) (suc j) (cut j v)) (set_next fw ws w plus_zero lw)
          ∙ after110 (fw ++ (plus_zero ∷ [])) ws (suc j) j (length_snoc fw plus_zero lw) (omega arith)
          ∙ ap₂ (λ (i : ℕ) (v : List Float). cut i v) (omega arith) (append_snoc fw plus_zero (zeros (length ws)) ∙ ap (λ (i : ℕ). fw ++ zeros i) k)
      by false r =
          let W = fw ++ (w ∷ ws) in
          let c : suc (length ws) - suc (rank ds) ≡ length ws - rank ds = omega arith in
          ap (λ (z : Bool). do110 n sdiag (length ds) (suc j) (cut n (cond z (put W j plus_zero) W))) (le-ltb n n (omega arith))
          ∙ ap (λ (v : List Float). do110 n sdiag (length ds) (suc j) (cut n v)) (sym (append_snoc fw w ws))
          ∙ r
          ∙ ap₂ (λ (i : ℕ) (v : List Float). cut i v) (omega arith) (append_snoc fw w (take (rank ds) ws ++ zeros (length ws - rank ds)) ∙ ap (λ (i : ℕ). fw ++ (w ∷ (take (rank ds) ws ++ zeros i))) (sym c))

-- ---- 120: column j is p and then s, wa is t, the places solved, and what comes after nsing
do120_is : (r : List (List Float)) (wa : List Float) (j : ℕ) (p s t ls zs : List Float) (i : ℕ) (sum : Float) → get_or r j [] ≡ p ++ s → wa ≡ t ++ (ls ++ zs) → length p ≡ i → length t ≡ i → length ls ≤ length s
    → do120 r wa j (length ls) i sum ≡ dot_from sum (take (length ls) s) ls
unfolding do120 dot_from
do120_is r wa j p s t [] zs i sum c e lp lt h = refl
do120_is r wa j p [] t (l ∷ ls) zs i sum c e lp lt h = absurd (omega arith)
do120_is r wa j p (x ∷ s) t (l ∷ ls) zs i sum c e lp lt h =
    let x-is : cell r i j ≡ x = ap (λ (v : List Float). at v i) c ∙ get_or_at p x s nan i lp in
    let l-is : at wa i ≡ l = ap (λ (v : List Float). at v i) e ∙ get_or_at t l (ls ++ zs) nan i lt in
    ap₂ (λ (y z : Float). do120 r wa j (length ls) (suc i) (add binary64 sum (mul binary64 y z))) x-is l-is
    ∙ do120_is r wa j (p ++ (x ∷ [])) s (t ++ (l ∷ [])) ls zs (suc i) (add binary64 sum (mul binary64 x l)) (c ∙ sym (append_snoc p x s)) (e ∙ sym (append_snoc t l (ls ++ zs)))
    (length_snoc p x lp) (length_snoc t l lt) (omega arith)

-- ---- 140
module _ (nsing : ℕ) (r : List (List Float)) (sdiag : List Float) where
  -- place k, where the later ones are solved
  turn140 : (k m : ℕ) (front back : List (List Float)) (u s fd ds fw later zs : List Float) (d w : Float) → r ≡ front ++ ((u ++ s) ∷ back) → sdiag ≡ fd ++ (d ∷ ds)
      → length front ≡ k → length fd ≡ k → length fw ≡ k → length u ≡ suc k → length later ≡ m → m ≤ length s → k + suc m ≡ nsing
      → do140 nsing r sdiag (suc k) ((fw ++ (w ∷ [])) ++ (later ++ zs)) ≡ do140 nsing r sdiag k (fw ++ (div binary64 (sub binary64 w (dot_from plus_zero (take (length later) s) later)) d ∷ (later ++ zs)))
  unfolding do140
  turn140 k m front back u s fd ds fw later zs d w er ed lf ld lw lu ll h e =
      let W = (fw ++ (w ∷ [])) ++ (later ++ zs) in
      let flat : W ≡ fw ++ (w ∷ (later ++ zs)) = append_snoc fw w (later ++ zs) in
      let column : get_or r k [] ≡ u ++ s = ap (λ (v : List (List Float)). get_or v k []) er ∙ get_or_at front (u ++ s) back [] k lf in
      let d-is : at sdiag k ≡ d = ap (λ (v : List Float). at v k) ed ∙ get_or_at fd d ds nan k ld in
      let w-is : at W k ≡ w = ap (λ (v : List Float). at v k) flat ∙ get_or_at fw w (later ++ zs) nan k lw in
      let c : nsing - suc k ≡ length later = omega arith in
      let sum_is : do120 r W k (nsing - suc k) (suc k) plus_zero ≡ dot_from plus_zero (take (length later) s) later =
      ap (λ (i : ℕ). do120 r W k i (suc k) plus_zero) c ∙ do120_is r W k u s (fw ++ (w ∷ [])) later zs (suc k) plus_zero column refl lu (length_snoc fw w lw) (omega arith) in
      let v = div binary64 (sub binary64 w (dot_from plus_zero (take (length later) s) later)) d in
      ap (do140 nsing r sdiag k)
      (ap (put W k) (ap₂ (λ (x y : Float). div binary64 (sub binary64 x y) (at sdiag k)) w-is sum_is ∙ ap (div binary64 (sub binary64 w (dot_from plus_zero (take (length later) s) later))) d-is)
      ∙ ap (λ (x : List Float). put x k v) flat
      ∙ set_at fw w (later ++ zs) v k lw)

  pub do140_is : (m t k : ℕ) (front us rows : List (List Float)) (fd ds fw ws zs : List Float) → r ≡ front ++ laid us (tails rows) → sdiag ≡ fd ++ ds
      → length front ≡ k → length fd ≡ k → length fw ≡ k → Rising (suc k) us → length us ≡ t → Tri t rows → length ds ≡ t → length ws ≡ m → m ≤ t → k + m ≡ nsing
      → do140 nsing r sdiag (k + m) (fw ++ (ws ++ zs)) ≡ do140 nsing r sdiag k (fw ++ (backward (take m ds) (take m (tails rows)) ws ++ zs))
  unfolding backward tails
  do140_is zero t k front us rows fd ds fw [] zs er ed lf ld lw s lu tri lds lws h e = ap (λ (i : ℕ). do140 nsing r sdiag i (fw ++ zs)) (omega arith)
  do140_is zero t k front us rows fd ds fw (w ∷ ws) zs er ed lf ld lw s lu tri lds lws h e = absurd (omega arith)
  do140_is (suc m) t k front us rows fd ds fw [] zs er ed lf ld lw s lu tri lds lws h e = absurd (omega arith)
  do140_is (suc m) zero k front us rows fd ds fw (w ∷ ws) zs er ed lf ld lw s lu tri lds lws h e = absurd (omega arith)
  do140_is (suc m) (suc t) k front [] rows fd ds fw (w ∷ ws) zs er ed lf ld lw s lu tri lds lws h e = absurd (omega arith)
  do140_is (suc m) (suc t) k front (u ∷ us) [] fd ds fw (w ∷ ws) zs er ed lf ld lw s lu tri lds lws h e = absurd tri
  do140_is (suc m) (suc t) k front (u ∷ us) (row ∷ rows) fd [] fw (w ∷ ws) zs er ed lf ld lw s lu tri lds lws h e = absurd (omega arith)
  do140_is (suc m) (suc t) k front (u ∷ us) (row ∷ rows) fd (d ∷ ds) fw (w ∷ ws) zs er ed lf ld lw s lu tri lds lws h e =
      let low = drop 1 row in
      let c = u ++ low in
      let later = backward (take m ds) (take m (tails rows)) ws in
      let wide : length (tails rows) ≡ t = length-map rows _ ∙ tri_length t rows tri.1 in
      let long : length later ≡ m = back_length (take m ds) (take m (tails rows)) ws (length-take-le m ds (omega arith) ∙ omega arith) (length-take-le m (tails rows) (omega arith) ∙ omega arith) ∙ omega arith in
      ap₂ (λ (i : ℕ) (v : List Float). do140 nsing r sdiag i v) (omega arith) (sym (append_snoc fw w (ws ++ zs)))
      ∙ do140_is m t (suc k) (front ++ (c ∷ [])) us rows (fd ++ (d ∷ [])) ds (fw ++ (w ∷ [])) ws zs (er ∙ sym (append_snoc front c (laid us (tails rows)))) (ed ∙ sym (append_snoc fd d ds))
      (length_snoc front c lf) (length_snoc fd d ld) (length_snoc fw w lw) s.1 (omega arith) tri.1 (omega arith) (omega arith) (omega arith) (omega arith)
      ∙ turn140 k m front (laid us (tails rows)) u low fd ds fw later zs d w er ed lf ld lw s.0 long (omega (arith, length-drop 1 row, tri.0)) e

-- ---- 160
module _ (ipvt : List ℕ) (wa : List Float) where
  pub do160_is : (fl ls : List ℕ) (fw ws : List Float) (j : ℕ) (x : List Float) → ipvt ≡ fl ++ ls → wa ≡ fw ++ ws → length fl ≡ j → length fw ≡ j → length ls ≡ length ws
      → do160 ipvt wa (length ws) j x ≡ scatter ls ws x
  unfolding do160 scatter
  do160_is fl [] fw [] j x ei ew li lw h = refl
  do160_is fl [] fw (w ∷ ws) j x ei ew li lw h = absurd (omega arith)
  do160_is fl (l ∷ ls) fw [] j x ei ew li lw h = absurd (omega arith)
  do160_is fl (l ∷ ls) fw (w ∷ ws) j x ei ew li lw h =
      let l-is : get_or ipvt j 0 ≡ l = ap (λ (v : List ℕ). get_or v j 0) ei ∙ get_or_at fl l ls 0 j li in
      let w-is : at wa j ≡ w = ap (λ (v : List Float). at v j) ew ∙ get_or_at fw w ws nan j lw in
      ap₂ (λ (i : ℕ) (y : Float). do160 ipvt wa (length ws) (suc j) (put x i y)) l-is w-is
      ∙ do160_is (fl ++ (l ∷ [])) ls (fw ++ (w ∷ [])) ws (suc j) (set x l w) (ei ∙ sym (append_snoc fl l ls)) (ew ∙ sym (append_snoc fw w ws)) (length_snoc fl l li) (length_snoc fw w lw) (omega arith)

-- What stood in x before does not show: a permutation writes every place.
pub placed_is : (n : ℕ) (ipvt : List ℕ) (wa x : List Float) → is_permutation n ipvt ≡ true → length ipvt ≡ n → length wa ≡ n → length x ≡ n
    → do160 ipvt wa n 0 x ≡ scatter ipvt wa (zeros (length wa))
placed_is n ipvt wa x order li lw lx =
    let t : take n ipvt ≡ ipvt = take_all n ipvt (omega arith) in
    ap (λ (i : ℕ). do160 ipvt wa i 0 x) (sym lw)
    ∙ do160_is ipvt wa [] ipvt [] wa 0 x refl refl refl refl (li ∙ sym lw)
    ∙ ap (λ (o : List ℕ). scatter o wa x) (sym t)
    ∙ scatter_fresh n ipvt wa x (zeros (length wa)) order (omega arith) lw lx (length-replicate (length wa) plus_zero ∙ lw)
    ∙ ap (λ (o : List ℕ). scatter o wa (zeros (length wa))) t

pub permuted_is : (ipvt : List ℕ) (wa : List Float) → is_permutation (length wa) ipvt ≡ true → length ipvt ≡ length wa → permuted ipvt wa ≡ scatter ipvt wa (zeros (length wa))
permuted_is ipvt wa order h = placed_is (length wa) ipvt wa (unset (length wa)) order h refl (length-replicate (length wa) nan)
