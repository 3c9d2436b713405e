-- LMPAR's vectors are the search's: its solves subtract where the leaf rules add the negated product, and its products have their factors the
-- other way round. For vectors of any lengths; 190 and 210 go by indices, and are for n places. Assumes nothing.
use mathlib.Core.Path.{◌≡◌, refl, sym, ap, ap₂, ◌∙◌}
use mathlib.Core.Bool.{Bool, true, false, cond, not, ◌&&◌, true≢false}
use mathlib.Core.Logic.{◌⊎◌, ⊎_elim}
use mathlib.Core.List.{List, [], ◌∷◌, ◌++◌, map}
use Prim.Native.Nat.compare
use Prim.Native.Nat.{ℕ, zero, suc, ◌+◌, ◌-◌, ◌<◌, ◌≤◌}
use native.Mathlib.Omega.{arith}
use lib.Dec.{leb, ltb}
use lib.ListN.{length, take, drop, get_or, length-drop}
use lib.Seq.{take_all, append_snoc, get_or_at}
use lib.Ieee.{Float, nan, inf, fin, binary64, add, sub, mul, div, neg, eq}
use borrow.Author.Tests.{eq-eqb, ne_eqb, lt-ltb, le-leb}
use Rattle.leaves.specs.Number.{plus_zero}
use Rattle.leaves.specs.Vector.{dot_from, axpy_all, scale_all}
use Rattle.leaves.specs.Triangle.{solve_place, solve_down}
use Rattle.leaves.specs.Product.{product_all}
use Rattle.leaves.proofs.Folds.{axpy-length}
use Rattle.eliminate.specs.Eliminate.{tails}
use Rattle.factor.specs.Solve.{rank, no_zero, gather}
use Rattle.factor.specs.Held.{forward_upper, forward_lower, mul_upper}
use Rattle.search.specs.Bounds.{quotients}
use Rattle.search.specs.Qrsolv.{at, put, cell, nsing_at, nsing_from}
use Rattle.search.specs.Lmpar.{Given, less_column, backward, scaled, newton_side, forward, do190, do210, gradient}
use Rattle.search.proofs.Commuting.{times_comm, less_is}
use Rattle.search.proofs.Shapes.{Tri}
use Rattle.search.proofs.QrsolvPlaces.{laid, Rising, length_snoc, set_next}

-- ---- products and sums of them
pub scaled_is : (ds xs : List Float) → scaled ds xs ≡ product_all xs ds
unfolding scaled product_all
scaled_is [] [] = refl
scaled_is [] (x ∷ xs) = refl
scaled_is (d ∷ ds) [] = refl
scaled_is (d ∷ ds) (x ∷ xs) = rw (times_comm binary64 d x, scaled_is ds xs)

pub root_scaled : (t : Float) (ds : List Float) → map (λ d. mul binary64 t d) ds ≡ scale_all t ds
unfolding scale_all
root_scaled t [] = refl
root_scaled t (d ∷ ds) = ap (λ (l : List Float). mul binary64 t d ∷ l) (root_scaled t ds)

dot_comm : (s : Float) (xs ys : List Float) → dot_from s xs ys ≡ dot_from s ys xs
unfolding dot_from
dot_comm s [] [] = refl
dot_comm s [] (y ∷ ys) = refl
dot_comm s (x ∷ xs) [] = refl
dot_comm s (x ∷ xs) (y ∷ ys) = rw (times_comm binary64 x y) (dot_comm (add binary64 s (mul binary64 y x)) xs ys)

-- ---- the triangular solves
less_column_lem : (t : Float) (rs ws : List Float) → less_column t rs ws ≡ axpy_all (neg t) rs ws
unfolding less_column axpy_all
less_column_lem t [] ws = refl
less_column_lem t (r ∷ rs) [] = refl
less_column_lem t (r ∷ rs) (w ∷ ws) = rw (less_is binary64 w r t, less_column_lem t rs ws)

pub backward_is : (r : List (List Float)) (j : ℕ) (ws : List Float) → backward r j ws ≡ solve_down r j ws
unfolding backward solve_down solve_place
backward_is r zero ws = refl
backward_is r (suc j) ws =
    let c = get_or r j [] in
    let t = div binary64 (get_or ws j nan) (get_or c j nan) in
    ap (λ (x : List Float). backward r j (x ++ (t ∷ drop (suc j) ws))) (less_column_lem t (take j c) (take j ws))
    ∙ backward_is r j (axpy_all (neg t) (take j c) (take j ws) ++ (t ∷ drop (suc j) ws))

pub forward_is : (ws : List Float) (cs : List (List Float)) (bs : List Float) → forward ws cs bs ≡ forward_upper ws cs bs
unfolding forward forward_upper
forward_is ws [] bs = refl
forward_is ws (c ∷ cs) [] = refl
forward_is ws (c ∷ cs) (b ∷ bs) =
    ap (λ (x : Float). forward (ws ++ (div binary64 (sub binary64 b x) (get_or c (length ws) nan) ∷ [])) cs bs) (dot_comm plus_zero (take (length ws) c) ws)
    ∙ forward_is (ws ++ (div binary64 (sub binary64 b (dot_from plus_zero ws (take (length ws) c))) (get_or c (length ws) nan) ∷ [])) cs bs

-- 190 and 210: r is what QRSOLV left, column j with what stands under S's diagonal at place j
do190_is : (r : List (List Float)) (j : ℕ) (temp : Float) (p s t ws : List Float) (i : ℕ) → get_or r j [] ≡ p ++ s → length p ≡ i → length t ≡ i → length s ≡ length ws
    → do190 r j temp (length ws) i (t ++ ws) ≡ t ++ axpy_all (neg temp) s ws
unfolding do190 axpy_all
do190_is r j temp p [] t [] i c lp lt h = refl
do190_is r j temp p [] t (w ∷ ws) i c lp lt h = absurd (omega arith)
do190_is r j temp p (x ∷ s) t [] i c lp lt h = absurd (omega arith)
do190_is r j temp p (x ∷ s) t (w ∷ ws) i c lp lt h =
    let y = add binary64 (mul binary64 (neg temp) x) w in
    let x-is : cell r i j ≡ x = ap (λ (v : List Float). at v i) c ∙ get_or_at p x s nan i lp in
    let y-is = ap₂ (λ (u v : Float). sub binary64 u (mul binary64 v temp)) (get_or_at t w ws nan i lt) x-is ∙ less_is binary64 w x temp in
    ap (do190 r j temp (length ws) (suc i)) (ap (put (t ++ (w ∷ ws)) i) y-is ∙ set_next t ws w y lt)
    ∙ do190_is r j temp (p ++ (x ∷ [])) s (t ++ (y ∷ [])) ws (suc i) (c ∙ sym (append_snoc p x s)) (length_snoc p x lp) (length_snoc t y lt) (omega arith)
    ∙ append_snoc t y (axpy_all (neg temp) s ws)

module _ (n : ℕ) (r : List (List Float)) (sdiag : List Float) where
  pub do210_is : (m j : ℕ) (front us rows : List (List Float)) (fd ds fw bs : List Float) → r ≡ front ++ laid us (tails rows) → sdiag ≡ fd ++ ds
      → length front ≡ j → length fd ≡ j → length fw ≡ j → Rising (suc j) us → length us ≡ m → Tri m rows → length ds ≡ m → length bs ≡ m → j + m ≡ n
      → do210 n r sdiag m j (fw ++ bs) ≡ fw ++ forward_lower ds (tails rows) bs
  unfolding do210 forward_lower tails
  do210_is zero j front us rows fd [] fw [] er ed lf ld lw s lu tri lds lbs e = refl
  do210_is zero j front us rows fd [] fw (b ∷ bs) er ed lf ld lw s lu tri lds lbs e = absurd (omega arith)
  do210_is zero j front us rows fd (d ∷ ds) fw bs er ed lf ld lw s lu tri lds lbs e = absurd (omega arith)
  do210_is (suc m) j front us rows fd [] fw bs er ed lf ld lw s lu tri lds lbs e = absurd (omega arith)
  do210_is (suc m) j front us rows fd (d ∷ ds) fw [] er ed lf ld lw s lu tri lds lbs e = absurd (omega arith)
  do210_is (suc m) j front [] rows fd (d ∷ ds) fw (b ∷ bs) er ed lf ld lw s lu tri lds lbs e = absurd (omega arith)
  do210_is (suc m) j front (u ∷ us) [] fd (d ∷ ds) fw (b ∷ bs) er ed lf ld lw s lu tri lds lbs e = absurd tri
  do210_is (suc m) j front (u ∷ us) (row ∷ rows) fd (d ∷ ds) fw (b ∷ bs) er ed lf ld lw s lu tri lds lbs e =
      let t = div binary64 b d in
      let low = drop 1 row in
      let c = u ++ low in
      let next = axpy_all (neg t) low bs in
      let column : get_or r j [] ≡ c = ap (λ (v : List (List Float)). get_or v j []) er ∙ get_or_at front c (laid us (tails rows)) [] j lf in
      let d-is : at sdiag j ≡ d = ap (λ (v : List Float). at v j) ed ∙ get_or_at fd d ds nan j ld in
      let b-is : at (fw ++ (b ∷ bs)) j ≡ b = get_or_at fw b bs nan j lw in
      let k : n - suc j ≡ length bs = omega arith in
      let tall : length low ≡ length bs = length-drop 1 row ∙ omega (arith, tri.0) in
      ap₂ (λ (x y : Float). do210 n r sdiag m (suc j) (do190 r j (div binary64 x y) (n - suc j) (suc j) (put (fw ++ (b ∷ bs)) j (div binary64 x y)))) b-is d-is
      ∙ ap₂ (λ (i : ℕ) (v : List Float). do210 n r sdiag m (suc j) (do190 r j t i (suc j) v)) k (set_next fw bs b t lw)
      ∙ ap (do210 n r sdiag m (suc j)) (do190_is r j t u low (fw ++ (t ∷ [])) bs (suc j) column s.0 (length_snoc fw t lw) tall)
      ∙ do210_is m (suc j) (front ++ (c ∷ [])) us rows (fd ++ (d ∷ [])) ds (fw ++ (t ∷ [])) next (er ∙ sym (append_snoc front c (laid us (tails rows)))) (ed ∙ sym (append_snoc fd d ds))
      (length_snoc front c lf) (length_snoc fd d ld) (length_snoc fw t lw) s.1 (omega arith) tri.1 (omega arith) (axpy-length (neg t) low bs ∙ omega arith) (omega arith)
      ∙ append_snoc fw t (forward_lower ds (tails rows) next)

-- ---- the right side of the held solve: an entry that is not there is NaN on both sides
times_nan : (x : Float) → mul binary64 x nan ≡ nan
unfolding mul
times_nan nan = refl
times_nan (inf s) = refl
times_nan (fin s m e) = refl

product_entry : (xs ys : List Float) (l : ℕ) → get_or (product_all xs ys) l nan ≡ mul binary64 (get_or xs l nan) (get_or ys l nan)
unfolding product_all mul
product_entry [] ys l = refl
product_entry (x ∷ xs) [] l = sym (times_nan (get_or (x ∷ xs) l nan))
product_entry (x ∷ xs) (y ∷ ys) zero = refl
product_entry (x ∷ xs) (y ∷ ys) (suc l) = product_entry xs ys l

quotient_entry : (d : Float) (v : List Float) (l : ℕ) → get_or (map (λ x. div binary64 x d) v) l nan ≡ div binary64 (get_or v l nan) d
unfolding div
quotient_entry d [] l = refl
quotient_entry d (x ∷ v) zero = refl
quotient_entry d (x ∷ v) (suc l) = quotient_entry d v l

pub side_is : (a : Given) (v : List Float) (d : Float) → newton_side a v d ≡ gather a.ipvt (product_all (map (λ x. div binary64 x d) v) a.diag)
unfolding newton_side gather
side_is a v d = by a.ipvt
  where
    by : (ls : List ℕ) → map (λ l. mul binary64 (get_or a.diag l nan) (div binary64 (get_or v l nan) d)) ls ≡ map (λ l. get_or (product_all (map (λ x. div binary64 x d) v) a.diag) l nan) ls
    by [] = refl
    by (l ∷ ls) =
        let e : mul binary64 (get_or a.diag l nan) (div binary64 (get_or v l nan) d) ≡ get_or (product_all (map (λ x. div binary64 x d) v) a.diag) l nan =
        times_comm binary64 (get_or a.diag l nan) (div binary64 (get_or v l nan) d)
        ∙ ap (λ (x : Float). mul binary64 x (get_or a.diag l nan)) (sym (quotient_entry d v l))
        ∙ sym (product_entry (map (λ x. div binary64 x d) v) a.diag l) in
        rw (e, by ls)

pub gradient_is : (a : Given) (cs : List (List Float)) (ls : List ℕ) → gradient a cs ls ≡ quotients (mul_upper a.qtb cs) (gather ls a.diag)
unfolding gradient quotients mul_upper gather
gradient_is a [] ls = refl
gradient_is a (c ∷ cs) [] = refl
gradient_is a (c ∷ cs) (l ∷ ls) = rw (dot_comm plus_zero c (take (length c) a.qtb), gradient_is a cs ls)

-- ---- nsing
pub nsing_kept : (n j k : ℕ) (d : Float) → k < n → nsing_at n j k d ≡ k
nsing_kept n j k d h = ap (λ (z : Bool). cond (eq d plus_zero && z) j k) (ne_eqb k n (omega arith)) ∙ by (eq d plus_zero)
  where
    by : (z : Bool) → cond (z && false) j k ≡ k
    by true = refl
    by false = refl

found : (n done k : ℕ) (ds : List Float) → k < n → nsing_from n done k ds ≡ k
unfolding nsing_from
found n done k [] h = refl
found n done k (d ∷ ds) h = ap (λ (i : ℕ). nsing_from n (suc done) i ds) (nsing_kept n done k d h) ∙ found n (suc done) k ds h

pub nsing_is : (n done : ℕ) (ds : List Float) → done + length ds ≡ n → nsing_from n done n ds ≡ done + rank ds
unfolding nsing_from rank
nsing_is n done [] h = omega arith
nsing_is n done (d ∷ ds) h = rw (eq-eqb n n refl) (by (eq d plus_zero) (nsing_is n (suc done) ds (omega arith)))
  where
    by : (z : Bool) → nsing_from n (suc done) n ds ≡ suc done + rank ds → nsing_from n (suc done) (cond (z && true) done n) ds ≡ done + cond z 0 (suc (rank ds))
    by true r = found n (suc done) done ds (omega arith) ∙ omega arith
    by false r = r ∙ omega arith

-- nsing is n exactly where no entry of the diagonal is zero
pub rank_full : (ds : List Float) → ltb (rank ds) (length ds) ≡ not (no_zero ds)
unfolding rank no_zero
rank_full [] = refl
rank_full (d ∷ ds) = by (eq d plus_zero) (rank_full ds)
  where
    by : (z : Bool) → ltb (rank ds) (length ds) ≡ not (no_zero ds) → ltb (cond z 0 (suc (rank ds))) (suc (length ds)) ≡ not (not z && no_zero ds)
    by true h = lt-ltb 0 (suc (length ds)) (omega arith)
    by false h = rw (compare.suc-suc (suc (rank ds)) (length ds)) h

-- ---- m rows: as many as columns, or R's diagonal has a zero at place m, as where R's rows from m on are 0
abbrev pub Enough : ℕ → List Float → Type 0
Enough m ds = (length ds ≤ m) ⊎ (eq (get_or ds m nan) plus_zero ≡ true)

zero_cuts : (m : ℕ) (ds : List Float) → eq (get_or ds m nan) plus_zero ≡ true → (rank (take m ds) ≡ rank ds) × (no_zero ds ≡ false)
unfolding rank no_zero eq
zero_cuts m [] h = absurd (true≢false (sym h))
zero_cuts zero (d ∷ ds) h = (rw h, rw h)
zero_cuts (suc m) (d ∷ ds) h = by (eq d plus_zero) (zero_cuts m ds h)
  where
    by : (z : Bool) → (rank (take m ds) ≡ rank ds) × (no_zero ds ≡ false) → (cond z 0 (suc (rank (take m ds))) ≡ cond z 0 (suc (rank ds))) × ((not z && no_zero ds) ≡ false)
    by true r = (refl, refl)
    by false r = (ap suc r.0, r.1)

pub rank_rows : (m : ℕ) (ds : List Float) → Enough m ds → rank (take m ds) ≡ rank ds
rank_rows m ds h = ⊎_elim (λ l. ap rank (take_all m ds l)) (λ e. (zero_cuts m ds e).0) h

pub full_rows : (m : ℕ) (ds : List Float) → Enough m ds → (leb (length ds) m && no_zero ds) ≡ no_zero ds
full_rows m ds h = ⊎_elim (λ l. rw (le-leb (length ds) m l)) (λ e. let z = (zero_cuts m ds e).1 in rw z (by (leb (length ds) m))) h
  where
    by : (b : Bool) → (b && false) ≡ false
    by true = refl
    by false = refl
