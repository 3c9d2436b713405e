-- 30 to 100 of QRSOLV are the base's elimination: at place j the columns before it are settled, and column k from j on holds, from its diagonal on, row k
-- of what is still to be eliminated. For every r, scaling and right side, infinities and NaN too. Assumes nothing.
use mathlib.Core.Path.{◌≡◌, refl, sym, ap, ap₂, ◌∙◌, subst}
use mathlib.Core.Bool.{Bool, true, false, cond}
use mathlib.Core.List.{List, [], ◌∷◌, ◌++◌}
use Prim.Native.Nat.{ℕ, zero, suc, ◌+◌, ◌-◌}
use native.Mathlib.Omega.{arith}
use lib.ListN.{length, get_or, length-replicate}
use lib.Seq.{append_snoc, get_or_at, set_at}
use lib.Ieee.{Float, nan, eq}
use Rattle.leaves.specs.Number.{plus_zero}
use Rattle.leaves.specs.Square.{zeros}
use Rattle.factor.specs.Solve.{gather}
use Rattle.eliminate.specs.Eliminate.{Rows, rotated, started, onward, eliminated, heads, tails}
use Rattle.search.specs.Qrsolv.{at, put, cell, put_cell, Work, do30, do80, damped_at, restored_at, do100}
use Rattle.search.proofs.QrsolvPlaces.{laid, with_diagonal, Rising, length_snoc, cell_at, put_at, set_next}
use Rattle.search.proofs.QrsolvTurns.{work, work-same, Rotated, do80_is}
use Rattle.search.proofs.Shapes.{Tri, tri_length, started_even}

-- ---- 30
do30_is : (p ss : List Float) (k : ℕ) → length p ≡ k → do30 (length ss) k (p ++ ss) ≡ p ++ zeros (length ss)
unfolding do30
do30_is p [] k h = refl
do30_is p (s ∷ ss) k h =
    ap (do30 (length ss) (suc k)) (set_next p ss s plus_zero h)
    ∙ do30_is (p ++ (plus_zero ∷ [])) ss (suc k) (length_snoc p plus_zero h)
    ∙ append_snoc p plus_zero (zeros (length ss))

-- ---- a row of d
pick : (z : Bool) (P : Rows → Work → Type 0) (y y' : Rows) (s s' : Work) → P y s → P y' s' → P (cond z y y') (elim z [ true ↦ s | false ↦ s' ])
pick true P y y' s s' h k = h
pick false P y y' s s' h k = k

module _ (n m j : ℕ) (d : Float) (front tops rows : List (List Float)) (fs ss fw ws : List Float) (q : Float) (h : length front ≡ j) (ls : length fs ≡ j) (lw : length fw ≡ j) (st : Rising j tops) (lt : length tops ≡ suc m) (tri : Tri (suc m) rows) (lss : length ss ≡ suc m) (lws : length ws ≡ suc m) (e : j + suc m ≡ n) where
  row_of_d : put (do30 (n - j) j (fs ++ ss)) j d ≡ fs ++ (d ∷ zeros (length rows - 1))
  row_of_d =
      let c : n - j ≡ length ss = omega arith in
      let i : length rows - 1 ≡ m = omega (arith, tri_length (suc m) rows tri) in
      ap (λ (k : ℕ). put (do30 k j (fs ++ ss)) j d) c
      ∙ ap (λ (v : List Float). put v j d) (do30_is fs ss j ls ∙ ap (λ (k : ℕ). fs ++ zeros k) lss)
      ∙ set_at fs plus_zero (zeros m) d j ls
      ∙ ap (λ (k : ℕ). fs ++ (d ∷ zeros k)) (sym i)

  damped_at_lem : Rotated fs (suc m) (front ++ laid tops (started d rows ws).0) (fw ++ (started d rows ws).1) (damped_at n d j (work (front ++ laid tops rows) (fs ++ ss) (fw ++ ws) q))
  unfolding started damped_at
  damped_at_lem =
      let here = work (front ++ laid tops rows) (fs ++ ss) (fw ++ ws) q in
      let there : List Float → Work = λ v. do80 n (suc m) j (work (front ++ laid tops rows) v (fw ++ ws) plus_zero) in
      let row = d ∷ zeros (length rows - 1) in
      let y = rotated rows ws row plus_zero in
      let c : n - j ≡ suc m = omega arith in
      let long : length row ≡ suc m = omega (arith, length-replicate (length rows - 1) plus_zero, tri_length (suc m) rows tri) in
      let P : Rows → Work → Type 0 = λ u v. Rotated fs (suc m) (front ++ laid tops u.0) (fw ++ u.1) v in
      let started' : P y (there (put (do30 (n - j) j (fs ++ ss)) j d)) = subst (λ (v : List Float). P y (there v)) (sym row_of_d)
      (do80_is n (suc m) j front tops rows fs row fw ws plus_zero h ls lw st lt tri long lws e) in
      pick (eq d plus_zero) P (rows, ws) y here _ (record { spent = ss; spent_long = lss; r_is = refl; sdiag_is = refl; wa_is = refl })
      (subst (λ (i : ℕ). P y (do80 n i j (work (front ++ laid tops rows) (put (do30 (n - j) j (fs ++ ss)) j d) (fw ++ ws) plus_zero))) (sym c) started')

-- ---- 90, and 100
pub record Made (r : List (List Float)) (sdiag wa : List Float) (s : Work) : Type 0 where
  pub r_is : s.r ≡ r
  pub sdiag_is : s.sdiag ≡ sdiag
  pub wa_is : s.wa ≡ wa

restored_at_lem : (j m : ℕ) (x fx xs : List Float) (x₀ : Float) (front back : List (List Float)) (t row fs fw ws : List Float) (a w : Float) (s : Work)
    → x ≡ fx ++ (x₀ ∷ xs) → length fx ≡ j → length front ≡ j → length t ≡ j → length fs ≡ j → Rotated fs (suc m) (front ++ ((t ++ (a ∷ row)) ∷ back)) (fw ++ (w ∷ ws)) s
    → (ss : List Float) × ((length ss ≡ m)
    × (restored_at x j s ≡ work ((front ++ (((t ++ (x₀ ∷ [])) ++ row) ∷ [])) ++ back) ((fs ++ (a ∷ [])) ++ ss) ((fw ++ (w ∷ [])) ++ ws) s.qtbpj))
unfolding restored_at
restored_at_lem j m x fx xs x₀ front back t row fs fw ws a w s ex lx h l ls f = by f.spent f.spent_long f.sdiag_is
  where
    by : (v : List Float) → length v ≡ suc m → s.sdiag ≡ fs ++ v → (ss : List Float) × ((length ss ≡ m)
        × (restored_at x j s ≡ work ((front ++ (((t ++ (x₀ ∷ [])) ++ row) ∷ [])) ++ back) ((fs ++ (a ∷ [])) ++ ss) ((fw ++ (w ∷ [])) ++ ws) s.qtbpj))
    by [] e g = absurd (omega arith)
    by (z ∷ ss) e g =
        let r = front ++ ((t ++ (a ∷ row)) ∷ back) in
        let c : List Float → List (List Float) = λ y. front ++ (y ∷ back) in
        let x-is : at x j ≡ x₀ = ap (λ (v : List Float). at v j) ex ∙ get_or_at fx x₀ xs nan j lx in
        let a-is : cell s.r j j ≡ a = ap (λ (v : List (List Float)). cell v j j) f.r_is ∙ cell_at front t row a back h l in (
          ss,
          (
            omega arith,
            work-same
                (ap₂ (λ (v : List (List Float)) (y : Float). put_cell v j j y) f.r_is x-is ∙ put_at front t row a back h l x₀
                ∙ ap c (sym (append_snoc t x₀ row)) ∙ sym (append_snoc front ((t ++ (x₀ ∷ [])) ++ row) back))
                (ap₂ (λ (v : List Float) (y : Float). put v j y) g a-is ∙ set_next fs ss z a ls)
                (f.wa_is ∙ sym (append_snoc fw w ws))
                refl,
          ),
        )

-- what 100 leaves from j on
module _ (n : ℕ) (ipvt : List ℕ) (diag x : List Float) where
  abbrev pub Loop100 : ℕ → ℕ → List (List Float) → List Float → List ℕ → Type 0
  Loop100 m j tops xs ls =
      (front rows : List (List Float)) (fs ss fw ws : List Float) (q : Float) → length front ≡ j → length fs ≡ j → length fw ≡ j → Tri m rows → length ss ≡ m → length ws ≡ m
      → (let y = eliminated (gather ls diag) rows ws in
      Made (front ++ laid (with_diagonal tops xs) (tails y.0)) (fs ++ heads y.0) (fw ++ y.1) (do100 n ipvt diag x m j (work (front ++ laid tops rows) (fs ++ ss) (fw ++ ws) q)))

  next100 : (m j : ℕ) (t : List Float) (tops : List (List Float)) (x₀ : Float) (fx xs : List Float) (ls : List ℕ) → x ≡ fx ++ (x₀ ∷ xs) → length fx ≡ j → length t ≡ j → Loop100 m (suc j) tops xs ls
      → (front rows : List (List Float)) (fs fw ws : List Float) (s : Work) → length front ≡ j → length fs ≡ j → length fw ≡ j → Tri (suc m) rows → length ws ≡ suc m
      → Rotated fs (suc m) (front ++ laid (t ∷ tops) rows) (fw ++ ws) s
      → (let y = onward (λ rs cs. eliminated (gather ls diag) rs cs) rows ws in
      Made (front ++ laid (with_diagonal (t ∷ tops) (x₀ ∷ xs)) (tails y.0)) (fs ++ heads y.0) (fw ++ y.1) (do100 n ipvt diag x m (suc j) (restored_at x j s)))
  unfolding heads tails
  next100 m j t tops x₀ fx xs ls ex lx l on front [] fs fw ws s h lf lw tri lws f = absurd tri
  next100 m j t tops x₀ fx xs ls ex lx l on front ([] ∷ rows) fs fw ws s h lf lw tri lws f = absurd (omega (arith, tri.0))
  next100 m j t tops x₀ fx xs ls ex lx l on front ((a ∷ row) ∷ rows) fs fw [] s h lf lw tri lws f = absurd (omega arith)
  next100 m j t tops x₀ fx xs ls ex lx l on front ((a ∷ row) ∷ rows) fs fw (w ∷ ws) s h lf lw tri lws f =
      let c = (t ++ (x₀ ∷ [])) ++ row in
      let y = eliminated (gather ls diag) rows ws in
      let p = restored_at_lem j m x fx xs x₀ front (laid tops rows) t row fs fw ws a w s ex lx h l lf f in
      let z = on (front ++ (c ∷ [])) rows (fs ++ (a ∷ [])) p.0 (fw ++ (w ∷ [])) ws s.qtbpj (length_snoc front c h) (length_snoc fs a lf) (length_snoc fw w lw) tri.1 p.1.0 (omega arith) in
      let go : Work → Work = do100 n ipvt diag x m (suc j) in
      record {
        r_is = ap (λ (v : Work). (go v).r) p.1.1 ∙ z.r_is ∙ append_snoc front c (laid (with_diagonal tops xs) (tails y.0));
        sdiag_is = ap (λ (v : Work). (go v).sdiag) p.1.1 ∙ z.sdiag_is ∙ append_snoc fs a (heads y.0);
        wa_is = ap (λ (v : Work). (go v).wa) p.1.1 ∙ z.wa_is ∙ append_snoc fw w y.1;
      }

  pub do100_is : (m j : ℕ) (tops : List (List Float)) (fl ls : List ℕ) (fx xs : List Float) → ipvt ≡ fl ++ ls → length fl ≡ j → length ls ≡ m → x ≡ fx ++ xs → length fx ≡ j → length xs ≡ m
      → Rising j tops → length tops ≡ m → j + m ≡ n → Loop100 m j tops xs ls
  unfolding do100 eliminated gather heads tails
  do100_is zero j [] fl [] fx [] ei li ll ex lx lxs st lt e front [] fs [] fw [] q h ls lw tri lss lws = record { r_is = refl; sdiag_is = refl; wa_is = refl }
  do100_is zero j [] fl [] fx [] ei li ll ex lx lxs st lt e front [] fs [] fw (w ∷ ws) q h lf lw tri lss lws = absurd (omega arith)
  do100_is zero j [] fl [] fx [] ei li ll ex lx lxs st lt e front [] fs (s ∷ ss) fw ws q h lf lw tri lss lws = absurd (omega arith)
  do100_is zero j [] fl [] fx [] ei li ll ex lx lxs st lt e front (_ ∷ _) fs ss fw ws q h ls lw tri lss lws = elim tri [ ]
  do100_is zero j [] fl [] fx (x₀ ∷ xs) ei li ll ex lx lxs st lt e front rows fs ss fw ws q h lf lw tri lss lws = absurd (omega arith)
  do100_is zero j [] fl (l ∷ ls) fx xs ei li ll ex lx lxs st lt e front rows fs ss fw ws q h lf lw tri lss lws = absurd (omega arith)
  do100_is zero j (t ∷ tops) fl ls fx xs ei li ll ex lx lxs st lt e front rows fs ss fw ws q h lf lw tri lss lws = absurd (omega arith)
  do100_is (suc m) j [] fl ls fx xs ei li ll ex lx lxs st lt e front rows fs ss fw ws q h lf lw tri lss lws = absurd (omega arith)
  do100_is (suc m) j (t ∷ tops) fl [] fx xs ei li ll ex lx lxs st lt e front rows fs ss fw ws q h lf lw tri lss lws = absurd (omega arith)
  do100_is (suc m) j (t ∷ tops) fl (l ∷ ls) fx [] ei li ll ex lx lxs st lt e front rows fs ss fw ws q h lf lw tri lss lws = absurd (omega arith)
  do100_is (suc m) j (t ∷ tops) fl (l ∷ ls) fx (x₀ ∷ xs) ei li ll ex lx lxs st lt e front rows fs ss fw ws q h lf lw tri lss lws =
      let d = get_or diag l nan in
      let y = started d rows ws in
      let d-is : get_or diag (get_or ipvt j 0) nan ≡ d = ap (λ (v : List ℕ). get_or diag (get_or v j 0) nan) ei ∙ ap (λ (i : ℕ). get_or diag i nan) (get_or_at fl l ls 0 j li) in
      let f : Rotated fs (suc m) (front ++ laid (t ∷ tops) y.0) (fw ++ y.1) (damped_at n (get_or diag (get_or ipvt j 0) nan) j (work (front ++ laid (t ∷ tops) rows) (fs ++ ss) (fw ++ ws) q)) =
      rw d-is (damped_at_lem n m j d front (t ∷ tops) rows fs ss fw ws q h lf lw st lt tri lss lws e) in
      let even = started_even m d rows ws tri lws in
      next100 m j t tops x₀ fx xs ls ex lx st.0
      (do100_is m (suc j) tops (fl ++ (l ∷ [])) ls (fx ++ (x₀ ∷ [])) xs (ei ∙ sym (append_snoc fl l ls)) (length_snoc fl l li) (omega arith) (ex ∙ sym (append_snoc fx x₀ xs)) (length_snoc fx x₀ lx) (omega arith) st.1 (omega arith) (omega arith))
      front y.0 fs fw y.1 _ h lf lw even.0 even.1 f
