-- 60 and 80 of QRSOLV turn a row in as the base does: column k holds, from its diagonal on, row k of what the row is turned into. For every number,
-- infinities and NaN too. Assumes nothing.
use mathlib.Core.Path.{◌≡◌, refl, sym, ap, ap₂, ◌∙◌, subst}
use mathlib.Core.Bool.{Bool, true, false}
use mathlib.Core.List.{List, [], ◌∷◌, ◌++◌}
use Prim.Native.Nat.{ℕ, zero, suc, ◌+◌, ◌-◌}
use native.Mathlib.Omega.{arith}
use lib.ListN.{length}
use lib.Seq.{append_snoc, get_or_at, set_at}
use lib.Ieee.{Float, nan, eq}
use Rattle.leaves.specs.Number.{plus_zero}
use Rattle.eliminate.specs.Eliminate.{Rows, cons, givens, turned, left, turned_all, left_all, rotated}
use Rattle.eliminate.specs.declared.eliminate.Rotation.{Rotation}
use Rattle.eliminate.proofs.Rotations.{left-length}
use Rattle.search.specs.Qrsolv.{at, put, cell, put_cell, Turn, turn_of, stays, passes, Work, do60, turned_at, do80}
use Rattle.search.proofs.QrsolvRotation.{turn_by, turn_is, stays_is, passes_is}
use Rattle.search.proofs.QrsolvPlaces.{laid, Rising, length_snoc, cell_at, put_next, set_next}
use Rattle.search.proofs.Shapes.{Tri}

abbrev pub work : List (List Float) → List Float → List Float → Float → Work
work r sdiag wa qtbpj = record { r = r; sdiag = sdiag; wa = wa; qtbpj = qtbpj }

pub work-same : {r r' : List (List Float)} {s s' w w' : List Float} {q q' : Float} → r ≡ r' → s ≡ s' → w ≡ w' → q ≡ q' → work r s w q ≡ work r' s' w' q'
work-same {r} {r'} {s} {s'} {w} {w'} {q} {q'} a b c d = ap₂ (λ (x : List (List Float)) (y : List Float). work x y w q) a b ∙ ap₂ (λ (x : List Float) (y : Float). work r' s' x y) c d

-- ---- 60
module _ (g : Rotation) (front back : List (List Float)) (k : ℕ) (h : length front ≡ k) (wa : List Float) (q : Float) where
  abbrev column : List Float → List (List Float)
  column c = front ++ (c ∷ back)

  do60_is : (p t rs ss : List Float) (i : ℕ) → length p ≡ i → length t ≡ i → length rs ≡ length ss
      → do60 (turn_by g) k (length rs) i (work (column (p ++ rs)) (t ++ ss) wa q) ≡ work (column (p ++ turned_all g rs ss)) (t ++ left_all g rs ss) wa q
  unfolding do60 turned_all left_all
  do60_is p t [] [] i a b e = refl
  do60_is p t [] (s ∷ ss) i a b e = absurd (omega arith)
  do60_is p t (r ∷ rs) [] i a b e = absurd (omega arith)
  do60_is p t (r ∷ rs) (s ∷ ss) i a b e =
      let y = turned g r s in
      let z = left g r s in
      let c : cell (column (p ++ (r ∷ rs))) i k ≡ r = cell_at front p rs r back h a in
      let d : at (t ++ (s ∷ ss)) i ≡ s = get_or_at t s ss nan i b in
      let one = ap (put_cell (column (p ++ (r ∷ rs))) i k) (ap₂ (stays (turn_by g)) c d ∙ stays_is g r s) ∙ put_next front p rs r back h a y in
      let two = ap (put (t ++ (s ∷ ss)) i) (ap₂ (passes (turn_by g)) c d ∙ passes_is g r s) ∙ set_next t ss s z b in
      ap (do60 (turn_by g) k (length rs) (suc i)) (work-same one two (refl {a = wa}) (refl {a = q}))
      ∙ do60_is (p ++ (y ∷ [])) (t ++ (z ∷ [])) rs ss (suc i) (length_snoc p y a) (length_snoc t z b) (omega arith)
      ∙ work-same (ap column (append_snoc p y (turned_all g rs ss))) (append_snoc t z (left_all g rs ss)) (refl {a = wa}) (refl {a = q})

-- ---- 80: what it leaves, with the numbers that stand in sdiag from the first place on left open
pub record Rotated (fs : List Float) (m : ℕ) (r : List (List Float)) (wa : List Float) (s : Work) : Type 0 where
  pub spent : List Float
  pub spent_long : length spent ≡ m
  pub r_is : s.r ≡ r
  pub sdiag_is : s.sdiag ≡ fs ++ spent
  pub wa_is : s.wa ≡ wa

-- one place more before
from_next : (fs : List Float) (x : Float) (m : ℕ) (front : List (List Float)) (c : List Float) (r : List (List Float)) (fw : List Float) (w : Float) (ws : List Float) (s : Work)
    → Rotated (fs ++ (x ∷ [])) m ((front ++ (c ∷ [])) ++ r) ((fw ++ (w ∷ [])) ++ ws) s → Rotated fs (suc m) (front ++ (c ∷ r)) (fw ++ (w ∷ ws)) s
from_next fs x m front c r fw w ws s h = record {
  spent = x ∷ h.spent;
  spent_long = ap suc h.spent_long;
  r_is = h.r_is ∙ append_snoc front c r;
  sdiag_is = h.sdiag_is ∙ append_snoc fs x h.spent;
  wa_is = h.wa_is ∙ append_snoc fw w ws;
}

-- a loop that goes on from v
module _ (fs : List Float) (x : Float) (m : ℕ) (front : List (List Float)) (c : List Float) (fw : List Float) (w : Float) where
  onward_from : (f : Work → Work) (now : List (List Float)) (ss ws : List Float) (q : Float) {v : Work} (r : List (List Float)) (wa : List Float)
      → v ≡ work (front ++ (c ∷ now)) (fs ++ (x ∷ ss)) (fw ++ (w ∷ ws)) q
      → Rotated (fs ++ (x ∷ [])) m ((front ++ (c ∷ [])) ++ r) ((fw ++ (w ∷ [])) ++ wa) (f (work ((front ++ (c ∷ [])) ++ now) ((fs ++ (x ∷ [])) ++ ss) ((fw ++ (w ∷ [])) ++ ws) q))
      → Rotated fs (suc m) (front ++ (c ∷ r)) (fw ++ (w ∷ wa)) (f v)
  onward_from f now ss ws q {v} r wa e h =
      let s = work ((front ++ (c ∷ [])) ++ now) ((fs ++ (x ∷ [])) ++ ss) ((fw ++ (w ∷ [])) ++ ws) q in
      let same : s ≡ v = work-same (append_snoc front c now) (append_snoc fs x ss) (append_snoc fw w ws) refl ∙ sym e in
      subst (λ (u : Work). Rotated fs (suc m) (front ++ (c ∷ r)) (fw ++ (w ∷ wa)) (f u)) same (from_next fs x m front c r fw w wa (f s) h)

pick : (z : Bool) (P : Rows → Work → Type 0) (y y' : Rows) (s s' : Work) → P y s → P y' s' → P (elim z [ true ↦ y | false ↦ y' ]) (elim z [ true ↦ s | false ↦ s' ])
pick true P y y' s s' h k = h
pick false P y y' s s' h k = k

-- the rotation at k
module _ (k : ℕ) (front back : List (List Float)) (h : length front ≡ k) where
  turned_at_lem : (n m : ℕ) (t xs fs ss fw ws : List Float) (a s w q : Float) → length t ≡ k → length fs ≡ k → length fw ≡ k → length xs ≡ m → length ss ≡ m → k + suc m ≡ n
      → (let g = givens a s in turned_at n k (work (front ++ ((t ++ (a ∷ xs)) ∷ back)) (fs ++ (s ∷ ss)) (fw ++ (w ∷ ws)) q)
      ≡ work (front ++ ((t ++ (turned g a s ∷ turned_all g xs ss)) ∷ back)) (fs ++ (s ∷ left_all g xs ss)) (fw ++ (turned g w q ∷ ws)) (left g w q))
  unfolding turned_at
  turned_at_lem n m t xs fs ss fw ws a s w q l ls lw la lss e =
      let g = givens a s in
      let G = turn_by g in
      let r = front ++ ((t ++ (a ∷ xs)) ∷ back) in
      let y = turned g a s in
      let c : cell r k k ≡ a = cell_at front t xs a back h l in
      let d : at (fs ++ (s ∷ ss)) k ≡ s = get_or_at fs s ss nan k ls in
      let b : at (fw ++ (w ∷ ws)) k ≡ w = get_or_at fw w ws nan k lw in
      let j : n - suc k ≡ length xs = omega arith in
      let f : Turn → ℕ → Float → Float → Float → Work = λ u i x z v. do60 u k i (suc k) (work (put_cell r k k (stays u x z)) (fs ++ (s ∷ ss)) (put (fw ++ (w ∷ ws)) k (stays u v q)) (passes u v q)) in
      ap₂ (λ (x z : Float). f (turn_of x z) (n - suc k) x z (at (fw ++ (w ∷ ws)) k)) c d
      ∙ ap₂ (λ (u : Turn) (i : ℕ). f u i a s (at (fw ++ (w ∷ ws)) k)) (turn_is a s) j
      ∙ ap (f G (length xs) a s) b
      ∙ ap (do60 G k (length xs) (suc k)) (work-same
      (ap (put_cell r k k) (stays_is g a s) ∙ put_next front t xs a back h l y)
      (sym (append_snoc fs s ss))
      (ap (put (fw ++ (w ∷ ws)) k) (stays_is g w q) ∙ set_at fw w ws (turned g w q) k lw)
      (passes_is g w q))
      ∙ do60_is g front back k h (fw ++ (turned g w q ∷ ws)) (left g w q) (t ++ (y ∷ [])) (fs ++ (s ∷ [])) xs ss (suc k) (length_snoc t y l) (length_snoc fs s ls) (la ∙ sym lss)
      ∙ work-same (ap (λ (x : List Float). front ++ (x ∷ back)) (append_snoc t y (turned_all g xs ss))) (append_snoc fs s (left_all g xs ss)) refl refl

-- what 80 leaves from k on
abbrev pub Loop80 : ℕ → ℕ → ℕ → List (List Float) → List (List Float) → List (List Float) → List Float → List Float → List Float → List Float → Float → Type 0
Loop80 n m k front tops rows fs ss fw ws q =
    Rotated fs m (front ++ laid tops (rotated rows ws ss q).0) (fw ++ (rotated rows ws ss q).1) (do80 n m k (work (front ++ laid tops rows) (fs ++ ss) (fw ++ ws) q))

module _ (n m k : ℕ) (front tops rows : List (List Float)) (t xs fs ss fw ws : List Float) (a s w q : Float) (h : length front ≡ k) (l : length t ≡ k) (ls : length fs ≡ k) (lw : length fw ≡ k) (lx : length xs ≡ m) (lss : length ss ≡ m) (e : k + suc m ≡ n) where
  abbrev g : Rotation
  g = givens a s

  abbrev row : List Float
  row = turned g a s ∷ turned_all g xs ss

  turn80 : Loop80 n m (suc k) (front ++ ((t ++ (a ∷ xs)) ∷ [])) tops rows (fs ++ (s ∷ [])) ss (fw ++ (w ∷ [])) ws q
      → Loop80 n m (suc k) (front ++ ((t ++ row) ∷ [])) tops rows (fs ++ (s ∷ [])) (left_all g xs ss) (fw ++ (turned g w q ∷ [])) ws (left g w q)
      → Loop80 n (suc m) k front (t ∷ tops) ((a ∷ xs) ∷ rows) fs (s ∷ ss) fw (w ∷ ws) q
  unfolding do80 rotated
  turn80 skipped went =
      let here = work (front ++ ((t ++ (a ∷ xs)) ∷ laid tops rows)) (fs ++ (s ∷ ss)) (fw ++ (w ∷ ws)) q in
      let step = turned_at_lem k front (laid tops rows) h n m t xs fs ss fw ws a s w q l ls lw lx lss e in
      let y = rotated rows ws ss q in
      let z = rotated rows ws (left_all g xs ss) (left g w q) in
      rw (get_or_at fs s ss nan k ls) (pick (eq s plus_zero) (λ u v. Rotated fs (suc m) (front ++ laid (t ∷ tops) u.0) (fw ++ u.1) (do80 n m (suc k) v))
      (cons (a ∷ xs) w y) (cons row (turned g w q) z) here (turned_at n k here)
      (onward_from fs s m front (t ++ (a ∷ xs)) fw w (do80 n m (suc k)) (laid tops rows) ss ws q (laid tops y.0) y.1 refl skipped)
      (onward_from fs s m front (t ++ row) fw (turned g w q) (do80 n m (suc k)) (laid tops rows) (left_all g xs ss) ws (left g w q) (laid tops z.0) z.1 step went))

pub do80_is : (n m k : ℕ) (front tops rows : List (List Float)) (fs ss fw ws : List Float) (q : Float) → length front ≡ k → length fs ≡ k → length fw ≡ k
    → Rising k tops → length tops ≡ m → Tri m rows → length ss ≡ m → length ws ≡ m → k + m ≡ n → Loop80 n m k front tops rows fs ss fw ws q
unfolding do80 rotated
do80_is n zero k front tops [] fs ss fw ws q h ls lw st lt tri lss lws e = record { spent = ss; spent_long = lss; r_is = refl; sdiag_is = refl; wa_is = refl }
do80_is n zero k front tops (row ∷ rows) fs ss fw ws q h ls lw st lt tri lss lws e = absurd tri
do80_is n (suc m) k front tops [] fs ss fw ws q h ls lw st lt tri lss lws e = absurd tri
do80_is n (suc m) k front [] (row ∷ rows) fs ss fw ws q h ls lw st lt tri lss lws e = absurd (omega arith)
do80_is n (suc m) k front (t ∷ tops) ([] ∷ rows) fs ss fw ws q h ls lw st lt tri lss lws e = absurd (omega (arith, tri.0))
do80_is n (suc m) k front (t ∷ tops) ((a ∷ xs) ∷ rows) fs [] fw ws q h ls lw st lt tri lss lws e = absurd (omega arith)
do80_is n (suc m) k front (t ∷ tops) ((a ∷ xs) ∷ rows) fs (s ∷ ss) fw [] q h ls lw st lt tri lss lws e = absurd (omega arith)
do80_is n (suc m) k front (t ∷ tops) ((a ∷ xs) ∷ rows) fs (s ∷ ss) fw (w ∷ ws) q h ls lw st lt tri lss lws e =
    let g = givens a s in
    let lx : length xs ≡ m = omega (arith, tri.0) in
    let ll : length ss ≡ m = omega arith in
    let lm : length ws ≡ m = omega arith in
    let lo : length tops ≡ m = omega arith in
    let en : suc k + m ≡ n = omega arith in
    let row = turned g a s ∷ turned_all g xs ss in
    let w' = turned g w q in
    turn80 n m k front tops rows t xs fs ss fw ws a s w q h st.0 ls lw lx ll e
    (do80_is n m (suc k) (front ++ ((t ++ (a ∷ xs)) ∷ [])) tops rows (fs ++ (s ∷ [])) ss (fw ++ (w ∷ [])) ws q
    (length_snoc front (t ++ (a ∷ xs)) h) (length_snoc fs s ls) (length_snoc fw w lw) st.1 lo tri.1 ll lm en)
    (do80_is n m (suc k) (front ++ ((t ++ row) ∷ [])) tops rows (fs ++ (s ∷ [])) (left_all g xs ss) (fw ++ (w' ∷ [])) ws (left g w q)
    (length_snoc front (t ++ row) h) (length_snoc fs s ls) (length_snoc fw w' lw) st.1 lo tri.1 (left-length g xs ss (lx ∙ sym ll) ∙ ll) lm en)
