-- 10 and 20 of QRSOLV: below its diagonal and on it column j is row j of R from the diagonal on, x is R's diagonal, wa is qtb; what stood below the
-- diagonal before is not read. Assumes nothing.
use mathlib.Core.Path.{◌≡◌, refl, sym, ap, ap₂, ◌∙◌}
use mathlib.Core.List.{List, [], ◌∷◌, ◌++◌, map, append_assoc}
use Prim.Native.Nat.{ℕ, zero, suc, ◌+◌, ◌-◌, ◌<◌}
use native.Mathlib.Omega.{arith}
use lib.ListN.{length, get_or, take, length-append, length-map, length-replicate, get_or-append}
use lib.Seq.{append_snoc, get_or_at, take_all, take-suc, length-take-le}
use lib.Ieee.{Float, nan}
use Rattle.leaves.specs.Square.{diagonal_from}
use Rattle.eliminate.specs.Eliminate.{rows_from}
use Rattle.eliminate.specs.inner.Edges.{aboves_from}
use Rattle.search.specs.Qrsolv.{at, put, cell, put_cell, unset, whole, Copied, do10, do20}
use Rattle.search.proofs.QrsolvPlaces.{laid, with_diagonal, Rising, length_snoc, cell_at, put_next, set_next}

-- ---- 10
module _ (j : ℕ) (front : List (List Float)) (h : length front ≡ j) where
  abbrev entries : List (List Float) → List Float
  entries cs = map (λ c. get_or c j nan) cs

  -- after the diagonal: the columns past j are read and stay
  after_is : (p os : List Float) (mid later : List (List Float)) (i : ℕ) → length p ≡ i → i ≡ suc (j + length mid) → length os ≡ length later
      → do10 j (length later) i (front ++ ((p ++ os) ∷ (mid ++ later))) ≡ front ++ ((p ++ entries later) ∷ (mid ++ later))
  unfolding do10
  after_is p [] mid [] i l e o = refl
  after_is p (z ∷ os) mid [] i l e o = absurd (omega arith)
  after_is p [] mid (d ∷ later) i l e o = absurd (omega arith)
  after_is p (z ∷ os) mid (d ∷ later) i l e o =
      let c = p ++ (z ∷ os) in
      let r = front ++ (c ∷ (mid ++ (d ∷ later))) in
      let y = get_or d j nan in
      let far : length (front ++ (c ∷ mid)) ≡ i = length-append front (c ∷ mid) ∙ omega arith in
      let column : get_or r i [] ≡ d = ap (λ (v : List (List Float)). get_or v i []) (sym (append_assoc front (c ∷ mid) (d ∷ later))) ∙ get_or_at (front ++ (c ∷ mid)) d later [] i far in
      let past : mid ++ (d ∷ later) ≡ (mid ++ (d ∷ [])) ++ later = sym (append_snoc mid d later) in
      ap (do10 j (length later) (suc i))
      (ap (λ (v : List Float). put_cell r i j (get_or v j nan)) column
      ∙ put_next front p os z (mid ++ (d ∷ later)) h l y
      ∙ ap (λ (v : List (List Float)). front ++ (((p ++ (y ∷ [])) ++ os) ∷ v)) past)
      ∙ after_is (p ++ (y ∷ [])) os (mid ++ (d ∷ [])) later (suc i) (length_snoc p y l) (ap suc e ∙ omega (arith, length_snoc mid d {k = length mid} refl)) (omega arith)
      ∙ ap₂ (λ (v : List Float) (w : List (List Float)). front ++ (v ∷ w)) (append_snoc p y (entries later)) (sym past)

  do10_is : (p os : List Float) (x : Float) (later : List (List Float)) → length p ≡ j → length os ≡ length later
      → do10 j (suc (length later)) j (front ++ ((p ++ (x ∷ os)) ∷ later)) ≡ front ++ ((p ++ (x ∷ entries later)) ∷ later)
  unfolding do10
  do10_is p os x later l o =
      let r = front ++ ((p ++ (x ∷ os)) ∷ later) in
      ap (do10 j (length later) (suc j)) (ap (put_cell r j j) (cell_at front p os x later h l) ∙ put_next front p os x later h l x)
      ∙ after_is (p ++ (x ∷ [])) os [] later (suc j) (length_snoc p x l) (omega arith) o
      ∙ ap (λ (v : List Float). front ++ (v ∷ later)) (append_snoc p x (entries later))

-- ---- R by its columns
pub above_rising : (j : ℕ) (us : List (List Float)) → Rising (suc j) us → Rising j (aboves_from j us)
unfolding aboves_from
above_rising j [] s = tt
above_rising j (u ∷ us) s = (length-take-le j u (omega (arith, s.0)), above_rising (suc j) us s.1)

pub above-length : (j : ℕ) (us : List (List Float)) → length (aboves_from j us) ≡ length us
unfolding aboves_from
above-length j [] = refl
above-length j (u ∷ us) = ap suc (above-length (suc j) us)

last_is : (j : ℕ) (u : List Float) → length u ≡ suc j → take j u ++ (get_or u j nan ∷ []) ≡ u
last_is j u l = sym (take-suc u j nan (omega arith)) ∙ take_all (suc j) u (omega arith)

pub diagonal_on : (j : ℕ) (us : List (List Float)) → Rising (suc j) us → with_diagonal (aboves_from j us) (diagonal_from j us) ≡ us
unfolding aboves_from diagonal_from
diagonal_on j [] s = refl
diagonal_on j (u ∷ us) s = ap₂ (λ (v : List Float) (w : List (List Float)). v ∷ w) (last_is j u s.0) (diagonal_on (suc j) us s.1)

entries_whole : (n j k : ℕ) (us : List (List Float)) → Rising k us → j < k → map (λ c. get_or c j nan) (whole n us) ≡ map (λ c. get_or c j nan) us
entries_whole n j k [] s h = refl
entries_whole n j k (u ∷ us) s h =
    ap₂ (λ (x : Float) (xs : List Float). x ∷ xs) (get_or-append u (unset (n - length u)) nan j (omega (arith, s.0))) (entries_whole n j (suc k) us s.1 (omega arith))

-- ---- 20
abbrev pub copied : List (List Float) → List Float → List Float → Copied
copied r x wa = record { r = r; x = x; wa = wa }

copied-same : {r r' : List (List Float)} {x x' w w' : List Float} → r ≡ r' → x ≡ x' → w ≡ w' → copied r x w ≡ copied r' x' w'
copied-same {r} {r'} {x} {x'} {w} {w'} a b c = ap₂ (λ (y : List (List Float)) (z : List Float). copied y z w) a b ∙ ap (copied r' x') c

module _ (n : ℕ) (qtb : List Float) where
  -- a column
  turn10 : (m j : ℕ) (front : List (List Float)) (u : List Float) (us : List (List Float)) → length front ≡ j → Rising (suc j) (u ∷ us) → length us ≡ m → j + suc m ≡ n
      → do10 j (n - j) j (front ++ whole n (u ∷ us)) ≡ front ++ ((take j u ++ map (λ c. get_or c j nan) (u ∷ us)) ∷ whole n us)
  turn10 m j front u us h s l e =
      let x = get_or u j nan in
      let os = unset (n - length u) in
      let t : length (take j u) ≡ j = length-take-le j u (omega (arith, s.0)) in
      let w : length (whole n us) ≡ length us = length-map us _ in
      let k : n - j ≡ suc (length (whole n us)) = omega arith in
      let o : length os ≡ length (whole n us) = length-replicate (n - length u) nan ∙ omega (arith, s.0) in
      let c : u ++ os ≡ take j u ++ (x ∷ os) = ap (λ (v : List Float). v ++ os) (sym (last_is j u s.0)) ∙ append_snoc (take j u) x os in
      ap₂ (λ (i : ℕ) (v : List Float). do10 j i j (front ++ (v ∷ whole n us))) k c
      ∙ do10_is j front h (take j u) os x (whole n us) t o
      ∙ ap (λ (v : List Float). front ++ ((take j u ++ (x ∷ v)) ∷ whole n us)) (entries_whole n j (suc (suc j)) us s.1 (omega arith))

  pub do20_is : (m j : ℕ) (front us : List (List Float)) (fx xs fw ws fq qs : List Float) → length front ≡ j → length fx ≡ j → length fw ≡ j → qtb ≡ fq ++ qs → length fq ≡ j
      → Rising (suc j) us → length us ≡ m → length xs ≡ m → length ws ≡ m → length qs ≡ m → j + m ≡ n
      → do20 n qtb m j (copied (front ++ whole n us) (fx ++ xs) (fw ++ ws)) ≡ copied (front ++ laid (aboves_from j us) (rows_from j us)) (fx ++ diagonal_from j us) (fw ++ qs)
  unfolding do20 aboves_from rows_from diagonal_from
  do20_is zero j front [] fx [] fw [] fq [] h lx lw eq lq s lu lxs lws lqs e = refl
  do20_is zero j front [] fx [] fw [] fq (b ∷ qs) h lx lw eq lq s lu lxs lws lqs e = absurd (omega arith)
  do20_is zero j front [] fx [] fw (w ∷ ws) fq qs h lx lw eq lq s lu lxs lws lqs e = absurd (omega arith)
  do20_is zero j front [] fx (x ∷ xs) fw ws fq qs h lx lw eq lq s lu lxs lws lqs e = absurd (omega arith)
  do20_is zero j front (u ∷ us) fx xs fw ws fq qs h lx lw eq lq s lu lxs lws lqs e = absurd (omega arith)
  do20_is (suc m) j front [] fx xs fw ws fq qs h lx lw eq lq s lu lxs lws lqs e = absurd (omega arith)
  do20_is (suc m) j front (u ∷ us) fx [] fw ws fq qs h lx lw eq lq s lu lxs lws lqs e = absurd (omega arith)
  do20_is (suc m) j front (u ∷ us) fx (x ∷ xs) fw [] fq qs h lx lw eq lq s lu lxs lws lqs e = absurd (omega arith)
  do20_is (suc m) j front (u ∷ us) fx (x ∷ xs) fw (w ∷ ws) fq [] h lx lw eq lq s lu lxs lws lqs e = absurd (omega arith)
  do20_is (suc m) j front (u ∷ us) fx (x ∷ xs) fw (w ∷ ws) fq (b ∷ qs) h lx lw eq lq s lu lxs lws lqs e =
      let d = get_or u j nan in
      let row = map (λ c. get_or c j nan) (u ∷ us) in
      let c = take j u ++ row in
      let r_is = turn10 m j front u us h s (omega arith) e in
      let d-is : cell (do10 j (n - j) j (front ++ whole n (u ∷ us))) j j ≡ d =
      ap (λ (v : List (List Float)). cell v j j) r_is ∙ cell_at front (take j u) (map (λ v. get_or v j nan) us) d (whole n us) h (length-take-le j u (omega (arith, s.0))) in
      let b-is : at qtb j ≡ b = ap (λ (v : List Float). at v j) eq ∙ get_or_at fq b qs nan j lq in
      ap (do20 n qtb m (suc j)) (copied-same (r_is ∙ sym (append_snoc front c (whole n us))) (ap (put (fx ++ (x ∷ xs)) j) d-is ∙ set_next fx xs x d lx) (ap (put (fw ++ (w ∷ ws)) j) b-is ∙ set_next fw ws w b lw))
      ∙ do20_is m (suc j) (front ++ (c ∷ [])) us (fx ++ (d ∷ [])) xs (fw ++ (b ∷ [])) ws (fq ++ (b ∷ [])) qs (length_snoc front c h) (length_snoc fx d lx) (length_snoc fw b lw)
      (eq ∙ sym (append_snoc fq b qs)) (length_snoc fq b lq) s.1 (omega arith) (omega arith) (omega arith) (omega arith) (omega arith)
      ∙ copied-same (append_snoc front c (laid (aboves_from (suc j) us) (rows_from (suc j) us))) (append_snoc fx d (diagonal_from (suc j) us)) (append_snoc fw b qs)
