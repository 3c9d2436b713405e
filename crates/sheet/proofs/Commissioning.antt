-- Document 01's commissioning examples A to L as a single table, each row computed by the definitions that the contracts cite; F, G and K also
-- as sheets, byte for byte. Assumes nothing.
use Prim.Native.Nat.{ℕ, ◌^◌}
use mathlib.Core.Path.{◌≡◌, refl}
use mathlib.Core.Bool.{false}
use mathlib.Core.List.{List, [], ◌∷◌}
use lib.ListN.{replicate}
use lib.Ieee.{Float, nan, binary64, round}
use Rattle.leaves.specs.Reply.{Reply, answered, refused}
use Rattle.leaves.specs.Number.{plus_zero}
use Rattle.leaves.specs.Root.{root_s}
use Rattle.leaves.specs.Norm.{norm, neither}
use Rattle.factor.specs.Factoring.{Factored, factor_call}
use Rattle.factor.specs.Solves.{zero_call}
use Rattle.measures.specs.Measures.{gradient_call, determined_call}
use Rattle.factor.specs.HeldCalls.{solve_call}
use Rattle.factor.specs.Outcome.{Ended}
use Rattle.search.specs.Search.{Flagged, search_call}
use Rattle.sheet.specs.Lines.{sheet_text}
use Rattle.sheet.specs.inner.Opened.{opened}

-- whole numbers, and rooms full of junk
abbrev w : ℕ → Float
w n = round binary64 false n 1

abbrev junk : ℕ → List Float
junk k = replicate k nan

-- E: J = (3 3), one row. H: J = (3 4), r = (8)
abbrev row : ℕ → ℕ → Factored
row a b = factor_call 1 2 (w a ∷ w b ∷ []) (w 8 ∷ []) (junk 12) (7 ∷ 7 ∷ []) (junk 3)

-- J: all-zero 4×3, residuals (1, 2, 3, 4)
abbrev nil : Factored
nil = factor_call 4 3 (replicate 12 plus_zero) (w 1 ∷ w 2 ∷ w 3 ∷ w 4 ∷ []) (junk 21) (7 ∷ 7 ∷ 7 ∷ []) (junk 16)

-- J = (3): F has r = (6) and radius 2, G r = (33) and radius 10, K F with radius +0; scaling 1, lambda 0
abbrev searched : ℕ → Float → Ended Flagged
searched r radius =
    let f = factor_call 1 1 (w 3 ∷ []) (w r ∷ []) (junk 5) (7 ∷ []) (junk 2) in
    search_call f.state f.order (w 1 ∷ []) radius plus_zero f.store (junk 1)

abbrev undamped : Float → Reply Flagged
undamped n = answered (record { lambda = plus_zero; dp_norm = n; trials = 0 }, neither)

-- the sheets of F, as document 01 gives it, of G and of K
abbrev sheet_f : List ℕ
sheet_f = 0x11 ∷ 0x00 ∷ 0x41 ∷ 0x40 ∷ 0x08 ∷ 0x00 ∷ 0x00 ∷ 0x00 ∷ 0x00 ∷ 0x00 ∷ 0x00 ∷ 0x40 ∷ 0x18 ∷ 0x00 ∷ 0x00 ∷ 0x00 ∷ 0x00 ∷ 0x00 ∷ 0x00 ∷ 0x3F ∷ 0xF0 ∷ 0x00 ∷ 0x00 ∷ 0x00 ∷ 0x00 ∷ 0x00 ∷ 0x00 ∷ 0x40 ∷ 0x00 ∷ 0x00 ∷ 0x00 ∷ 0x00 ∷ 0x00 ∷ 0x00 ∷ 0x00 ∷ 0x00 ∷ 0x00 ∷ 0x00 ∷ 0x00 ∷ 0x00 ∷ 0x00 ∷ 0x00 ∷ 0x00 ∷ []

abbrev sheet_g : List ℕ
sheet_g = 0x11 ∷ 0x00 ∷ 0x41 ∷ 0x40 ∷ 0x08 ∷ 0x00 ∷ 0x00 ∷ 0x00 ∷ 0x00 ∷ 0x00 ∷ 0x00 ∷ 0x40 ∷ 0x40 ∷ 0x80 ∷ 0x00 ∷ 0x00 ∷ 0x00 ∷ 0x00 ∷ 0x00 ∷ 0x3F ∷ 0xF0 ∷ 0x00 ∷ 0x00 ∷ 0x00 ∷ 0x00 ∷ 0x00 ∷ 0x00 ∷ 0x40 ∷ 0x24 ∷ 0x00 ∷ 0x00 ∷ 0x00 ∷ 0x00 ∷ 0x00 ∷ 0x00 ∷ 0x00 ∷ 0x00 ∷ 0x00 ∷ 0x00 ∷ 0x00 ∷ 0x00 ∷ 0x00 ∷ 0x00 ∷ []

abbrev sheet_k : List ℕ
sheet_k = 0x11 ∷ 0x00 ∷ 0x41 ∷ 0x40 ∷ 0x08 ∷ 0x00 ∷ 0x00 ∷ 0x00 ∷ 0x00 ∷ 0x00 ∷ 0x00 ∷ 0x40 ∷ 0x18 ∷ 0x00 ∷ 0x00 ∷ 0x00 ∷ 0x00 ∷ 0x00 ∷ 0x00 ∷ 0x3F ∷ 0xF0 ∷ 0x00 ∷ 0x00 ∷ 0x00 ∷ 0x00 ∷ 0x00 ∷ 0x00 ∷ 0x00 ∷ 0x00 ∷ 0x00 ∷ 0x00 ∷ 0x00 ∷ 0x00 ∷ 0x00 ∷ 0x00 ∷ 0x00 ∷ 0x00 ∷ 0x00 ∷ 0x00 ∷ 0x00 ∷ 0x00 ∷ 0x00 ∷ 0x00 ∷ []

-- and what is printed: document 01's five lines, the same for G, and `refused 7`
abbrev text_f : List ℕ
text_f = 108 ∷ 97 ∷ 109 ∷ 98 ∷ 100 ∷ 97 ∷ 32 ∷ 48 ∷ 48 ∷ 48 ∷ 48 ∷ 48 ∷ 48 ∷ 48 ∷ 48 ∷ 48 ∷ 48 ∷ 48 ∷ 48 ∷ 48 ∷ 48 ∷ 48 ∷ 48 ∷ 10 ∷ 110 ∷ 111 ∷ 114 ∷ 109 ∷ 32 ∷ 52 ∷ 48 ∷ 48 ∷ 48 ∷ 48 ∷ 48 ∷ 48 ∷ 48 ∷ 48 ∷ 48 ∷ 48 ∷ 48 ∷ 48 ∷ 48 ∷ 48 ∷ 48 ∷ 10 ∷ 116 ∷ 114 ∷ 105 ∷ 97 ∷ 108 ∷ 115 ∷ 32 ∷ 48 ∷ 10 ∷ 100 ∷ 101 ∷ 116 ∷ 101 ∷ 114 ∷ 109 ∷ 105 ∷ 110 ∷ 101 ∷ 100 ∷ 32 ∷ 49 ∷ 10 ∷ 115 ∷ 116 ∷ 101 ∷ 112 ∷ 32 ∷ 48 ∷ 32 ∷ 52 ∷ 48 ∷ 48 ∷ 48 ∷ 48 ∷ 48 ∷ 48 ∷ 48 ∷ 48 ∷ 48 ∷ 48 ∷ 48 ∷ 48 ∷ 48 ∷ 48 ∷ 48 ∷ 10 ∷ []

abbrev text_g : List ℕ
text_g = 108 ∷ 97 ∷ 109 ∷ 98 ∷ 100 ∷ 97 ∷ 32 ∷ 48 ∷ 48 ∷ 48 ∷ 48 ∷ 48 ∷ 48 ∷ 48 ∷ 48 ∷ 48 ∷ 48 ∷ 48 ∷ 48 ∷ 48 ∷ 48 ∷ 48 ∷ 48 ∷ 10 ∷ 110 ∷ 111 ∷ 114 ∷ 109 ∷ 32 ∷ 52 ∷ 48 ∷ 50 ∷ 54 ∷ 48 ∷ 48 ∷ 48 ∷ 48 ∷ 48 ∷ 48 ∷ 48 ∷ 48 ∷ 48 ∷ 48 ∷ 48 ∷ 48 ∷ 10 ∷ 116 ∷ 114 ∷ 105 ∷ 97 ∷ 108 ∷ 115 ∷ 32 ∷ 48 ∷ 10 ∷ 100 ∷ 101 ∷ 116 ∷ 101 ∷ 114 ∷ 109 ∷ 105 ∷ 110 ∷ 101 ∷ 100 ∷ 32 ∷ 49 ∷ 10 ∷ 115 ∷ 116 ∷ 101 ∷ 112 ∷ 32 ∷ 48 ∷ 32 ∷ 52 ∷ 48 ∷ 50 ∷ 54 ∷ 48 ∷ 48 ∷ 48 ∷ 48 ∷ 48 ∷ 48 ∷ 48 ∷ 48 ∷ 48 ∷ 48 ∷ 48 ∷ 48 ∷ 10 ∷ []

abbrev text_k : List ℕ
text_k = 114 ∷ 101 ∷ 102 ∷ 117 ∷ 115 ∷ 101 ∷ 100 ∷ 32 ∷ 55 ∷ 10 ∷ []

pub record Commissioning : Type 0 where
  pub A : root_s (round binary64 false 390625 1000000) ≡ round binary64 false 625 1000
  pub B : root_s (round binary64 false 1 (2 ^ 1074)) ≡ round binary64 false 1 (2 ^ 537)
  pub C : norm (w 3 ∷ w 4 ∷ []) ≡ w 5
  pub D : norm [] ≡ w 0
  pub E : (row 3 3).order ≡ 0 ∷ 1 ∷ []
  pub F : ((searched 6 (w 2)).reply ≡ undamped (w 2)) × ((searched 6 (w 2)).out ≡ w 2 ∷ [])
  pub G : (searched 33 (w 10)).reply ≡ undamped (w 11)
  pub H : ((row 3 4).order ≡ 1 ∷ 0 ∷ []) × ((zero_call (row 3 4).state (row 3 4).order (row 3 4).store (junk 2)).out ≡ w 0 ∷ w 2 ∷ [])
  pub I : (gradient_call (row 3 4).state (row 3 4).order (w 8) (row 3 4).store).reply ≡ answered (w 1)
  pub J : ((determined_call nil.state nil.store).reply ≡ answered 0) × ((gradient_call nil.state nil.order (w 1) nil.store).reply ≡ answered (w 0))
  pub K : (searched 6 plus_zero).reply ≡ refused 7
  pub L : (solve_call (row 3 4).state (row 3 4).order (junk 2) (row 3 4).store (junk 2)).reply ≡ refused 5
  pub as_sheets : (sheet_text sheet_f ≡ text_f) × (sheet_text sheet_g ≡ text_g) × (sheet_text sheet_k ≡ text_k)

pub commissioning : Commissioning
unfolding opened
commissioning = record {
  A = refl;
  B = refl;
  C = refl;
  D = refl;
  E = refl;
  F = (refl, refl);
  G = refl;
  H = (refl, refl);
  I = refl;
  J = (refl, refl);
  K = refl;
  L = refl;
  as_sheets = (refl, refl, refl);
}
