-- What the theorems against MINPACK-1 speak of, beside its own words.
use Rattle.std.specs.Prelude.{List, [], ◌∷◌, ℕ, take, Float, ◌≡◌, false}
use Rattle.std.specs.Float.Ieee.{is_nan}
use Rattle.factor.specs.Room.{load}
use Rattle.factor.specs.declared.state.State.{State}
use Rattle.search.specs.Lmpar.{Given}

-- what the public call was lent, in LMPAR's names
abbrev pub lent_of : State → List ℕ → List Float → Float → List Float → Given
lent_of st order diag radius store = record {
  n = st.n;
  r = (load st.n store).upper;
  ipvt = take st.n order;
  diag = take st.n diag;
  qtb = (load st.n store).qtb;
  delta = radius;
}

-- ---- all of them
abbrev pub NoNan : List Float → Type 0
NoNan [] = Unit {0}
NoNan (x ∷ xs) = (is_nan x ≡ false) × NoNan xs
