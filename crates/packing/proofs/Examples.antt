-- 02, #107, at n = 2, each computed by the definitions that the contracts cite. Assumes nothing.
use Prim.Native.Nat.{ℕ}
use mathlib.Core.Path.{◌≡◌, refl}
use mathlib.Core.Bool.{false}
use mathlib.Core.List.{List, [], ◌∷◌, ◌++◌}
use lib.ListN.{replicate}
use lib.Ieee.{Float, nan, binary64, round}
use Rattle.leaves.specs.Number.{plus_zero}
use Rattle.leaves.specs.Reply.{answered, refused}
use Rattle.factor.specs.declared.state.Held.{Held}
use Rattle.factor.specs.declared.state.Held.TheVariants as held
use Rattle.calls.specs.declared.state.State.{State}
use Rattle.calls.specs.Factoring.{MarkedFactored, marked_factoring}
use Rattle.calls.specs.Solves.{marked_zero, marked_damped}
use Rattle.calls.specs.HeldCalls.{marked_mul}
use Rattle.calls.specs.Outcome.{MarkedEnded}
use Rattle.packing.specs.Packing.{PutAway, put_away, pack_call, unpack_call}
use Rattle.packing.specs.inner.Opened.{opened}

-- whole numbers, and rooms full of junk
abbrev w : ℕ → Float
w n = round binary64 false n 1

abbrev junk : ℕ → List Float
junk k = replicate k nan

abbrev state : ℕ → ℕ → Held → ℕ → State
state m n h marks = record { m = m; n = n; held = h; marks = marks }

abbrev holding : Held → State
holding h = state 2 2 h 0

-- R is 1 in its first column, 2 and 3 in its second; what stands below, in l_diag and in work is no number; one more double
abbrev store : List Float
store = w 1 ∷ nan ∷ w 2 ∷ w 3 ∷ w 4 ∷ w 5 ∷ w 6 ∷ w 7 ∷ junk 5

-- R's three numbers, qt_b, the column norms
abbrev seven : List Float
seven = w 1 ∷ w 2 ∷ w 3 ∷ w 4 ∷ w 5 ∷ w 6 ∷ w 7 ∷ []

-- ---- packing: whatever is held, and none of what a solve leaves; the surplus of both slices stays
abbrev put : State → PutAway
put st = pack_call st store (1 ∷ 0 ∷ 5 ∷ []) (junk 9) (7 ∷ 7 ∷ 7 ∷ [])

abbrev away : State → PutAway
away st = put_away (answered tt) st (seven ++ junk 2) (1 ∷ 0 ∷ 7 ∷ [])

pub packs :
    (put (holding held.Nothing) ≡ away (holding held.Nothing))
    × (put (holding held.Zero) ≡ away (holding held.Zero))
    × (put (holding held.Damped) ≡ away (holding held.Damped))
unfolding opened
packs = (refl, refl, refl)

-- ---- unpacking: held nothing, +0 below R, in l_diag and in work; a NaN behind the last needed double is no 6, junk in the lent order list no 4
pub unpacks :
    unpack_call (holding held.Damped) (seven ++ junk 1) (1 ∷ 0 ∷ []) (junk 13) (9 ∷ 9 ∷ 9 ∷ [])
    ≡ put_away (answered tt) (holding held.Nothing)
    (w 1 ∷ plus_zero ∷ w 2 ∷ w 3 ∷ w 4 ∷ w 5 ∷ w 6 ∷ w 7 ∷ plus_zero ∷ plus_zero ∷ plus_zero ∷ plus_zero ∷ nan ∷ [])
    (1 ∷ 0 ∷ 9 ∷ [])
unfolding opened
unpacks = refl

-- the marks stay
pub marks_stay :
    (pack_call (state 2 2 held.Zero 32768) store (0 ∷ 1 ∷ []) (junk 7) (7 ∷ 7 ∷ []) ≡ put_away (answered tt) (state 2 2 held.Zero 32768) seven (0 ∷ 1 ∷ []))
    × ((unpack_call (state 2 2 held.Zero 32768) seven (0 ∷ 1 ∷ []) (junk 12) (9 ∷ 9 ∷ [])).state ≡ state 2 2 held.Nothing 32768)
unfolding opened
marks_stay = (refl, refl)

-- ---- refusals of packing, each with state, room and places as they were
abbrev try : State → ℕ → List ℕ → ℕ → List ℕ → PutAway
try st k order room places = pack_call st (replicate k (w 1)) order (junk room) places

abbrev no : ℕ → State → ℕ → List ℕ → PutAway
no k st room places = put_away (refused k) st (junk room) places

abbrev two : List ℕ
two = 0 ∷ 1 ∷ []

pub pack_refusals :
    (try (holding held.Empty) 12 two 7 two ≡ no 5 (holding held.Empty) 7 two)
    × (try (state 0 2 held.Zero 0) 12 two 7 two ≡ no 2 (state 0 2 held.Zero 0) 7 two)
    × (try (state 129 2 held.Zero 0) 12 two 7 two ≡ no 2 (state 129 2 held.Zero 0) 7 two)
    × (try (state 2 0 held.Zero 0) 12 two 7 two ≡ no 2 (state 2 0 held.Zero 0) 7 two)
    × (try (state 2 17 held.Zero 0) 12 two 7 two ≡ no 2 (state 2 17 held.Zero 0) 7 two)
    × (try (state 2 2 held.Zero 8192) 12 two 7 two ≡ no 2 (state 2 2 held.Zero 8192) 7 two)
    × (try (holding held.Zero) 11 two 7 two ≡ no 3 (holding held.Zero) 7 two)
    × (try (holding held.Zero) 12 (0 ∷ []) 7 two ≡ no 3 (holding held.Zero) 7 two)
    × (try (holding held.Zero) 12 two 6 two ≡ no 3 (holding held.Zero) 6 two)
    × (try (holding held.Zero) 12 two 7 (0 ∷ []) ≡ no 3 (holding held.Zero) 7 (0 ∷ []))
    × (try (holding held.Zero) 12 (0 ∷ 0 ∷ []) 7 two ≡ no 4 (holding held.Zero) 7 two)
    × (try (state 2 2 held.Zero 32768) 12 (1 ∷ 0 ∷ []) 7 two ≡ no 4 (state 2 2 held.Zero 32768) 7 two)
    × (try (state 2 2 held.Zero 49152) 12 two 7 two ≡ no 9 (state 2 2 held.Zero 49152) 7 two)
unfolding opened
pack_refusals = (refl, refl, refl, refl, refl, refl, refl, refl, refl, refl, refl, refl, refl)

-- ---- and of unpacking, each with state, store and order as they were
abbrev back : State → List Float → List ℕ → ℕ → List ℕ → PutAway
back st room places k order = unpack_call st room places (junk k) order

-- a NaN for the last of the column norms
abbrev spoilt : List Float
spoilt = w 1 ∷ w 2 ∷ w 3 ∷ w 4 ∷ w 5 ∷ w 6 ∷ nan ∷ []

pub unpack_refusals :
    (back (holding held.Empty) seven two 12 two ≡ no 5 (holding held.Empty) 12 two)
    × (back (state 0 2 held.Zero 0) seven two 12 two ≡ no 2 (state 0 2 held.Zero 0) 12 two)
    × (back (state 2 17 held.Zero 0) seven two 12 two ≡ no 2 (state 2 17 held.Zero 0) 12 two)
    × (back (state 2 2 held.Zero 8192) seven two 12 two ≡ no 2 (state 2 2 held.Zero 8192) 12 two)
    × (back (holding held.Zero) seven two 11 two ≡ no 3 (holding held.Zero) 11 two)
    × (back (holding held.Zero) seven two 12 (0 ∷ []) ≡ no 3 (holding held.Zero) 12 (0 ∷ []))
    × (back (holding held.Zero) (w 1 ∷ w 2 ∷ w 3 ∷ w 4 ∷ w 5 ∷ w 6 ∷ []) two 12 two ≡ no 3 (holding held.Zero) 12 two)
    × (back (holding held.Zero) seven (0 ∷ []) 12 two ≡ no 3 (holding held.Zero) 12 two)
    × (back (holding held.Zero) seven (0 ∷ 0 ∷ []) 12 two ≡ no 4 (holding held.Zero) 12 two)
    × (back (holding held.Zero) spoilt two 12 two ≡ no 6 (holding held.Zero) 12 two)
    × (back (state 2 2 held.Zero 49152) spoilt two 12 two ≡ no 6 (state 2 2 held.Zero 49152) 12 two)
    × (back (state 2 2 held.Zero 49152) seven two 12 two ≡ no 9 (state 2 2 held.Zero 49152) 12 two)
unfolding opened
unpack_refusals = (refl, refl, refl, refl, refl, refl, refl, refl, refl, refl, refl, refl)

-- ---- document 01's case H, solved with a diagonal, packed, and unpacked over junk: the zero solve gives (0, 2), and before it nothing is held
abbrev H : MarkedFactored
H = marked_factoring 1 2 0 (w 3 ∷ w 4 ∷ []) (w 8 ∷ []) (junk 12) (7 ∷ 7 ∷ []) (junk 3)

abbrev damped : MarkedEnded (Unit {0})
damped = marked_damped H.state (w 1 ∷ w 1 ∷ []) H.order H.store (junk 2)

abbrev kept : PutAway
kept = pack_call damped.state damped.store H.order (junk 7) (9 ∷ 9 ∷ [])

abbrev again : PutAway
again = unpack_call damped.state kept.numbers kept.places (junk 12) (9 ∷ 9 ∷ [])

pub witness :
    (kept.reply ≡ answered tt)
    × (again.state ≡ H.state)
    × (again.numbers ≡ H.store)
    × (again.places ≡ H.order)
    × ((marked_mul again.state again.numbers (junk 2)).reply ≡ refused 5)
    × ((marked_zero again.state again.places again.numbers (junk 2)).out ≡ plus_zero ∷ w 2 ∷ [])
unfolding opened
witness = (refl, refl, refl, refl, refl, refl)
