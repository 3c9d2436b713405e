-- A search for each refusal number from 2 to 8, searches of 0, 1 and 10 trials, and one history of calls, each computed by the definitions that
-- the contracts cite. The oracle answers each of them the same (`oracle sheets`, `oracle calls`). Assumes nothing.
use Prim.Native.Nat.{ℕ, ◌+◌, ◌*◌, ◌^◌}
use mathlib.Core.Path.{◌≡◌, refl}
use mathlib.Core.Bool.{true, false}
use mathlib.Core.List.{List, [], ◌∷◌}
use lib.IntN.{pos}
use lib.ListN.{replicate, length}
use lib.Ieee.{Float, nan, inf, fin, binary64, round}
use Rattle.leaves.specs.Norm.{neither}
use Rattle.leaves.specs.Reply.{Reply, answered, refused}
use Rattle.leaves.specs.Number.{plus_zero}
use Rattle.factor.specs.State.{empty}
use Rattle.factor.specs.Factoring.{Factored, factor_call}
use Rattle.factor.specs.Outcome.{Ended, ended}
use Rattle.demands.specs.Calls.{zero_solve, damped_solve, held_product, done, run}
use Rattle.factor.specs.declared.state.State.{State}
use Rattle.factor.specs.declared.state.Held.TheVariants as held
use Rattle.search.specs.Search.{Flagged, search_call}
use Rattle.demands.specs.History.{Call, base, Outcome, of_base, perform}
use Rattle.demands.specs.inner.Opened.{opened}

-- a whole number, and 10^-e
abbrev w : ℕ → Float
w n = round binary64 false n 1

abbrev dn : ℕ → Float
dn e = round binary64 false 1 (10 ^ e)

abbrev junk : ℕ → List Float
junk k = replicate k nan

abbrev negative_zero : Float
negative_zero = fin true 0 (pos 0)

-- one row of a Jacobian and one residual
abbrev factored_row : List Float → Float → Factored
factored_row row residual = let n = length row in factor_call 1 n row (residual ∷ []) (junk (n * n + 4 * n)) (replicate n 7) (junk (n + 1))

-- J = (3), r = (6), with a state, an order list, a scaling, a radius, an initial lambda and an output: refused, everything as it came
abbrev six : Factored
six = factored_row (w 3 ∷ []) (w 6)

abbrev asks : State → List ℕ → List Float → Float → Float → List Float → Ended Flagged
asks st order diag radius lambda out = search_call st order diag radius lambda six.store out

abbrev refused_by : ℕ → State → List Float → Ended Flagged
refused_by k st out = ended (refused k) st six.store out

pub refused-two : asks (record { m = 129; n = 1; held = held.Nothing }) six.order (w 1 ∷ []) (w 2) plus_zero (junk 1) ≡ refused_by 2 (record { m = 129; n = 1; held = held.Nothing }) (junk 1)
unfolding opened
refused-two = refl

pub refused_three : asks six.state six.order (w 1 ∷ []) (w 2) plus_zero [] ≡ refused_by 3 six.state []
unfolding opened
refused_three = refl

pub refused_four : asks six.state (1 ∷ []) (w 1 ∷ []) (w 2) plus_zero (junk 1) ≡ refused_by 4 six.state (junk 1)
unfolding opened
refused_four = refl

pub refused_five : asks empty six.order (w 1 ∷ []) (w 2) plus_zero (junk 1) ≡ refused_by 5 empty (junk 1)
unfolding opened
refused_five = refl

pub refused_six :
    (asks six.state six.order (nan ∷ []) (w 2) plus_zero (junk 1) ≡ refused_by 6 six.state (junk 1))
    × (asks six.state six.order (w 1 ∷ []) (inf false) plus_zero (junk 1) ≡ refused_by 6 six.state (junk 1))
    × (asks six.state six.order (w 1 ∷ []) (w 2) nan (junk 1) ≡ refused_by 6 six.state (junk 1))
unfolding opened
refused_six = (refl, refl, refl)

-- a radius of +0 and of −0, an initial lambda below zero, a scaling entry of −0; an initial lambda of −0 is accepted
pub refused_seven :
    (asks six.state six.order (w 1 ∷ []) plus_zero plus_zero (junk 1) ≡ refused_by 7 six.state (junk 1))
    × (asks six.state six.order (w 1 ∷ []) negative_zero plus_zero (junk 1) ≡ refused_by 7 six.state (junk 1))
    × (asks six.state six.order (w 1 ∷ []) (w 2) (round binary64 true 1 1) (junk 1) ≡ refused_by 7 six.state (junk 1))
    × (asks six.state six.order (negative_zero ∷ []) (w 2) plus_zero (junk 1) ≡ refused_by 7 six.state (junk 1))
    × ((asks six.state six.order (w 1 ∷ []) (w 2) negative_zero (junk 1)).reply ≡ answered (record { lambda = plus_zero; dp_norm = w 2; trials = 0 }, neither))
unfolding opened
refused_seven = (refl, refl, refl, refl, refl)

-- J = (10^-320), r = (1): the undamped scaled norm is infinite; held nothing, the output as it came
abbrev tiny : Factored
tiny = factored_row (dn 320 ∷ []) (w 1)

pub refused_eight : search_call tiny.state tiny.order (w 1 ∷ []) (w 1) plus_zero tiny.store (junk 1) ≡ ended (refused 8) (record { m = 1; n = 1; held = held.Nothing }) tiny.store (junk 1)
unfolding opened
refused_eight = refl

-- ---- trials
abbrev trials_of : Reply Flagged → Reply ℕ
trials_of (answered a) = answered a.0.trials
trials_of (refused k) = refused k

abbrev searches : List Float → Float → List Float → Float → Float → Reply ℕ
searches row residual diag radius lambda =
    let f = factored_row row residual in
    trials_of (search_call f.state f.order diag radius lambda f.store (junk (length row))).reply

pub trials_none : searches (w 3 ∷ []) (w 6) (w 1 ∷ []) (w 2) plus_zero ≡ answered 0
unfolding opened
trials_none = refl

pub trials_one : searches (w 1 ∷ []) (w 1) (w 2 ∷ []) (w 1) plus_zero ≡ answered 1
unfolding opened
trials_one = refl

pub trials_ten : searches (w 1 ∷ w 1 ∷ []) (w 4) (w 4 ∷ w 1 ∷ []) (w 1) (dn 320) ≡ answered 10
unfolding opened
trials_ten = refl

-- ---- a history: a zero solve is answered, a damped solve is refused 8, and a held call after it is answered 5
abbrev flat : Factored
flat = factored_row (w 1 ∷ dn 320 ∷ []) (w 1)

abbrev solve_zero : Call
solve_zero = base (zero_solve (junk 2))

abbrev solve_damped : Call
solve_damped = base (damped_solve (w 1 ∷ dn 320 ∷ []) (junk 2))

abbrev product-held : Call
product-held = base (held_product (junk 2))

abbrev after : List Call → Call → Outcome
after cs c = let x = run perform flat.order cs flat.state flat.store in perform c x.0 flat.order x.1

pub history_of_three :
    ((after [] solve_zero).answer ≡ of_base (done (answered tt)))
    × ((after (solve_zero ∷ []) product-held).answer ≡ of_base (done (answered tt)))
    × ((after (solve_zero ∷ []) solve_damped).answer ≡ of_base (done (refused 8)))
    × ((after (solve_zero ∷ solve_damped ∷ []) product-held).answer ≡ of_base (done (refused 5)))
unfolding opened
history_of_three = (refl, refl, refl, refl)
