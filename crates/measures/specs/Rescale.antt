-- 01, module 6: the scaling call as its callers see it.
use Rattle.std.specs.Prelude.{ℕ, min, Bool, true, false, ◌&&◌, List, [], ◌∷◌, ◌++◌, eqb, length, take, Float}
use Rattle.leaves.specs.Reply.{Reply, answered, refused}
use Rattle.leaves.specs.Norm.{norm, neither, ranges}
use Rattle.leaves.specs.Product.{product_all}
use Rattle.factor.specs.Room.{load, lay, rested}
use Rattle.leaves.specs.Tests.{Test, first_of, all_finite}
use Rattle.factor.specs.Tests.{room_tests, finite_test, finite_number, not_above}
use Rattle.measures.specs.Scaling.{first_scaling, later_scaling, start_by, usable}
use Rattle.factor.specs.Outcome.{Ended, ended, written}
use Rattle.factor.specs.declared.state.State.{State}
use Rattle.measures.specs.declared.scaling.Mode.{Mode}
use Rattle.measures.specs.declared.scaling.Mode.TheVariants as mode
use Rattle.measures.specs.declared.scaling.Start.{Start}
use Rattle.leaves.specs.declared.norm.Ranges.{Ranges}

-- The first call alone gives xnorm and radius. Each answer carries the flags of the norms worked out for it (02, #106): of xnorm, or none.
pub data Scaled : Type 0 where
  first : Start → Ranges → Scaled
  later : Ranges → Scaled

-- The lent scaling holds n in every mode. x and step bound are read by the first call alone, the lent scaling by later scaled mode.
abbrev pub first_tests : State → ℕ → List Float → List Float → Float → List Test
first_tests st store diag x bound =
    room_tests st store (min (length diag) (length x)) ++ (finite_test st x ∷ finite_number bound ∷ (not_above bound, 7) ∷ [])

unfoldable pub scaling_tests : State → Mode → ℕ → List Float → List Float → Float → List Test
scaling_tests st mode.FirstScaled store diag x bound = first_tests st store diag x bound
scaling_tests st mode.FirstUnscaled store diag x bound = first_tests st store diag x bound
scaling_tests st mode.LaterScaled store diag x bound = room_tests st store (length diag) ++ (finite_test st diag ∷ [])
scaling_tests st mode.LaterUnscaled store diag x bound = room_tests st store (length diag)

-- an answer and the lent scaling after it; refused 8 leaves the scaling
abbrev pub or_refused : Bool → Scaled → List Float → List Float → Reply Scaled × List Float
or_refused ok a new old = elim ok [ true ↦ (answered a, new) | false ↦ (refused 8, old) ]

unfoldable pub rescaled : Mode → ℕ → List Float → List Float → List Float → Float → Reply Scaled × List Float
rescaled mode.FirstScaled n norms diag x bound =
    let d = first_scaling norms in
    let t = start_by bound (norm (product_all d (take n x))) in
    or_refused (all_finite d && usable t) (first t (ranges (product_all d (take n x)))) (written d diag) diag
rescaled mode.FirstUnscaled n norms diag x bound =
    let t = start_by bound (norm (take n x)) in
    or_refused (usable t) (first t (ranges (take n x))) diag diag
rescaled mode.LaterScaled n norms diag x bound =
    let d = later_scaling norms (take n diag) in
    or_refused (all_finite d) (later neither) (written d diag) diag
rescaled mode.LaterUnscaled n norms diag x bound = (answered (later neither), diag)

unfoldable pub scaling_call : State → Mode → List Float → List Float → Float → List Float → Ended Scaled
scaling_call st md diag x bound store =
    let c = first_of (scaling_tests st md (length store) diag x bound) in
    let r = load st.n store in
    let a = rescaled md st.n r.norms diag x bound in
    elim (eqb c 0) [ true ↦ ended a.0 st (lay (rested r)) a.1 | false ↦ ended (refused c) st store diag ]
