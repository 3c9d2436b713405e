-- A first scaling never answers as a later one does, so that call 2 always has a radius. Assumes nothing.
use Prim.Native.Nat.{ℕ}
use mathlib.Core.Path.{◌≡◌, refl}
use mathlib.Core.Bool.{Bool, true, false, ◌&&◌}
use mathlib.Core.List.{List}
use native.Mathlib.Omega.{arith}
use lib.Dec.{eqb}
use lib.ListN.{length, take}
use lib.Ieee.{Float}
use Rattle.leaves.specs.Reply.{answered, refused}
use Rattle.leaves.specs.Norm.{norm, ranges}
use Rattle.leaves.specs.declared.norm.Ranges.{Ranges}
use Rattle.leaves.specs.Product.{product_all}
use Rattle.factor.specs.Room.{load, lay, rested}
use Rattle.measures.specs.Scaling.{first_scaling, start_by, usable}
use Rattle.leaves.specs.Tests.{first_of, all_finite}
use Rattle.factor.specs.Outcome.{Ended, ended, written}
use Rattle.measures.specs.Rescale.{Scaled, first, later, or_refused, scaling_tests, rescaled, scaling_call}
use Rattle.factor.specs.declared.state.State.{State}
use Rattle.measures.specs.declared.scaling.Start.{Start}
use Rattle.measures.specs.declared.scaling.Mode.TheVariants as mode

never : {f : Ranges} (b : Bool) (t : Start) (g : Ranges) (new old : List Float) → (or_refused b (first t g) new old).0 ≡ answered (later f) → ⊥
never true t g new old e = let z : ◌≡◌ {A = ℕ} 0 1 = cc in omega arith
never false t g new old e = let z : ◌≡◌ {A = ℕ} 0 1 = cc in omega arith

by_tests : {f : Ranges} (b : Bool) (x y : Ended Scaled) (k : ℕ) → y.reply ≡ refused k → (let u : Ended Scaled = elim b [ true ↦ x | false ↦ y ] in u.reply ≡ answered (later f)) → x.reply ≡ answered (later f)
by_tests true x y k r e = e
by_tests false x y k r e = absurd (let z : ◌≡◌ {A = ℕ} 0 1 = cc in omega arith)

rescaled_never : {f : Ranges} (n : ℕ) (norms diag x : List Float) (bound : Float) → (rescaled mode.FirstScaled n norms diag x bound).0 ≡ answered (later f) → ⊥
unfolding rescaled
rescaled_never n norms diag x bound e =
    let d = first_scaling norms in
    let t = start_by bound (norm (product_all d (take n x))) in
    never (all_finite d && usable t) t (ranges (product_all d (take n x))) (written d diag) diag e

pub starts : {f : Ranges} (st : State) (diag x : List Float) (bound : Float) (store : List Float) → (scaling_call st mode.FirstScaled diag x bound store).reply ≡ answered (later f) → ⊥
unfolding scaling_call
starts st diag x bound store e =
    let c = first_of (scaling_tests st mode.FirstScaled (length store) diag x bound) in
    let r = load st.n store in
    let a = rescaled mode.FirstScaled st.n r.norms diag x bound in
    rescaled_never st.n r.norms diag x bound (by_tests (eqb c 0) (ended a.0 st (lay (rested r)) a.1) (ended (refused c) st store diag) c refl e)
