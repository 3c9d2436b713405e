-- Demand 2 for any m and n: after a factoring, and after any calls since, a search that answers is LMPAR. LMPAR is not told m: where m < n it finds the
-- zero that the factoring left on R's diagonal at place m, and no call since has changed R. Assumes nothing.
use Prim.Native.Nat.{ℕ}
use mathlib.Core.Path.{◌≡◌, sym, subst}
use mathlib.Core.List.{List}
use lib.ListN.{take}
use lib.Ieee.{Float}
use Rattle.leaves.specs.Reply.{answered}
use Rattle.leaves.specs.Number.{dwarf}
use Rattle.leaves.specs.Square.{diagonal}
use Rattle.factor.specs.Room.{load}
use Rattle.factor.specs.Factoring.{Factored, factor_call}
use Rattle.factor.specs.declared.state.State.{State}
use Rattle.search.specs.Search.{search_call}
use Rattle.search.specs.Enorm.{minpack_enorm}
use Rattle.search.specs.Lmpar.{lmpar}
use Rattle.search.specs.Search.{Flagged}
use Rattle.leaves.specs.declared.norm.Ranges.{Ranges}
use Rattle.search.proofs.AgainstEnorm.{enorm_is_norm}
use Rattle.search.proofs.LmparVectors.{Enough}
use Rattle.search.proofs.LmparCalls.{answers_as_lmpar}
use Rattle.search.proofs.LmparFactored.{factored_enough}
use Rattle.demands.specs.Calls.{run}
use Rattle.demands.specs.History.{Call, perform, settling}
use Rattle.demands.proofs.Histories.{run-size, run_rows}
use Rattle.demands.proofs.Laws.{laws}
use Rattle.demands.proofs.AsFresh.{never_changed}
use Rattle.search.specs.Against.{lent_of}
use Rattle.demands.specs.inner.Helds.{is_held}

module _ (m n : ℕ) (jacobian residuals store : List Float) (order : List ℕ) (bench : List Float) where
  abbrev made : Factored
  made = factor_call m n jacobian residuals store order bench

  module _ {f : Ranges} (h : made.reply ≡ answered f) (cs : List Call) where
    abbrev after : State × List Float
    after = run perform made.order cs made.state made.store

    still_enough : Enough after.0.m (diagonal (load after.0.n after.1).upper)
    still_enough =
        let rows = sym (run_rows perform is_held settling laws made.order cs made.state made.store) in
        let size = sym (run-size perform is_held settling laws made.order cs made.state made.store) in
        let kept = sym (never_changed made.order cs made.state made.store).upper in
        subst (λ (i : ℕ). Enough i (diagonal (load after.0.n after.1).upper)) rows
        (subst (λ (i : ℕ). Enough made.state.m (diagonal (load i after.1).upper)) size
        (subst (λ (u : List (List Float)). Enough made.state.m (diagonal u)) kept (factored_enough m n jacobian residuals store order bench h)))

    -- LAW
    pub factored-answers_as_lmpar : (unset : Float) (diag : List Float) (radius lambda : Float) (out : List Float) (a : Flagged)
        → (search_call after.0 made.order diag radius lambda after.1 out).reply ≡ answered a
        → lmpar (minpack_enorm unset) dwarf (lent_of after.0 made.order diag radius after.1) lambda
        ≡ record { x = take after.0.n (search_call after.0 made.order diag radius lambda after.1 out).out; par = a.0.lambda; qrsolvs = a.0.trials }
    factored-answers_as_lmpar unset diag radius lambda out a e =
        answers_as_lmpar after.0 made.order diag radius lambda after.1 out a e (minpack_enorm unset) (enorm_is_norm unset) still_enough
