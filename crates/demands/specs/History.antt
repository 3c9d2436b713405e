-- Demand 3: the public calls that take a state, those of `Calls` and the search, as one type, and what each does by the very definition that its
-- contract cites. The held calls on a store that is only read are tied to the held calls (`proofs/Ties.antt`).
use Rattle.std.specs.Prelude.{ℕ, Bool, true, ◌&&◌, ◌||◌, List, eqb, Float}
use Rattle.leaves.specs.Reply.{Reply}
use Rattle.factor.specs.Outcome.{Ended}
use Rattle.demands.specs.Calls.{OutcomeOf, reply_number}
use Rattle.demands.specs.Calls as basic
use Rattle.factor.specs.declared.state.State.{State}
use Rattle.search.specs.Search.{Flagged, search_call}

pub data Call : Type 0 where
  base : basic.StoreCall → Call
  search : (diag : List Float) (radius lambda : Float) (out : List Float) → Call

-- an answer of any of them
pub data AnyAnswer : Type 0 where
  of_base : basic.StoreAnswer → AnyAnswer
  found : Reply Flagged → AnyAnswer

-- the number that a call is refused by, 0 for an answer
abbrev pub number_of : AnyAnswer → ℕ
number_of (of_base a) = basic.store_number a
number_of (found r) = reply_number r

abbrev pub Outcome : Type 0
Outcome = OutcomeOf AnyAnswer

abbrev pub of_base_outcome : basic.StoreOutcome → Outcome
of_base_outcome o = record { answer = of_base o.answer; state = o.state; store = o.store; out = o.out }

abbrev pub of_search : Ended Flagged → Outcome
of_search e = record { answer = found e.reply; state = e.state; store = e.store; out = e.out }

-- with a state, an order list and a store
unfoldable pub perform : Call → State → List ℕ → List Float → Outcome
perform (base c) st order s = of_base_outcome (basic.perform_store c st order s)
perform (search diag radius lambda out) st order s = of_search (search_call st order diag radius lambda s out)

-- a solve or a search
abbrev pub is_solve : Call → Bool
is_solve (base c) = basic.is_store_solve c
is_solve (search diag radius lambda out) = true

-- that got past the input checks: answered, or refused 8
abbrev pub settling : Call → State → List ℕ → List Float → Bool
settling c st order s = let k = number_of (perform c st order s).answer in is_solve c && (eqb k 0 || eqb k 8)

-- an outcome by its parts
abbrev pub left_as : AnyAnswer → State → List Float → List Float → Outcome
left_as a st s o = record { answer = a; state = st; store = s; out = o }
