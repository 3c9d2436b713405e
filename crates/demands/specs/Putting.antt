-- 02, #107: a history in which packings stand among the calls. Packing is a call on a problem and takes a state; unpacking begins a history, as factoring does.
use Rattle.std.specs.Prelude.{ℕ, List, [], ◌∷◌, Float}
use Rattle.leaves.specs.Reply.{Reply}
use Rattle.factor.specs.declared.state.State.{State as Plain}
use Rattle.calls.specs.State.{marked, whole}
use Rattle.packing.specs.Packing.{pack_call}
use Rattle.demands.specs.Calls.{OutcomeOf}
use Rattle.demands.specs.History.{Call, AnyAnswer}
use Rattle.demands.specs.Marked.{perform_under}

-- a call, or a packing into a lent room and lent places
pub data Step : Type 0 where
  call : Call → Step
  pack : (room : List Float) (places : List ℕ) → Step

-- of a packing the room and the places after it stand in its answer
pub data StepAnswer : Type 0 where
  of_call : AnyAnswer → StepAnswer
  packed : Reply (Unit {0}) → (room : List Float) (places : List ℕ) → StepAnswer

-- by a number of marks, on states that know none. Packing only reads the store.
unfoldable pub perform_step : ℕ → Step → Plain → List ℕ → List Float → OutcomeOf StepAnswer
perform_step marks (call c) st order s =
    let o = perform_under marks c st order s in
    record { answer = of_call o.answer; state = o.state; store = o.store; out = o.out }
perform_step marks (pack room places) st order s =
    let p = pack_call (marked marks st) s order room places in
    record { answer = packed p.reply p.numbers p.places; state = whole p.state; store = s; out = [] }

-- the calls of a history, without its packings
unfoldable pub calls_of : List Step → List Call
calls_of [] = []
calls_of (call c ∷ steps) = c ∷ calls_of steps
calls_of (pack room places ∷ steps) = calls_of steps
