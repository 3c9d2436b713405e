-- 02, #107: refusals of packing and of unpacking, as a table; and packings among the calls of a history. Assumes nothing.
use Prim.Native.Nat.{ℕ}
use mathlib.Core.Path.{◌≡◌, refl, ap, ◌∙◌}
use mathlib.Core.Bool.{Bool, true, false}
use mathlib.Core.List.{List, [], ◌∷◌}
use lib.Dec.{eqb}
use lib.ListN.{length}
use lib.Ieee.{Float}
use Rattle.leaves.specs.Reply.{Reply}
use Rattle.leaves.specs.Tests.{first_of}
use Rattle.factor.specs.declared.state.State.{State as Plain}
use Rattle.calls.specs.declared.state.State.{State}
use Rattle.calls.specs.State.{marked, whole}
use Rattle.packing.specs.Packing.{PutAway, put_away, pack_tests, pack_call, unpack_tests, unpack_call}
use Rattle.demands.specs.Calls.{run}
use Rattle.demands.specs.Marked.{perform_under}
use Rattle.demands.specs.Putting.{Step, call, pack, perform_step, calls_of}
use Rattle.demands.specs.Workings.{ByTests}
use Rattle.demands.proofs.WorkingTable.{by_tests}

-- LAW: refused by its tests, the state and every slice as they came; answered where none holds
pub pack_by_tests : (st : State) (store : List Float) (order : List ℕ) (room : List Float) (places : List ℕ)
    → ByTests (pack_tests st (length store) order (length room) (length places)) (λ (o : PutAway). o.reply) (λ (a : Reply (Unit {0})). put_away a st room places) (pack_call st store order room places)
unfolding pack_call
pack_by_tests st store order room places = by_tests (pack_tests st (length store) order (length room) (length places)) (λ (o : PutAway). o.reply) (λ (a : Reply (Unit {0})). put_away a st room places) _ refl (λ r. refl) refl

pub unpack_by_tests : (st : State) (room : List Float) (places : List ℕ) (store : List Float) (order : List ℕ)
    → ByTests (unpack_tests st room places (length store) (length order)) (λ (o : PutAway). o.reply) (λ (a : Reply (Unit {0})). put_away a st store order) (unpack_call st room places store order)
unfolding unpack_call
unpack_by_tests st room places store order = by_tests (unpack_tests st room places (length store) (length order)) (λ (o : PutAway). o.reply) (λ (a : Reply (Unit {0})). put_away a st store order) _ refl (λ r. refl) refl

-- LAW: whatever it answers, the state is as it came
pub pack_keeps : (st : State) (store : List Float) (order : List ℕ) (room : List Float) (places : List ℕ) → (pack_call st store order room places).state ≡ st
unfolding pack_call
pack_keeps st store order room places = by (eqb (first_of (pack_tests st (length store) order (length room) (length places))) 0) _ _ refl refl
  where
    by : (b : Bool) (x y : PutAway) → x.state ≡ st → y.state ≡ st → (let z : PutAway = elim b [ true ↦ x | false ↦ y ] in z.state ≡ st)
    by true x y p q = p
    by false x y p q = q

pub pack_changes_nothing : (marks : ℕ) (st : Plain) (order : List ℕ) (store : List Float) (room : List Float) (places : List ℕ)
    → ((perform_step marks (pack room places) st order store).state ≡ st) × ((perform_step marks (pack room places) st order store).store ≡ store)
unfolding perform_step
pack_changes_nothing marks st order store room places = (ap whole (pack_keeps (marked marks st) store order room places), refl)

-- LAW: a run leaves what its calls leave
pub packings_pass : (marks : ℕ) (order : List ℕ) (steps : List Step) (st : Plain) (s : List Float) → run (perform_step marks) order steps st s ≡ run (perform_under marks) order (calls_of steps) st s
unfolding run perform_step calls_of
packings_pass marks order [] st s = refl
packings_pass marks order (call c ∷ steps) st s = packings_pass marks order steps (perform_under marks c st order s).state (perform_under marks c st order s).store
packings_pass marks order (pack room places ∷ steps) st s =
    ap (λ (q : State). run (perform_step marks) order steps (whole q) s) (pack_keeps (marked marks st) s order room places) ∙ packings_pass marks order steps st s
