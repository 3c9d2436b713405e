-- The three demands for packing and unpacking (02, #107), as theorems. Read from top to bottom; each theorem is proved in the file that it cites.
--
-- They are over the definitions that the contracts of `packing` cite: `pack_call` and `unpack_call` are what the two calls leave, `pack_tests` and `unpack_tests` are their
-- tests. Both take a state with marks, and keep them; `marked marks (state_of m n k)` is a state of a problem of m rows and n columns with these marks that holds k:
-- the one that its factoring handed back, or any that a later call did (`demand_3_frozen_kept`). `perform_step` performs a call of a history or a packing in it
-- (`specs/Putting.antt`). Neither call works a number out, so demand 2 asks nothing of them; of the calls after an unpacking it speaks as after a factoring.
--
-- Assumes nothing.
use Prim.Native.Nat.{ℕ, ◌<◌, ◌≤◌}
use mathlib.Core.Path.{◌≡◌}
use mathlib.Core.Bool.{false}
use mathlib.Core.List.{List, [], ◌++◌}
use mathlib.Core.Logic.{◌↔◌}
use lib.ListN.{length, take, drop}
use lib.Ieee.{Float}
use Rattle.leaves.specs.Refusing.{NoneHold, RefusedBy}
use Rattle.leaves.specs.Reply.{answered, refused}
use Rattle.leaves.specs.declared.norm.Ranges.{Ranges}
use Rattle.factor.specs.AsFactored.{AsFactored}
use Rattle.factor.specs.Room.{load}
use Rattle.factor.specs.State.{is_empty, state_of, store_need}
use Rattle.factor.specs.declared.state.Held.{Held}
use Rattle.factor.specs.declared.state.State.{State as Plain}
use Rattle.calls.specs.declared.state.State.{State}
use Rattle.calls.specs.State.{marked_held, marked, whole}
use Rattle.calls.specs.Factoring.{MarkedFactored, marked_factoring}
use Rattle.packing.specs.Packing.{pack_need, PutAway, put_away, first_places, pack_tests, pack_call, unpack_tests, unpack_call}
use Rattle.packing.proofs.Packed.{pack-unpack-same}
use Rattle.demands.specs.Alike.{ToldAlike}
use Rattle.demands.specs.Calls.{run, latest, reply_number}
use Rattle.demands.specs.History.{Call}
use Rattle.demands.specs.Marked.{perform_under, settling_under}
use Rattle.demands.specs.Putting.{Step, pack, perform_step, calls_of}
use Rattle.demands.proofs.Packings.{pack_by_tests, unpack_by_tests, pack_keeps, pack_changes_nothing, packings_pass}
use Rattle.demands.proofs.Unpackings.{unpacked_answered, unpacked_as_fresh, unpacked_as_factored, unpacked_same-run, unpacked_any}

-- ==== Demand 1. "2, 3, 4 and 5 as in 01, and 6 for a non-finite number in the packed room; both rooms unchanged"; and #108's 9.

-- Packing is refused k exactly when k's condition is the first that holds ..
module _ (st : State) (store : List Float) (order : List ℕ) (room : List Float) (places : List ℕ) where
  pub demand_1_pack_refused : (k : ℕ) → 0 < k → (reply_number (pack_call st store order room places).reply ≡ k) ↔ RefusedBy (pack_tests st (length store) order (length room) (length places)) k
  demand_1_pack_refused = (pack_by_tests st store order room places).refused_when

  -- .. and then the packed room, its places and the state are as they came; the store and the order list it only reads; ..
  pub demand_1_pack_unchanged : (k : ℕ) → 0 < k → RefusedBy (pack_tests st (length store) order (length room) (length places)) k → pack_call st store order room places ≡ put_away (refused k) st room places
  demand_1_pack_unchanged = (pack_by_tests st store order room places).as_it_came

  -- .. and otherwise it is answered.
  pub demand_1_pack_answered : (reply_number (pack_call st store order room places).reply ≡ 0) ↔ NoneHold (pack_tests st (length store) order (length room) (length places))
  demand_1_pack_answered = (pack_by_tests st store order room places).answered_when

-- Unpacking the same, the store, the order list and the state as they came; the packed room and its places it only reads.
module _ (st : State) (room : List Float) (places : List ℕ) (store : List Float) (order : List ℕ) where
  pub demand_1_unpack_refused : (k : ℕ) → 0 < k → (reply_number (unpack_call st room places store order).reply ≡ k) ↔ RefusedBy (unpack_tests st room places (length store) (length order)) k
  demand_1_unpack_refused = (unpack_by_tests st room places store order).refused_when

  pub demand_1_unpack_unchanged : (k : ℕ) → 0 < k → RefusedBy (unpack_tests st room places (length store) (length order)) k → unpack_call st room places store order ≡ put_away (refused k) st store order
  demand_1_unpack_unchanged = (unpack_by_tests st room places store order).as_it_came

  pub demand_1_unpack_answered : (reply_number (unpack_call st room places store order).reply ≡ 0) ↔ NoneHold (unpack_tests st room places (length store) (length order))
  demand_1_unpack_answered = (unpack_by_tests st room places store order).answered_when

-- ==== Demand 3. Packings among the calls of a history.

-- "Packing only reads the store": whatever it answers, the state is as it came, and as a step of a history the store too, work with it.
pub demand_3_pack_kept : (st : State) (store : List Float) (order : List ℕ) (room : List Float) (places : List ℕ) → (pack_call st store order room places).state ≡ st
demand_3_pack_kept = pack_keeps

pub demand_3_pack_changes_nothing : (marks : ℕ) (st : Plain) (order : List ℕ) (store room : List Float) (places : List ℕ)
    → ((perform_step marks (pack room places) st order store).state ≡ st) × ((perform_step marks (pack room places) st order store).store ≡ store)
demand_3_pack_changes_nothing = pack_changes_nothing

-- So a run with packings in it leaves what its calls leave, and the theorems of `proofs/FrozenDemands.antt` on runs of calls speak of it.
pub demand_3_packings : (marks : ℕ) (order : List ℕ) (steps : List Step) (st : Plain) (store : List Float) → run (perform_step marks) order steps st store ≡ run (perform_under marks) order (calls_of steps) st store
demand_3_packings = packings_pass

-- ==== ".. for demand 3 an unpacking that is not refused is the next factoring, of the packed problem's Jacobian and residuals."

-- A factoring answered, any run of calls, a packing answered into any room and places, with a state of that problem that holds k; then an unpacking of what packing
-- wrote, with a state of that problem that holds j, into any store of enough numbers and any order list of enough places.
module _ (m n marks : ℕ) (jacobian residuals store : List Float) (order : List ℕ) (bench : List Float) (cs : List Call) (k : Held) (room : List Float) (places : List ℕ) (j : Held) (lent : List Float) (list : List ℕ) where
  abbrev one : MarkedFactored
  one = marked_factoring m n marks jacobian residuals store order bench

  abbrev away : PutAway
  away = pack_call (marked marks (state_of m n k)) (run (perform_under marks) one.order cs (whole one.state) one.store).1 one.order room places

  abbrev back : PutAway
  back = unpack_call (marked marks (state_of m n j)) away.numbers away.places lent list

  -- It is answered ..
  pub demand_3_unpacked_answered : {f : Ranges} → one.reply ≡ answered f → away.reply ≡ answered tt → is_empty j ≡ false → store_need n ≤ length lent → n ≤ length list → back.reply ≡ answered tt
  demand_3_unpacked_answered a p = unpacked_answered m n marks jacobian residuals store order bench cs k room places a p j lent list

  -- .. and "every call on the unpacked problem answers as on the problem that was packed, with no solve held": after any run of calls from there a call tells what it
  -- tells after a fresh factoring of the same Jacobian and residuals with the same marks, in any other lent slices, and the latest of the run that settled.
  pub demand_3_unpacked : {f : Ranges} → one.reply ≡ answered f → away.reply ≡ answered tt → is_empty j ≡ false → store_need n ≤ length lent → n ≤ length list
      → (store' : List Float) (order' : List ℕ) (bench' : List Float) {g : Ranges}
      → (let other = marked_factoring m n marks jacobian residuals store' order' bench' in
      other.reply ≡ answered g → (ds : List Call) (c : Call)
      → (let y = run (perform_under marks) back.places ds (whole back.state) back.numbers in
      let z = run (perform_under marks) other.order (latest (perform_under marks) back.places (settling_under marks) [] ds (whole back.state) back.numbers) (whole other.state) other.store in
      ToldAlike (perform_under marks c y.0 back.places y.1) (perform_under marks c z.0 other.order z.1)))
  demand_3_unpacked a p = unpacked_as_fresh m n marks jacobian residuals store order bench cs k room places a p j lent list

-- ==== "For any other room or state there is no fresh working to compare with; the rest of demand 3 holds there too."

-- Two unpackings of one room and its places with one state, whatever room and state, each into its own lent slices: after a run of calls after the one, and after the
-- other the same run, or the latest of it that settled, any call tells the same. (R never changes: `demand_3_frozen_never_changed`, of any store.)
module _ (st : State) (room : List Float) (places : List ℕ) (store store' : List Float) (order order' : List ℕ) where
  abbrev first : PutAway
  first = unpack_call st room places store order

  abbrev second : PutAway
  second = unpack_call st room places store' order'

  pub demand_3_unpacked_any_run : first.reply ≡ answered tt → second.reply ≡ answered tt → (cs : List Call) (c : Call)
      → (let x = run (perform_under st.marks) first.places cs (whole first.state) first.numbers in
      let y = run (perform_under st.marks) second.places cs (whole second.state) second.numbers in
      ToldAlike (perform_under st.marks c x.0 first.places x.1) (perform_under st.marks c y.0 second.places y.1))
  demand_3_unpacked_any_run = unpacked_same-run st room places store store' order order'

  pub demand_3_unpacked_any : first.reply ≡ answered tt → second.reply ≡ answered tt → (cs : List Call) (c : Call)
      → (let x = run (perform_under st.marks) first.places cs (whole first.state) first.numbers in
      let y = run (perform_under st.marks) second.places (latest (perform_under st.marks) first.places (settling_under st.marks) [] cs (whole first.state) first.numbers) (whole second.state) second.numbers in
      ToldAlike (perform_under st.marks c x.0 first.places x.1) (perform_under st.marks c y.0 second.places y.1))
  demand_3_unpacked_any = unpacked_any st room places store store' order order'

-- What any answered unpacking leaves.
module _ (st : State) (room : List Float) (places : List ℕ) (store : List Float) (order : List ℕ) where
  -- "leaves the store as after factoring"
  pub demand_3_unpacked_as_factored : (unpack_call st room places store order).reply ≡ answered tt → AsFactored st.n (load st.n (unpack_call st room places store order).numbers)
  demand_3_unpacked_as_factored = unpacked_as_factored st room places store order

  -- Packing what was unpacked gives the same doubles and places, in any room and places that are long enough.
  pub demand_3_pack_unpack : (unpack_call st room places store order).reply ≡ answered tt → (k : Held) (room' : List Float) (places' : List ℕ) → is_empty k ≡ false → pack_need st.n ≤ length room' → st.n ≤ length places'
      → (let back = unpack_call st room places store order in
      pack_call (marked_held st k) back.numbers back.places room' places'
      ≡ put_away (answered tt) (marked_held st k) (take (pack_need st.n) room ++ drop (pack_need st.n) room') (first_places st.n places places'))
  demand_3_pack_unpack = pack-unpack-same st room places store order
