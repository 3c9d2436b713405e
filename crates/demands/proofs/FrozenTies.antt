-- What the code of each public call with marks, a reader's too, of factoring with marks, of packing and of unpacking may leave, by its own contract (`Post` is what
-- the source's `ensures` says), is what `perform_marked` gives, `marked_factoring`, `perform_step` or `unpack_call`: so the theorems on these are theorems on the code.
-- Assumes nothing.
use Prim.Native.Nat.{ℕ}
use mathlib.Core.Path.{◌≡◌, ap}
use mathlib.Core.Bool.{Bool}
use mathlib.Core.List.{List, []}
use lib.Ieee.{Float}
use seplogic.Ra.Ura.{Ura}
use package.base.Logic.{SProp, ent}
use prog.Memory.{Memory}
use prog.Routine.{Routine}
use types.Logic.{Logic}
use contract.Lifetimes.{Lfts}
use contract.Monad.{Fun, fact, fact_mono}
use borrow.Fn.World.{ArgsD}
use denote.Triple.Entry.{Args}
use borrow.Fn.Kinds.{ended_of}
use denote.Triple.Clauses.{AtExit}
use Rattle.std.specs.Prelude.{Result}
use Rattle.calls.specs.declared.state.State.{State}
use Rattle.leaves.specs.declared.reply.Told.{Told}
use Rattle.leaves.specs.declared.norm.Normed.{Normed}
use Rattle.search.specs.declared.LMParameter.{LMParameter}
use Rattle.measures.specs.declared.scaling.Scaling.{Scaling}
use Rattle.leaves.specs.declared.reply.Refusal.{Refusal}
use Rattle.leaves.specs.Reply.{reply_of, measured_of}
use Rattle.leaves.specs.declared.norm.Ranges.{Ranges}
use Rattle.factor.specs.Outcome.{Read}
use Rattle.measures.specs.Answers.{scaling_of}
use Rattle.measures.specs.Rescale.{Scaled}
use Rattle.search.specs.Search.{Flagged}
use Rattle.calls.specs.Outcome as calls
use Rattle.calls.specs.State.{whole}
use Rattle.calls.specs.Factoring.{marked_factored, marked_factoring}
use Rattle.calls.specs.contracts.pivoted_qr.pivoted_qr.{signature as pivoted-qr-signature}
use Rattle.calls.proofs.pivoted_qr.pivoted_qr.Reads as pivoted-qr
use Rattle.calls.proofs.pivoted_qr.pivoted_qr.Kinds as pivoted-qr-kinds
use Rattle.calls.specs.contracts.least_squares.solve_with_zero_diagonal.{signature as solve-with-zero-diagonal-signature}
use Rattle.calls.proofs.least_squares.solve_with_zero_diagonal.Reads as solve-with-zero-diagonal
use Rattle.calls.proofs.least_squares.solve_with_zero_diagonal.Kinds as solve-with-zero-diagonal-kinds
use Rattle.calls.specs.contracts.least_squares.solve_with_diagonal.{signature as solve-with-diagonal-signature}
use Rattle.calls.proofs.least_squares.solve_with_diagonal.Reads as solve-with-diagonal
use Rattle.calls.proofs.least_squares.solve_with_diagonal.Kinds as solve-with-diagonal-kinds
use Rattle.calls.specs.contracts.cholesky.solve.{signature as solve-signature}
use Rattle.calls.proofs.cholesky.solve.Reads as solve
use Rattle.calls.proofs.cholesky.solve.Kinds as solve-kinds
use Rattle.calls.specs.contracts.cholesky.mul_qt_b.{signature as mul-qt-b-signature}
use Rattle.calls.proofs.cholesky.mul_qt_b.Reads as mul-qt-b
use Rattle.calls.proofs.cholesky.mul_qt_b.Kinds as mul-qt-b-kinds
use Rattle.calls.specs.contracts.cholesky.solve_read.{signature as solve-read-signature}
use Rattle.calls.proofs.cholesky.solve_read.Reads as solve-read
use Rattle.calls.proofs.cholesky.solve_read.Kinds as solve-read-kinds
use Rattle.calls.specs.contracts.cholesky.mul_read.{signature as mul-read-signature}
use Rattle.calls.proofs.cholesky.mul_read.Reads as mul-read
use Rattle.calls.proofs.cholesky.mul_read.Kinds as mul-read-kinds
use Rattle.calls.specs.contracts.measure.max_a_t_b_scaled.{signature as max-a-t-b-scaled-signature}
use Rattle.calls.proofs.measure.max_a_t_b_scaled.Reads as max-a-t-b-scaled
use Rattle.calls.proofs.measure.max_a_t_b_scaled.Kinds as max-a-t-b-scaled-kinds
use Rattle.calls.specs.contracts.above.above_limit.{signature as above-limit-signature}
use Rattle.calls.proofs.above.above_limit.Reads as above-limit
use Rattle.calls.proofs.above.above_limit.Kinds as above-limit-kinds
use Rattle.calls.specs.contracts.measure.a_x_norm.{signature as a-x-norm-signature}
use Rattle.calls.proofs.measure.a_x_norm.Reads as a-x-norm
use Rattle.calls.proofs.measure.a_x_norm.Kinds as a-x-norm-kinds
use Rattle.calls.specs.contracts.update_diag.update_diag.{signature as update-diag-signature}
use Rattle.calls.proofs.update_diag.update_diag.Reads as update-diag
use Rattle.calls.proofs.update_diag.update_diag.Kinds as update-diag-kinds
use Rattle.calls.specs.contracts.measure.determined.{signature as determined-signature}
use Rattle.calls.proofs.measure.determined.Reads as determined
use Rattle.calls.proofs.measure.determined.Kinds as determined-kinds
use Rattle.calls.specs.contracts.measure.is_non_singular.{signature as is-non-singular-signature}
use Rattle.calls.proofs.measure.is_non_singular.Reads as is-non-singular
use Rattle.calls.proofs.measure.is_non_singular.Kinds as is-non-singular-kinds
use Rattle.calls.specs.contracts.trust_region.determine_lambda_and_parameter_update.{signature as search-signature}
use Rattle.calls.proofs.trust_region.determine_lambda_and_parameter_update.Reads as search-code
use Rattle.calls.proofs.trust_region.determine_lambda_and_parameter_update.Kinds as search-kinds
use Rattle.reader.specs.contracts.reader.solve_plain.{signature as reader-solve-plain-signature}
use Rattle.reader.proofs.reader.solve_plain.Reads as reader-solve-plain
use Rattle.reader.proofs.reader.solve_plain.Kinds as reader-solve-plain-kinds
use Rattle.reader.specs.contracts.reader.mul_plain.{signature as reader-mul-plain-signature}
use Rattle.reader.proofs.reader.mul_plain.Reads as reader-mul-plain
use Rattle.reader.proofs.reader.mul_plain.Kinds as reader-mul-plain-kinds
use Rattle.reader.specs.contracts.reader.new as reader-new
use Rattle.reader.specs.contracts.reader.solve as reader-solve
use Rattle.reader.specs.contracts.reader.mul_qt_b as reader-mul-qt-b
use Rattle.reader.proofs.OneReader.{Says-new, Says-solve, Says-mul-qt-b}
use Rattle.reader.specs.declared.reader.CholeskyFactor.{CholeskyFactor}
use Rattle.packing.specs.Packing.{PutAway, put_away, pack_call, unpack_call}
use Rattle.packing.specs.contracts.pack.pack.{signature as pack-signature}
use Rattle.packing.proofs.pack.pack.Reads as pack-code
use Rattle.packing.proofs.pack.pack.Kinds as pack-kinds
use Rattle.packing.specs.contracts.unpack.unpack.{signature as unpack-signature}
use Rattle.packing.proofs.unpack.unpack.Reads as unpack-code
use Rattle.packing.proofs.unpack.unpack.Kinds as unpack-kinds
use Rattle.demands.specs.Calls as basic
use Rattle.demands.specs.History.{base, search, AnyAnswer, of_base, found}
use Rattle.demands.specs.Marked.{MarkedOutcome, outcome_of, of_marked_ended, of_marked_told, perform_marked}
use Rattle.demands.specs.Putting.{StepAnswer, pack, packed, perform_step}

pub calls_solve_with_zero_diagonal_is : (κs : Lfts 3) (a : ArgsD solve-with-zero-diagonal-signature κs) (r : Told (Unit {0}) State) (s : AtExit (ended_of 3 solve-with-zero-diagonal-kinds.ps solve-with-zero-diagonal-kinds.r) κs) → solve-with-zero-diagonal.Post κs a r s
    → outcome_of (of_base (basic.done (reply_of r.answer))) r.state s.1.0.now s.1.1.1.0.now ≡ perform_marked (base (basic.zero_solve (a.1.1.1.0.now))) (a.0) (a.1.1.0.now) (a.1.0.now)
unfolding perform_marked
calls_solve_with_zero_diagonal_is κs a r s p = ap (λ (e : calls.MarkedEnded (Unit {0})). of_marked_ended (λ r. of_base (basic.done r)) e) p

pub calls_solve_with_diagonal_is : (κs : Lfts 4) (a : ArgsD solve-with-diagonal-signature κs) (r : Told (Unit {0}) State) (s : AtExit (ended_of 4 solve-with-diagonal-kinds.ps solve-with-diagonal-kinds.r) κs) → solve-with-diagonal.Post κs a r s
    → outcome_of (of_base (basic.done (reply_of r.answer))) r.state s.1.0.now s.1.1.1.1.0.now ≡ perform_marked (base (basic.damped_solve (a.1.1.1.0.now) (a.1.1.1.1.0.now))) (a.0) (a.1.1.0.now) (a.1.0.now)
unfolding perform_marked
calls_solve_with_diagonal_is κs a r s p = ap (λ (e : calls.MarkedEnded (Unit {0})). of_marked_ended (λ r. of_base (basic.done r)) e) p

pub calls_solve_is : (κs : Lfts 4) (a : ArgsD solve-signature κs) (r : Told (Unit {0}) State) (s : AtExit (ended_of 4 solve-kinds.ps solve-kinds.r) κs) → solve.Post κs a r s
    → outcome_of (of_base (basic.done (reply_of r.answer))) r.state s.1.0.now s.1.1.1.1.0.now ≡ perform_marked (base (basic.held_solve (a.1.1.1.0.now) (a.1.1.1.1.0.now))) (a.0) (a.1.1.0.now) (a.1.0.now)
unfolding perform_marked
calls_solve_is κs a r s p = ap (λ (e : calls.MarkedEnded (Unit {0})). of_marked_ended (λ r. of_base (basic.done r)) e) p

pub calls_mul_qt_b_is : (κs : Lfts 2) (a : ArgsD mul-qt-b-signature κs) (r : Told (Unit {0}) State) (s : AtExit (ended_of 2 mul-qt-b-kinds.ps mul-qt-b-kinds.r) κs) (order : List ℕ) → mul-qt-b.Post κs a r s
    → outcome_of (of_base (basic.done (reply_of r.answer))) r.state s.1.0.now s.1.1.0.now ≡ perform_marked (base (basic.held_product (a.1.1.0.now))) (a.0) order (a.1.0.now)
unfolding perform_marked
calls_mul_qt_b_is κs a r s order p = ap (λ (e : calls.MarkedEnded (Unit {0})). of_marked_ended (λ r. of_base (basic.done r)) e) p

-- ---- the held calls on a store that is only read: answer and output of the same call
abbrev pub shown : MarkedOutcome → AnyAnswer × List Float
shown o = (o.answer, o.out)

abbrev pub shown_by : Read → AnyAnswer × List Float
shown_by e = (of_base (basic.done e.reply), e.out)

pub calls_solve_read_is : (κs : Lfts 4) (a : ArgsD solve-read-signature κs) (r : Result (Unit {0}) Refusal) (s : AtExit (ended_of 4 solve-read-kinds.ps solve-read-kinds.r) κs) → solve-read.Post κs a r s
    → (of_base (basic.done (reply_of r)), s.1.1.1.1.0.now) ≡ shown (perform_marked (base (basic.held_solve (a.1.1.1.0.now) (a.1.1.1.1.0.now))) (a.0) (a.1.1.0.now) (a.1.0.now))
unfolding perform_marked
calls_solve_read_is κs a r s p = ap shown_by p

pub calls_mul_read_is : (κs : Lfts 2) (a : ArgsD mul-read-signature κs) (r : Result (Unit {0}) Refusal) (s : AtExit (ended_of 2 mul-read-kinds.ps mul-read-kinds.r) κs) (order : List ℕ) → mul-read.Post κs a r s
    → (of_base (basic.done (reply_of r)), s.1.1.0.now) ≡ shown (perform_marked (base (basic.held_product (a.1.1.0.now))) (a.0) order (a.1.0.now))
unfolding perform_marked
calls_mul_read_is κs a r s order p = ap shown_by p

-- and through a reader: it is made from a slice and a state, and asks that state
pub reader_new_is : (κs : Lfts 1) (a : Args reader-new.signature κs) (r : CholeskyFactor) (s : AtExit reader-new.ended κs) → Says-new κs a r s
    → (r.square ≡ a.0) × (r.state ≡ a.1.0)
reader_new_is κs a r s p = (ap (λ (f : CholeskyFactor). f.square) p, ap (λ (f : CholeskyFactor). f.state) p)

pub reader_solve_is : (κs : Lfts 4) (a : Args reader-solve.signature κs) (r : Result (Unit {0}) Refusal) (s : AtExit reader-solve.ended κs) → Says-solve κs a r s
    → (of_base (basic.done (reply_of r)), s.1.1.1.0.now) ≡ shown (perform_marked (base (basic.held_solve (a.1.1.0.now) (a.1.1.1.0.now))) (a.0.state) (a.1.0.now) (a.0.square.now))
unfolding perform_marked
reader_solve_is κs a r s p = ap shown_by p

pub reader_mul_qt_b_is : (κs : Lfts 2) (a : Args reader-mul-qt-b.signature κs) (r : Result (Unit {0}) Refusal) (s : AtExit reader-mul-qt-b.ended κs) (order : List ℕ) → Says-mul-qt-b κs a r s
    → (of_base (basic.done (reply_of r)), s.1.0.now) ≡ shown (perform_marked (base (basic.held_product (a.1.0.now))) (a.0.state) order (a.0.square.now))
unfolding perform_marked
reader_mul_qt_b_is κs a r s order p = ap shown_by p

-- Of these three the clauses themselves are read, in place of a `Post` (`Says-NAME` is read off them: `NAME_is_the_clause` in `OneReader`): in every
-- model what the source's `ensures` says entails the same.
module _ {M : Type 1} {𝓤 : Ura M} (𝓛 : Logic 𝓤) (mem : Memory → SProp 𝓤) (run : Routine → Fun 𝓤) where
  pub reader_new_ensures : (κs : Lfts 1) (a : Args reader-new.signature κs) (r : CholeskyFactor) (s : AtExit reader-new.ended κs)
      → ent 𝓤 ((reader-new.clauses 𝓛 mem run κs a).ensures tt r s) (fact 𝓤 ((r.square ≡ a.0) × (r.state ≡ a.1.0)))
  reader_new_ensures κs a r s = fact_mono 𝓤 (Says-new κs a r s) _ (reader_new_is κs a r s)

  pub reader_solve_ensures : (κs : Lfts 4) (a : Args reader-solve.signature κs) (r : Result (Unit {0}) Refusal) (s : AtExit reader-solve.ended κs)
      → ent 𝓤 ((reader-solve.clauses 𝓛 mem run κs a).ensures tt r s)
      (fact 𝓤 ((of_base (basic.done (reply_of r)), s.1.1.1.0.now) ≡ shown (perform_marked (base (basic.held_solve (a.1.1.0.now) (a.1.1.1.0.now))) (a.0.state) (a.1.0.now) (a.0.square.now))))
  reader_solve_ensures κs a r s = fact_mono 𝓤 (Says-solve κs a r s) _ (reader_solve_is κs a r s)

  pub reader_mul_qt_b_ensures : (κs : Lfts 2) (a : Args reader-mul-qt-b.signature κs) (r : Result (Unit {0}) Refusal) (s : AtExit reader-mul-qt-b.ended κs) (order : List ℕ)
      → ent 𝓤 ((reader-mul-qt-b.clauses 𝓛 mem run κs a).ensures tt r s)
      (fact 𝓤 ((of_base (basic.done (reply_of r)), s.1.0.now) ≡ shown (perform_marked (base (basic.held_product (a.1.0.now))) (a.0.state) order (a.0.square.now))))
  reader_mul_qt_b_ensures κs a r s order = fact_mono 𝓤 (Says-mul-qt-b κs a r s) _ (reader_mul_qt_b_is κs a r s order)

pub reader_solve_plain_is : (κs : Lfts 4) (a : ArgsD reader-solve-plain-signature κs) (r : Result (Unit {0}) Refusal) (s : AtExit (ended_of 4 reader-solve-plain-kinds.ps reader-solve-plain-kinds.r) κs) → reader-solve-plain.Post κs a r s
    → (of_base (basic.done (reply_of r)), s.1.1.1.1.0.now) ≡ shown (perform_marked (base (basic.held_solve (a.1.1.1.0.now) (a.1.1.1.1.0.now))) (a.1.0) (a.1.1.0.now) (a.0.now))
unfolding perform_marked
reader_solve_plain_is κs a r s p = ap shown_by p

pub reader_mul_plain_is : (κs : Lfts 2) (a : ArgsD reader-mul-plain-signature κs) (r : Result (Unit {0}) Refusal) (s : AtExit (ended_of 2 reader-mul-plain-kinds.ps reader-mul-plain-kinds.r) κs) (order : List ℕ) → reader-mul-plain.Post κs a r s
    → (of_base (basic.done (reply_of r)), s.1.1.0.now) ≡ shown (perform_marked (base (basic.held_product (a.1.1.0.now))) (a.1.0) order (a.0.now))
unfolding perform_marked
reader_mul_plain_is κs a r s order p = ap shown_by p

-- ---- gradient, the question beside it, norm of Jx, scaling, determined, rank
pub calls_max_a_t_b_scaled_is : (κs : Lfts 2) (a : ArgsD max-a-t-b-scaled-signature κs) (r : Told Float State) (s : AtExit (ended_of 2 max-a-t-b-scaled-kinds.ps max-a-t-b-scaled-kinds.r) κs) → max-a-t-b-scaled.Post κs a r s
    → outcome_of (of_base (basic.number (reply_of r.answer))) r.state s.1.0.now [] ≡ perform_marked (base (basic.gradient (a.1.1.1.0))) (a.0) (a.1.1.0.now) (a.1.0.now)
unfolding perform_marked
calls_max_a_t_b_scaled_is κs a r s p = ap (λ (e : calls.MarkedTold Float). of_marked_told (λ r. of_base (basic.number r)) e) p

pub calls_above_limit_is : (κs : Lfts 2) (a : ArgsD above-limit-signature κs) (r : Told Bool State) (s : AtExit (ended_of 2 above-limit-kinds.ps above-limit-kinds.r) κs) → above-limit.Post κs a r s
    → outcome_of (of_base (basic.truth (reply_of r.answer))) r.state s.1.0.now [] ≡ perform_marked (base (basic.above (a.1.1.1.0) (a.1.1.1.1.0))) (a.0) (a.1.1.0.now) (a.1.0.now)
unfolding perform_marked
calls_above_limit_is κs a r s p = ap (λ (e : calls.MarkedTold Bool). of_marked_told (λ r. of_base (basic.truth r)) e) p

pub calls_a_x_norm_is : (κs : Lfts 3) (a : ArgsD a-x-norm-signature κs) (r : Told Normed State) (s : AtExit (ended_of 3 a-x-norm-kinds.ps a-x-norm-kinds.r) κs) → a-x-norm.Post κs a r s
    → outcome_of (of_base (basic.ranged (measured_of r.answer))) r.state s.1.0.now [] ≡ perform_marked (base (basic.jx_norm (a.1.1.1.0.now))) (a.0) (a.1.1.0.now) (a.1.0.now)
unfolding perform_marked
calls_a_x_norm_is κs a r s p = ap (λ (e : calls.MarkedTold (Float × Ranges)). of_marked_told (λ r. of_base (basic.ranged r)) e) p

pub calls_update_diag_is : (κs : Lfts 3) (a : ArgsD update-diag-signature κs) (r : Told Scaling State) (s : AtExit (ended_of 3 update-diag-kinds.ps update-diag-kinds.r) κs) (order : List ℕ) → update-diag.Post κs a r s
    → outcome_of (of_base (basic.scaled (scaling_of r.answer))) r.state s.1.0.now s.1.1.1.0.now ≡ perform_marked (base (basic.scaling (a.1.1.0) (a.1.1.1.0.now) (a.1.1.1.1.0.now) (a.1.1.1.1.1.0))) (a.0) order (a.1.0.now)
unfolding perform_marked
calls_update_diag_is κs a r s order p = ap (λ (e : calls.MarkedEnded Scaled). of_marked_ended (λ r. of_base (basic.scaled r)) e) p

pub calls_determined_is : (κs : Lfts 1) (a : ArgsD determined-signature κs) (r : Told ℕ State) (s : AtExit (ended_of 1 determined-kinds.ps determined-kinds.r) κs) (order : List ℕ) → determined.Post κs a r s
    → outcome_of (of_base (basic.count (reply_of r.answer))) r.state s.1.0.now [] ≡ perform_marked (base basic.determined) (a.0) order (a.1.0.now)
unfolding perform_marked
calls_determined_is κs a r s order p = ap (λ (e : calls.MarkedTold ℕ). of_marked_told (λ r. of_base (basic.count r)) e) p

pub calls_is_non_singular_is : (κs : Lfts 1) (a : ArgsD is-non-singular-signature κs) (r : Told Bool State) (s : AtExit (ended_of 1 is-non-singular-kinds.ps is-non-singular-kinds.r) κs) (order : List ℕ) → is-non-singular.Post κs a r s
    → outcome_of (of_base (basic.truth (reply_of r.answer))) r.state s.1.0.now [] ≡ perform_marked (base basic.non_singular) (a.0) order (a.1.0.now)
unfolding perform_marked
calls_is_non_singular_is κs a r s order p = ap (λ (e : calls.MarkedTold Bool). of_marked_told (λ r. of_base (basic.truth r)) e) p

pub calls_determine_lambda_and_parameter_update_is : (κs : Lfts 4) (a : ArgsD search-signature κs) (r : Told (LMParameter × Ranges) State) (s : AtExit (ended_of 4 search-kinds.ps search-kinds.r) κs) → search-code.Post κs a r s
    → outcome_of (found (reply_of r.answer)) r.state s.1.0.now s.1.1.1.1.1.1.0.now
    ≡ perform_marked (search (a.1.1.1.0.now) (a.1.1.1.1.0) (a.1.1.1.1.1.0) (a.1.1.1.1.1.1.0.now)) (a.0) (a.1.1.0.now) (a.1.0.now)
unfolding perform_marked
calls_determine_lambda_and_parameter_update_is κs a r s p = ap (λ (e : calls.MarkedEnded Flagged). of_marked_ended (λ r. found r) e) p

-- ---- factoring
pub calls_pivoted_qr_is : (κs : Lfts 5) (a : ArgsD pivoted-qr-signature κs) (r : Told Ranges State) (s : AtExit (ended_of 5 pivoted-qr-kinds.ps pivoted-qr-kinds.r) κs) → pivoted-qr.Post κs a r s
    → marked_factored (reply_of r.answer) r.state s.1.1.1.1.1.0.now s.1.1.1.1.1.1.0.now s.1.1.1.1.1.1.1.0.now
    ≡ marked_factoring (a.0) (a.1.0) (a.1.1.0) (a.1.1.1.0.now) (a.1.1.1.1.0.now) (a.1.1.1.1.1.0.now) (a.1.1.1.1.1.1.0.now) (a.1.1.1.1.1.1.1.0.now)
calls_pivoted_qr_is κs a r s p = p

-- ---- packing, which takes a state and is a step of a history that leaves the store; and unpacking, which begins one
abbrev pub packed_as : PutAway → List Float → basic.OutcomeOf StepAnswer
packed_as e s = record { answer = packed e.reply e.numbers e.places; state = whole e.state; store = s; out = [] }

pub pack_is : (κs : Lfts 4) (a : ArgsD pack-signature κs) (r : Told (Unit {0}) State) (s : AtExit (ended_of 4 pack-kinds.ps pack-kinds.r) κs) → pack-code.Post κs a r s
    → (let left = put_away (reply_of r.answer) r.state s.1.1.1.0.now s.1.1.1.1.0.now in
    (left ≡ pack_call (a.0) (a.1.0.now) (a.1.1.0.now) (a.1.1.1.0.now) (a.1.1.1.1.0.now))
    × (packed_as left (a.1.0.now) ≡ perform_step (a.0.marks) (pack (a.1.1.1.0.now) (a.1.1.1.1.0.now)) (whole (a.0)) (a.1.1.0.now) (a.1.0.now)))
unfolding perform_step
pack_is κs a r s p = (p, ap (λ (e : PutAway). packed_as e (a.1.0.now)) p)

pub unpack_is : (κs : Lfts 4) (a : ArgsD unpack-signature κs) (r : Told (Unit {0}) State) (s : AtExit (ended_of 4 unpack-kinds.ps unpack-kinds.r) κs) → unpack-code.Post κs a r s
    → put_away (reply_of r.answer) r.state s.1.1.1.0.now s.1.1.1.1.0.now
    ≡ unpack_call (a.0) (a.1.0.now) (a.1.1.0.now) (a.1.1.1.0.now) (a.1.1.1.1.0.now)
unpack_is κs a r s p = p
