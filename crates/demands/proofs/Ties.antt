-- What the code of each public call without marks that takes a state, of factoring without marks, or of a sheet may leave, by its own contract (`Post`
-- is what the source's `ensures` says), is what `perform` gives, `factor_call`, or `sheet_call`: so the theorems on these are theorems on the code.
-- Those with marks, and the reader's, stand in `FrozenTies`. Assumes nothing.
use Prim.Native.Nat.{ℕ}
use mathlib.Core.Path.{◌≡◌, ap}
use mathlib.Core.Bool.{Bool}
use mathlib.Core.List.{List, []}
use lib.Ieee.{Float}
use contract.Lifetimes.{Lfts}
use borrow.Fn.World.{ArgsD}
use borrow.Fn.Kinds.{ended_of}
use denote.Triple.Clauses.{AtExit}
use Rattle.std.specs.Prelude.{Result}
use Rattle.factor.specs.declared.state.State.{State}
use Rattle.leaves.specs.declared.reply.Told.{Told}
use Rattle.leaves.specs.declared.norm.Normed.{Normed}
use Rattle.search.specs.declared.LMParameter.{LMParameter}
use Rattle.measures.specs.declared.scaling.Scaling.{Scaling}
use Rattle.leaves.specs.declared.reply.Refusal.{Refusal}
use Rattle.leaves.specs.Reply.{reply_of, measured_of}
use Rattle.leaves.specs.declared.norm.Ranges.{Ranges}
use Rattle.measures.specs.Answers.{scaling_of}
use Rattle.factor.specs.Outcome as calls
use Rattle.factor.specs.Factoring.{factored, factor_call}
use Rattle.measures.specs.Rescale.{Scaled}
use Rattle.demands.specs.Calls as basic
use Rattle.factor.specs.contracts.least_squares.solve_with_zero_diagonal.{signature as solve-with-zero-diagonal-signature}
use Rattle.factor.proofs.least_squares.solve_with_zero_diagonal.Reads as solve-with-zero-diagonal
use Rattle.factor.proofs.least_squares.solve_with_zero_diagonal.Kinds as solve-with-zero-diagonal-kinds
use Rattle.factor.specs.contracts.least_squares.solve_with_diagonal.{signature as solve-with-diagonal-signature}
use Rattle.factor.proofs.least_squares.solve_with_diagonal.Reads as solve-with-diagonal
use Rattle.factor.proofs.least_squares.solve_with_diagonal.Kinds as solve-with-diagonal-kinds
use Rattle.factor.specs.contracts.cholesky.solve.{signature as solve-signature}
use Rattle.factor.proofs.cholesky.solve.Reads as solve
use Rattle.factor.proofs.cholesky.solve.Kinds as solve-kinds
use Rattle.factor.specs.contracts.cholesky.mul_qt_b.{signature as mul-qt-b-signature}
use Rattle.factor.proofs.cholesky.mul_qt_b.Reads as mul-qt-b
use Rattle.factor.proofs.cholesky.mul_qt_b.Kinds as mul-qt-b-kinds
use Rattle.factor.specs.contracts.cholesky.solve_read.{signature as solve-read-signature}
use Rattle.factor.proofs.cholesky.solve_read.Reads as solve-read
use Rattle.factor.proofs.cholesky.solve_read.Kinds as solve-read-kinds
use Rattle.factor.specs.contracts.cholesky.mul_read.{signature as mul-read-signature}
use Rattle.factor.proofs.cholesky.mul_read.Reads as mul-read
use Rattle.factor.proofs.cholesky.mul_read.Kinds as mul-read-kinds
use Rattle.measures.specs.contracts.measures.max_a_t_b_scaled.{signature as max-a-t-b-scaled-signature}
use Rattle.measures.proofs.measures.max_a_t_b_scaled.Reads as max-a-t-b-scaled
use Rattle.measures.proofs.measures.max_a_t_b_scaled.Kinds as max-a-t-b-scaled-kinds
use Rattle.measures.specs.contracts.above.above_limit.{signature as above-limit-signature}
use Rattle.measures.proofs.above.above_limit.Reads as above-limit
use Rattle.measures.proofs.above.above_limit.Kinds as above-limit-kinds
use Rattle.measures.specs.contracts.measures.a_x_norm.{signature as a-x-norm-signature}
use Rattle.measures.proofs.measures.a_x_norm.Reads as a-x-norm
use Rattle.measures.proofs.measures.a_x_norm.Kinds as a-x-norm-kinds
use Rattle.measures.specs.contracts.update_diag.update_diag.{signature as update-diag-signature}
use Rattle.measures.proofs.update_diag.update_diag.Reads as update-diag
use Rattle.measures.proofs.update_diag.update_diag.Kinds as update-diag-kinds
use Rattle.measures.specs.contracts.measures.determined.{signature as determined-signature}
use Rattle.measures.proofs.measures.determined.Reads as determined
use Rattle.measures.proofs.measures.determined.Kinds as determined-kinds
use Rattle.measures.specs.contracts.measures.is_non_singular.{signature as is-non-singular-signature}
use Rattle.measures.proofs.measures.is_non_singular.Reads as is-non-singular
use Rattle.measures.proofs.measures.is_non_singular.Kinds as is-non-singular-kinds
use Rattle.factor.specs.contracts.pivoted_qr.pivoted_qr.{signature as pivoted-qr-signature}
use Rattle.factor.proofs.pivoted_qr.pivoted_qr.Reads as pivoted-qr
use Rattle.factor.proofs.pivoted_qr.pivoted_qr.Kinds as pivoted-qr-kinds
use Rattle.demands.specs.History.{base, search, Outcome, AnyAnswer, of_base, found, of_base_outcome, of_search, perform, left_as}
use Rattle.search.specs.contracts.trust_region.determine_lambda_and_parameter_update.{signature as search-signature}
use Rattle.search.proofs.trust_region.determine_lambda_and_parameter_update.Reads as search-code
use Rattle.search.proofs.trust_region.determine_lambda_and_parameter_update.Kinds as search-kinds
use Rattle.sheet.specs.Fit.{fit_of, finished as fitted, sheet_call}
use Rattle.sheet.specs.declared.answer.Answer.{Answer as SheetAnswer}
use Rattle.sheet.specs.contracts.job.fit.{signature as fit-signature}
use Rattle.sheet.proofs.job.fit.Reads as fit
use Rattle.sheet.proofs.job.fit.Kinds as fit-kinds

pub solve_with_zero_diagonal_is : (κs : Lfts 3) (a : ArgsD solve-with-zero-diagonal-signature κs) (r : Told (Unit {0}) State) (s : AtExit (ended_of 3 solve-with-zero-diagonal-kinds.ps solve-with-zero-diagonal-kinds.r) κs) → solve-with-zero-diagonal.Post κs a r s
    → left_as (of_base (basic.done (reply_of r.answer))) r.state s.1.0.now s.1.1.1.0.now ≡ perform (base (basic.zero_solve (a.1.1.1.0.now))) (a.0) (a.1.1.0.now) (a.1.0.now)
unfolding perform basic.perform_store
solve_with_zero_diagonal_is κs a r s p = ap (λ (e : calls.Ended (Unit {0})). of_base_outcome (basic.of_ended basic.done e)) p

pub solve_with_diagonal_is : (κs : Lfts 4) (a : ArgsD solve-with-diagonal-signature κs) (r : Told (Unit {0}) State) (s : AtExit (ended_of 4 solve-with-diagonal-kinds.ps solve-with-diagonal-kinds.r) κs) → solve-with-diagonal.Post κs a r s
    → left_as (of_base (basic.done (reply_of r.answer))) r.state s.1.0.now s.1.1.1.1.0.now ≡ perform (base (basic.damped_solve (a.1.1.1.0.now) (a.1.1.1.1.0.now))) (a.0) (a.1.1.0.now) (a.1.0.now)
unfolding perform basic.perform_store
solve_with_diagonal_is κs a r s p = ap (λ (e : calls.Ended (Unit {0})). of_base_outcome (basic.of_ended basic.done e)) p

pub solve_is : (κs : Lfts 4) (a : ArgsD solve-signature κs) (r : Told (Unit {0}) State) (s : AtExit (ended_of 4 solve-kinds.ps solve-kinds.r) κs) → solve.Post κs a r s
    → left_as (of_base (basic.done (reply_of r.answer))) r.state s.1.0.now s.1.1.1.1.0.now ≡ perform (base (basic.held_solve (a.1.1.1.0.now) (a.1.1.1.1.0.now))) (a.0) (a.1.1.0.now) (a.1.0.now)
unfolding perform basic.perform_store
solve_is κs a r s p = ap (λ (e : calls.Ended (Unit {0})). of_base_outcome (basic.of_ended basic.done e)) p

pub mul_qt_b_is : (κs : Lfts 2) (a : ArgsD mul-qt-b-signature κs) (r : Told (Unit {0}) State) (s : AtExit (ended_of 2 mul-qt-b-kinds.ps mul-qt-b-kinds.r) κs) (order : List ℕ) → mul-qt-b.Post κs a r s
    → left_as (of_base (basic.done (reply_of r.answer))) r.state s.1.0.now s.1.1.0.now ≡ perform (base (basic.held_product (a.1.1.0.now))) (a.0) order (a.1.0.now)
unfolding perform basic.perform_store
mul_qt_b_is κs a r s order p = ap (λ (e : calls.Ended (Unit {0})). of_base_outcome (basic.of_ended basic.done e)) p

-- ---- the held calls on a store that is only read: answer and output of the same call
abbrev pub shown : Outcome → AnyAnswer × List Float
shown o = (o.answer, o.out)

abbrev pub shown_by : calls.Read → AnyAnswer × List Float
shown_by e = (of_base (basic.done e.reply), e.out)

pub solve_read_is : (κs : Lfts 4) (a : ArgsD solve-read-signature κs) (r : Result (Unit {0}) Refusal) (s : AtExit (ended_of 4 solve-read-kinds.ps solve-read-kinds.r) κs) → solve-read.Post κs a r s
    → (of_base (basic.done (reply_of r)), s.1.1.1.1.0.now) ≡ shown (perform (base (basic.held_solve (a.1.1.1.0.now) (a.1.1.1.1.0.now))) (a.0) (a.1.1.0.now) (a.1.0.now))
unfolding perform basic.perform_store
solve_read_is κs a r s p = ap shown_by p

pub mul_read_is : (κs : Lfts 2) (a : ArgsD mul-read-signature κs) (r : Result (Unit {0}) Refusal) (s : AtExit (ended_of 2 mul-read-kinds.ps mul-read-kinds.r) κs) (order : List ℕ) → mul-read.Post κs a r s
    → (of_base (basic.done (reply_of r)), s.1.1.0.now) ≡ shown (perform (base (basic.held_product (a.1.1.0.now))) (a.0) order (a.1.0.now))
unfolding perform basic.perform_store
mul_read_is κs a r s order p = ap shown_by p

-- ---- gradient, the question beside it, norm of Jx, scaling, determined, rank
pub max_a_t_b_scaled_is : (κs : Lfts 2) (a : ArgsD max-a-t-b-scaled-signature κs) (r : Told Float State) (s : AtExit (ended_of 2 max-a-t-b-scaled-kinds.ps max-a-t-b-scaled-kinds.r) κs) → max-a-t-b-scaled.Post κs a r s
    → left_as (of_base (basic.number (reply_of r.answer))) r.state s.1.0.now [] ≡ perform (base (basic.gradient (a.1.1.1.0))) (a.0) (a.1.1.0.now) (a.1.0.now)
unfolding perform basic.perform_store
max_a_t_b_scaled_is κs a r s p = ap (λ (e : calls.Told Float). of_base_outcome (basic.of_told basic.number e)) p

pub above_limit_is : (κs : Lfts 2) (a : ArgsD above-limit-signature κs) (r : Told Bool State) (s : AtExit (ended_of 2 above-limit-kinds.ps above-limit-kinds.r) κs) → above-limit.Post κs a r s
    → left_as (of_base (basic.truth (reply_of r.answer))) r.state s.1.0.now [] ≡ perform (base (basic.above (a.1.1.1.0) (a.1.1.1.1.0))) (a.0) (a.1.1.0.now) (a.1.0.now)
unfolding perform basic.perform_store
above_limit_is κs a r s p = ap (λ (e : calls.Told Bool). of_base_outcome (basic.of_told basic.truth e)) p

pub a_x_norm_is : (κs : Lfts 3) (a : ArgsD a-x-norm-signature κs) (r : Told Normed State) (s : AtExit (ended_of 3 a-x-norm-kinds.ps a-x-norm-kinds.r) κs) → a-x-norm.Post κs a r s
    → left_as (of_base (basic.ranged (measured_of r.answer))) r.state s.1.0.now [] ≡ perform (base (basic.jx_norm (a.1.1.1.0.now))) (a.0) (a.1.1.0.now) (a.1.0.now)
unfolding perform basic.perform_store
a_x_norm_is κs a r s p = ap (λ (e : calls.Told (Float × Ranges)). of_base_outcome (basic.of_told basic.ranged e)) p

pub update_diag_is : (κs : Lfts 3) (a : ArgsD update-diag-signature κs) (r : Told Scaling State) (s : AtExit (ended_of 3 update-diag-kinds.ps update-diag-kinds.r) κs) (order : List ℕ) → update-diag.Post κs a r s
    → left_as (of_base (basic.scaled (scaling_of r.answer))) r.state s.1.0.now s.1.1.1.0.now ≡ perform (base (basic.scaling (a.1.1.0) (a.1.1.1.0.now) (a.1.1.1.1.0.now) (a.1.1.1.1.1.0))) (a.0) order (a.1.0.now)
unfolding perform basic.perform_store
update_diag_is κs a r s order p = ap (λ (e : calls.Ended Scaled). of_base_outcome (basic.of_ended basic.scaled e)) p

pub determined_is : (κs : Lfts 1) (a : ArgsD determined-signature κs) (r : Told ℕ State) (s : AtExit (ended_of 1 determined-kinds.ps determined-kinds.r) κs) (order : List ℕ) → determined.Post κs a r s
    → left_as (of_base (basic.count (reply_of r.answer))) r.state s.1.0.now [] ≡ perform (base basic.determined) (a.0) order (a.1.0.now)
unfolding perform basic.perform_store
determined_is κs a r s order p = ap (λ (e : calls.Told ℕ). of_base_outcome (basic.of_told basic.count e)) p

pub is_non_singular_is : (κs : Lfts 1) (a : ArgsD is-non-singular-signature κs) (r : Told Bool State) (s : AtExit (ended_of 1 is-non-singular-kinds.ps is-non-singular-kinds.r) κs) (order : List ℕ) → is-non-singular.Post κs a r s
    → left_as (of_base (basic.truth (reply_of r.answer))) r.state s.1.0.now [] ≡ perform (base basic.non_singular) (a.0) order (a.1.0.now)
unfolding perform basic.perform_store
is_non_singular_is κs a r s order p = ap (λ (e : calls.Told Bool). of_base_outcome (basic.of_told basic.truth e)) p

pub determine_lambda_and_parameter_update_is : (κs : Lfts 4) (a : ArgsD search-signature κs) (r : Told (LMParameter × Ranges) State) (s : AtExit (ended_of 4 search-kinds.ps search-kinds.r) κs) → search-code.Post κs a r s
    → left_as (found (reply_of r.answer)) r.state s.1.0.now s.1.1.1.1.1.1.0.now
    ≡ perform (search (a.1.1.1.0.now) (a.1.1.1.1.0) (a.1.1.1.1.1.0) (a.1.1.1.1.1.1.0.now)) (a.0) (a.1.1.0.now) (a.1.0.now)
unfolding perform
determine_lambda_and_parameter_update_is κs a r s p = ap of_search p

-- ---- factoring
pub pivoted_qr_is : (κs : Lfts 5) (a : ArgsD pivoted-qr-signature κs) (r : Told Ranges State) (s : AtExit (ended_of 5 pivoted-qr-kinds.ps pivoted-qr-kinds.r) κs) → pivoted-qr.Post κs a r s
    → factored (reply_of r.answer) r.state s.1.1.1.1.0.now s.1.1.1.1.1.0.now s.1.1.1.1.1.1.0.now
    ≡ factor_call (a.0) (a.1.0) (a.1.1.0.now) (a.1.1.1.0.now) (a.1.1.1.1.0.now) (a.1.1.1.1.1.0.now) (a.1.1.1.1.1.1.0.now)
pivoted_qr_is κs a r s p = p

-- ---- a sheet
pub fit_is : (κs : Lfts 2) (a : ArgsD fit-signature κs) (r : Result SheetAnswer Refusal) (s : AtExit (ended_of 2 fit-kinds.ps fit-kinds.r) κs) → fit.Post κs a r s
    → fitted (fit_of r) s.1.0.now ≡ sheet_call (a.0.now) (a.1.0.now)
fit_is κs a r s p = p
