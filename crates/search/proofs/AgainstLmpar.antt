-- The search is LMPAR: for m ≥ n, wherever the search answers, LMPAR of MINPACK-1 (`specs/Lmpar.antt`), with its own ENORM (`specs/Enorm.antt`, whatever
-- stood in ENORM's result before) and document 01's dwarf, gives the same x, the same par and the same number of damped solves. First for a problem in
-- the search's own terms; then for the public call, where all that the first takes follows from the call's having answered; then for the code, by its
-- contract. After a factoring it is so with any m and n: `demands` has that, over whole runs of calls. Assumes nothing.
use mathlib.Core.Path.{◌≡◌, sym, ap, ◌∙◌}
use mathlib.Core.Bool.{true, false}
use mathlib.Core.List.{List, []}
use mathlib.Core.Logic.{inl}
use Prim.Native.Nat.{ℕ, suc, ◌<◌, ◌≤◌}
use native.Mathlib.Omega.{arith}
use lib.ListN.{length, get_or, take}
use lib.Ieee.{Float}
use contract.Lifetimes.{Lfts}
use borrow.Fn.World.{ArgsD}
use borrow.Fn.Kinds.{ended_of}
use denote.Triple.Clauses.{AtExit}
use Rattle.leaves.specs.Reply.{answered}
use Rattle.leaves.specs.Number.{dwarf, is_finite}
use Rattle.leaves.specs.declared.norm.Ranges.{Ranges}
use Rattle.factor.specs.Room.{load}
use Rattle.factor.specs.Tests.{not_above, is_permutation}
use Rattle.factor.specs.Outcome.{Ended, ended}
use Rattle.factor.specs.declared.state.State.{State}
use Rattle.leaves.proofs.Squares.{diagonal-length}
use Rattle.search.specs.Problem.{Problem}
use Rattle.search.specs.Search.{Flagged, answer_of, search_call}
use Rattle.search.specs.Enorm.{minpack_enorm}
use Rattle.search.specs.Lmpar.{lmpar}
use Rattle.search.specs.declared.LMParameter.{LMParameter}
use Rattle.std.specs.Prelude.{Ok}
use Rattle.leaves.specs.declared.reply.Told.{Told}
use Rattle.search.specs.contracts.trust_region.determine_lambda_and_parameter_update.{signature}
use Rattle.search.proofs.trust_region.determine_lambda_and_parameter_update.Reads as search
use Rattle.search.proofs.trust_region.determine_lambda_and_parameter_update.Kinds as kinds
use Rattle.search.proofs.AgainstEnorm.{enorm_is_norm}
use Rattle.search.proofs.LmparTrials.{given_of}
use Rattle.search.proofs.LmparStart.{answer_is_lmpar}
use Rattle.search.proofs.LmparCalls.{fits, answers_as_lmpar}
use Rattle.leaves.specs.Reply.{reply_of}
use Rattle.search.specs.Against.{lent_of}

pub search_is_lmpar : (unset : Float) (p : Problem) (initial : Float) (a : LMParameter) (step : List Float)
    → length p.upper ≤ p.m → length p.order ≡ length p.upper → length p.qtb ≡ length p.upper
    → ((k : ℕ) → k < length p.upper → length (get_or p.upper k []) ≡ suc k) → is_permutation (length p.upper) p.order ≡ true
    → is_finite p.radius ≡ true → not_above p.radius ≡ false
    → answer_of p initial ≡ answered (a, step)
    → lmpar (minpack_enorm unset) dwarf (given_of p) initial ≡ record { x = step; par = a.lambda; qrsolvs = a.trials }
search_is_lmpar unset p initial a step wide pivots rhs tall permuted finite above e =
    answer_is_lmpar (minpack_enorm unset) p initial (inl (omega (arith, diagonal-length 0 p.upper))) (record { pivots = pivots; rhs = rhs; tall = tall; permuted = permuted })
    (enorm_is_norm unset) a step finite above e

pub search-answers_as_lmpar : (unset : Float) (st : State) (order : List ℕ) (diag : List Float) (radius lambda : Float) (store out : List Float) (a : Flagged)
    → (search_call st order diag radius lambda store out).reply ≡ answered a → st.n ≤ st.m
    → lmpar (minpack_enorm unset) dwarf (lent_of st order diag radius store) lambda
    ≡ record { x = take st.n (search_call st order diag radius lambda store out).out; par = a.0.lambda; qrsolvs = a.0.trials }
search-answers_as_lmpar unset st order diag radius lambda store out a h wide =
    answers_as_lmpar st order diag radius lambda store out a h (minpack_enorm unset) (enorm_is_norm unset)
    (inl (omega (arith, diagonal-length 0 (load st.n store).upper, (fits st order diag radius lambda store out a h).upper_wide)))

-- any outcome that meets the contract's equation
outcome_is_lmpar : (unset : Float) (st : State) (order : List ℕ) (diag : List Float) (radius lambda : Float) (store out : List Float) (r : Told Flagged State) {store' out' : List Float} (a : LMParameter) (seen : Ranges)
    → ended (reply_of r.answer) r.state store' out' ≡ search_call st order diag radius lambda store out
    → r.answer ≡ Ok (a, seen) → st.n ≤ st.m
    → lmpar (minpack_enorm unset) dwarf (lent_of st order diag radius store) lambda ≡ record { x = take st.n out'; par = a.lambda; qrsolvs = a.trials }
outcome_is_lmpar unset st order diag radius lambda store out r a seen e h wide =
    let reply = ap (λ (x : Ended Flagged). x.reply) (sym e) ∙ ap reply_of h in
    let written = ap (λ (x : Ended Flagged). x.out) (sym e) in
    search-answers_as_lmpar unset st order diag radius lambda store out (a, seen) reply wide
    ∙ ap (λ (x : List Float). record { x = take st.n x; par = a.lambda; qrsolvs = a.trials }) written

-- The code: `Post` is what the source's `ensures` says of an answer r and of the lent slices at exit.
pub determine_lambda_and_parameter_update_is_lmpar : (unset : Float) (κs : Lfts 4) (c : ArgsD signature κs) (r : Told Flagged State) (s : AtExit (ended_of 4 kinds.ps kinds.r) κs) (a : LMParameter) (seen : Ranges)
    → search.Post κs c r s → r.answer ≡ Ok (a, seen)
    → (let st = c.0 in
    let store = c.1.0.now in
    let order = c.1.1.0.now in
    let diag = c.1.1.1.0.now in
    let radius = c.1.1.1.1.0 in
    let lambda = c.1.1.1.1.1.0 in
    let out' = s.1.1.1.1.1.1.0.now in
    st.n ≤ st.m → lmpar (minpack_enorm unset) dwarf (lent_of st order diag radius store) lambda ≡ record { x = take st.n out'; par = a.lambda; qrsolvs = a.trials })
determine_lambda_and_parameter_update_is_lmpar unset κs c r s a seen e h wide =
    outcome_is_lmpar unset c.0 c.1.1.0.now c.1.1.1.0.now c.1.1.1.1.0 c.1.1.1.1.1.0 c.1.0.now c.1.1.1.1.1.1.0.now r a seen e h wide
