-- The calls of a sheet's working, one after the other, are what its definition says. Assumes nothing.
use Prim.Native.Nat.{ℕ}
use mathlib.Core.Path.{◌≡◌, sym, ap, ◌∙◌}
use mathlib.Core.List.{List}
use lib.Ieee.{Float}
use Rattle.std.specs.Prelude.{Result, Ok, Err}
use Rattle.leaves.specs.declared.reply.Refusal.{Refusal}
use Rattle.leaves.specs.Reply.{Reply, refused, refusal_number, reply_of}
use Rattle.leaves.specs.Number.{plus_zero}
use Rattle.leaves.specs.Square.{zeros}
use Rattle.factor.specs.Outcome.{Ended, ended}
use Rattle.measures.specs.Measures.{determined_call}
use Rattle.factor.specs.Outcome as calls
use Rattle.measures.specs.Rescale.{Scaled, scaling_call}
use Rattle.measures.specs.Answers.{scaling_of}
use Rattle.factor.specs.declared.state.State.{State}
use Rattle.measures.specs.declared.scaling.Start.{Start}
use Rattle.measures.specs.declared.scaling.Scaling.{Scaling}
use Rattle.measures.specs.declared.scaling.Scaling.TheVariants as scaling
use Rattle.measures.specs.declared.scaling.Mode.TheVariants as mode
use Rattle.search.specs.Search.{Flagged, search_call}
use Rattle.leaves.specs.declared.norm.Ranges.{Ranges}
use Rattle.sheet.specs.Fit.{Fit, started, Finished, finished, mapped, by_search, by_determined, sought_from, by_scaling, started_from}
use Rattle.sheet.specs.declared.answer.Fitted.{Fitted}

-- ---- determined, then a search
module _ (st : State) (order : List ℕ) (diag : List Float) (radius lambda : Float) (store step : List Float) where
  abbrev pub after : List Float → Ended Flagged
  after s = search_call st order diag radius lambda s step

  module _ {a : Result ℕ Refusal} {q : State} {left : List Float} (e : calls.told (reply_of a) q left ≡ determined_call st store) where
    by : (b : Result ℕ Refusal) → a ≡ b → by_determined st.n (reply_of b) (after left) step ≡ sought_from st order diag radius lambda store step
    unfolding sought_from
    by b p =
        ap (λ (x : Result ℕ Refusal). by_determined st.n (reply_of x) (after left) step) (sym p)
        ∙ ap (λ (x : calls.Told ℕ). by_determined st.n x.reply (after x.store) step) e

    pub sought_on : {k : ℕ} → a ≡ Ok k → {t : Finished Fitted} → t ≡ by_search st.n k (after left).reply (after left).out → t ≡ sought_from st order diag radius lambda store step
    sought_on p h = h ∙ by _ p

    pub sought-refused : {k : Refusal} → a ≡ Err k → finished (refused (refusal_number k)) step ≡ sought_from st order diag radius lambda store step
    sought-refused p = by _ p

-- ---- the answer as a call tells it
mapped-told : (f : Fitted → Fit) {b : Reply Fitted} {step : List Float} {a : Finished Fitted} → finished b step ≡ a → finished (mapped f b) step ≡ finished (mapped f a.reply) a.step
mapped-told f e = ap (λ (x : Finished Fitted). finished (mapped f x.reply) x.step) e

-- ---- call 2: the first scaling, then a search from lambda 0
module _ (st : State) (order : List ℕ) (x : List Float) (bound : Float) (store step : List Float) {old : List Float} (z : old ≡ zeros 16) where
  module _ {a : Result Scaling Refusal} {q : State} {left diag : List Float} (e : ended (scaling_of a) q left diag ≡ scaling_call st mode.FirstScaled old x bound store) where
    scaled : (b : Result Scaling Refusal) → a ≡ b → by_scaling st order (scaling_of b) diag left step ≡ started_from st order x bound store step
    unfolding started_from
    scaled b p =
        ap (λ (u : Result Scaling Refusal). by_scaling st order (scaling_of u) diag left step) (sym p)
        ∙ ap (λ (u : Ended Scaled). by_scaling st order u.reply u.out u.store step) (e ∙ ap (λ (o : List Float). scaling_call st mode.FirstScaled o x bound store) z)

    pub started_on : {t : Start} {f : Ranges} → a ≡ Ok (scaling.First t f) → {b : Reply Fitted} {now : List Float} → finished b now ≡ sought_from st order diag t.radius plus_zero left step
        → finished (mapped (started t.radius) b) now ≡ started_from st order x bound store step
    started_on {t = t} p h = mapped-told (started t.radius) h ∙ scaled _ p

    pub started-later : {f : Ranges} → a ≡ Ok (scaling.Later f) → finished (refused 8) step ≡ started_from st order x bound store step
    started-later p = scaled _ p

    pub started-refused : {k : Refusal} → a ≡ Err k → finished (refused (refusal_number k)) step ≡ started_from st order x bound store step
    started-refused p = scaled _ p
