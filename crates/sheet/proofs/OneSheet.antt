-- No second outcome fits a public contract of `sheet`: `Post` is what the source's `ensures` says. Assumes nothing.
use Prim.Native.Nat.{ℕ}
use mathlib.Core.Path.{◌≡◌, sym, ap, ◌∙◌}
use mathlib.Core.List.{List}
use lib.Ieee.{Float}
use contract.Lifetimes.{Lfts}
use borrow.Fn.World.{ArgsD}
use borrow.Fn.Kinds.{ended_of}
use denote.Triple.Clauses.{AtExit}
use native.Mathlib.Omega.{arith}
use Rattle.std.specs.Prelude.{Result, Ok, Err}
use Rattle.leaves.specs.declared.reply.Refusal.{Refusal}
use Rattle.leaves.specs.Reply.{Reply}
use Rattle.leaves.proofs.Replies.{answered-refused, refused-answered, answered-same, refused-same, refusal_number-same, reply_of-same}
use Rattle.sheet.specs.Fit.{Fit, searched, started, Finished, fit_in, fit_of}
use Rattle.sheet.specs.declared.answer.Fitted.{Fitted}
use Rattle.sheet.specs.declared.answer.Started.{Started}
use Rattle.sheet.specs.declared.answer.Answer.{Answer}
use Rattle.sheet.specs.declared.answer.Answer.TheVariants as answer
use Rattle.sheet.specs.contracts.job.fit.{signature as fit-signature}
use Rattle.sheet.proofs.job.fit.Reads as fit
use Rattle.sheet.proofs.job.fit.Kinds as fit-kinds
use Rattle.sheet.specs.contracts.lines.write_lines.{signature as write-lines-signature}
use Rattle.sheet.proofs.lines.write_lines.Reads as write_lines
use Rattle.sheet.proofs.lines.write_lines.Kinds as write-lines-kinds
use Rattle.sheet.specs.contracts.lines.fit_lines.{signature as fit-lines-signature}
use Rattle.sheet.proofs.lines.fit_lines.Reads as fit_lines
use Rattle.sheet.proofs.lines.fit_lines.Kinds as fit-lines-kinds

searched-same : {f g : Fitted} → searched f ≡ searched g → f ≡ g
searched-same e = cc

abbrev starts : Float → Fitted → Started
starts r f = record { radius = r; fitted = f }

started-same : {q r : Float} {f g : Fitted} → started q f ≡ started r g → starts q f ≡ starts r g
started-same {q} {r} {f} {g} e =
    let a : q ≡ r = cc in
    let b : f ≡ g = cc in
    ap (λ (x : Float). starts x f) a ∙ ap (λ (x : Fitted). starts r x) b

other : {f g : Fitted} {r : Float} {A : Type 0} → searched f ≡ started r g → A
other e = absurd (let z : ◌≡◌ {A = ℕ} 0 1 = cc in omega arith)

answer-same : (a b : Answer) → fit_in a ≡ fit_in b → a ≡ b
answer-same (answer.Searched f) (answer.Searched g) e = ap answer.Searched (searched-same e)
answer-same (answer.Searched f) (answer.Started g) e = other e
answer-same (answer.Started f) (answer.Searched g) e = other (sym e)
answer-same (answer.Started f) (answer.Started g) e = ap answer.Started (started-same e)

fit_of-same : (r t : Result Answer Refusal) → fit_of r ≡ fit_of t → r ≡ t
fit_of-same (Ok a) (Ok b) e = ap Ok (answer-same a b (answered-same e))
fit_of-same (Ok a) (Err k) e = answered-refused e
fit_of-same (Err k) (Ok a) e = refused-answered e
fit_of-same (Err j) (Err k) e = ap Err (refusal_number-same j k (refused-same e))

pub fit-one_outcome : (κs : Lfts 2) (a : ArgsD fit-signature κs) (r₁ r₂ : Result Answer Refusal) (s₁ s₂ : AtExit (ended_of 2 fit-kinds.ps fit-kinds.r) κs) → fit.Post κs a r₁ s₁ → fit.Post κs a r₂ s₂
    → (r₁ ≡ r₂) × (s₁.1.0.now ≡ s₂.1.0.now)
fit-one_outcome κs a r₁ r₂ s₁ s₂ p q =
    let e = p ∙ sym q in (fit_of-same r₁ r₂ (ap (λ (x : Finished Fit). x.reply) e), ap (λ (x : Finished Fit). x.step) e)

pub write_lines-one_outcome : (κs : Lfts 2) (a : ArgsD write-lines-signature κs) (r₁ r₂ : Result ℕ Refusal) (s₁ s₂ : AtExit (ended_of 2 write-lines-kinds.ps write-lines-kinds.r) κs) → write_lines.Post κs a r₁ s₁ → write_lines.Post κs a r₂ s₂
    → (r₁ ≡ r₂) × (s₁.1.1.0.now ≡ s₂.1.1.0.now)
write_lines-one_outcome κs a r₁ r₂ s₁ s₂ p q =
    let e = p ∙ sym q in (reply_of-same r₁ r₂ (ap (λ (x : Reply ℕ × List ℕ). x.0) e), ap (λ (x : Reply ℕ × List ℕ). x.1) e)

pub fit_lines-one_outcome : (κs : Lfts 2) (a : ArgsD fit-lines-signature κs) (r₁ r₂ : Result ℕ Refusal) (s₁ s₂ : AtExit (ended_of 2 fit-lines-kinds.ps fit-lines-kinds.r) κs) → fit_lines.Post κs a r₁ s₁ → fit_lines.Post κs a r₂ s₂
    → (r₁ ≡ r₂) × (s₁.1.0.now ≡ s₂.1.0.now)
fit_lines-one_outcome κs a r₁ r₂ s₁ s₂ p q =
    let e = p ∙ sym q in (reply_of-same r₁ r₂ (ap (λ (x : Reply ℕ × List ℕ). x.0) e), ap (λ (x : Reply ℕ × List ℕ). x.1) e)
