-- No second outcome fits a contract of the reader. `Post` is what the source's `ensures` says. Of the reader's maker and its two
-- thin calls, which take or give a struct that refers to a slice, the theorems speak of the clauses themselves: `NAME_is_the_clause` ties
-- `Says-NAME` to the contract: in every model the `ensures` of the source is that fact and nothing else. Assumes nothing.
use mathlib.Core.Path.{◌≡◌, refl, sym, ◌∙◌}
use seplogic.Ra.Ura.{Ura}
use base.Logic.{SProp}
use prog.Memory.{Memory}
use prog.Routine.{Routine}
use types.Logic.{Logic}
use contract.Lifetimes.{Lfts}
use contract.Monad.{Fun, fact}
use denote.Triple.Entry.{Args}
use denote.Triple.Clauses.{AtExit}
use borrow.Fn.World.{ArgsD}
use borrow.Fn.Kinds.{ended_of}
use Rattle.std.specs.Prelude.{Result}
use Rattle.leaves.specs.declared.reply.Refusal.{Refusal}
use Rattle.leaves.specs.Reply.{reply_of}
use Rattle.calls.specs.HeldCalls.{marked_solve, marked_mul, marked_read}
use Rattle.factor.specs.Outcome.{read}
use Rattle.factor.proofs.Answers.{read_same}
use Rattle.reader.specs.declared.reader.CholeskyFactor.{CholeskyFactor}
use Rattle.reader.specs.contracts.reader.new as new
use Rattle.reader.specs.contracts.reader.solve as solve
use Rattle.reader.specs.contracts.reader.mul_qt_b as mul-qt-b
use Rattle.reader.specs.contracts.reader.solve_plain.{signature as solve-plain-signature}
use Rattle.reader.proofs.reader.solve_plain.Reads as solve-plain
use Rattle.reader.proofs.reader.solve_plain.Kinds as solve-plain-kinds
use Rattle.reader.specs.contracts.reader.mul_plain.{signature as mul-plain-signature}
use Rattle.reader.proofs.reader.mul_plain.Reads as mul-plain
use Rattle.reader.proofs.reader.mul_plain.Kinds as mul-plain-kinds

-- ---- the maker
abbrev pub Says-new : (κs : Lfts 1) → Args new.signature κs → CholeskyFactor → AtExit new.ended κs → Type 0
Says-new κs a r s = r ≡ record { square = a.0; state = a.1.0 }

pub new_is_the_clause : {M : Type 1} {𝓤 : Ura M} (𝓛 : Logic 𝓤) (mem : Memory → SProp 𝓤) (run : Routine → Fun 𝓤) (κs : Lfts 1) (a : Args new.signature κs) (r : CholeskyFactor) (s : AtExit new.ended κs)
    → (new.clauses 𝓛 mem run κs a).ensures tt r s ≡ fact 𝓤 (Says-new κs a r s)
new_is_the_clause 𝓛 mem run κs a r s = refl

pub new-one_outcome : (κs : Lfts 1) (a : Args new.signature κs) (r₁ r₂ : CholeskyFactor) (s₁ s₂ : AtExit new.ended κs) → Says-new κs a r₁ s₁ → Says-new κs a r₂ s₂ → r₁ ≡ r₂
new-one_outcome κs a r₁ r₂ s₁ s₂ p q = p ∙ sym q

-- ---- the two thin calls
abbrev pub Says-solve : (κs : Lfts 4) → Args solve.signature κs → Result (Unit {0}) Refusal → AtExit solve.ended κs → Type 0
Says-solve κs a r s =
    read (reply_of r) s.1.1.1.0.now
    ≡ marked_read (marked_solve a.0.state a.1.0.now a.1.1.0.now a.0.square.now a.1.1.1.0.now)

pub solve_is_the_clause : {M : Type 1} {𝓤 : Ura M} (𝓛 : Logic 𝓤) (mem : Memory → SProp 𝓤) (run : Routine → Fun 𝓤) (κs : Lfts 4) (a : Args solve.signature κs) (r : Result (Unit {0}) Refusal) (s : AtExit solve.ended κs)
    → (solve.clauses 𝓛 mem run κs a).ensures tt r s ≡ fact 𝓤 (Says-solve κs a r s)
solve_is_the_clause 𝓛 mem run κs a r s = refl

pub solve-one_outcome : (κs : Lfts 4) (a : Args solve.signature κs) (r₁ r₂ : Result (Unit {0}) Refusal) (s₁ s₂ : AtExit solve.ended κs)
    → Says-solve κs a r₁ s₁ → Says-solve κs a r₂ s₂ → (r₁ ≡ r₂) × (s₁.1.1.1.0.now ≡ s₂.1.1.1.0.now)
solve-one_outcome κs a r₁ r₂ s₁ s₂ p q = read_same r₁ r₂ (p ∙ sym q)

abbrev pub Says-mul-qt-b : (κs : Lfts 2) → Args mul-qt-b.signature κs → Result (Unit {0}) Refusal → AtExit mul-qt-b.ended κs → Type 0
Says-mul-qt-b κs a r s = read (reply_of r) s.1.0.now ≡ marked_read (marked_mul a.0.state a.0.square.now a.1.0.now)

pub mul_qt_b_is_the_clause : {M : Type 1} {𝓤 : Ura M} (𝓛 : Logic 𝓤) (mem : Memory → SProp 𝓤) (run : Routine → Fun 𝓤) (κs : Lfts 2) (a : Args mul-qt-b.signature κs) (r : Result (Unit {0}) Refusal) (s : AtExit mul-qt-b.ended κs)
    → (mul-qt-b.clauses 𝓛 mem run κs a).ensures tt r s ≡ fact 𝓤 (Says-mul-qt-b κs a r s)
mul_qt_b_is_the_clause 𝓛 mem run κs a r s = refl

pub mul_qt_b-one_outcome : (κs : Lfts 2) (a : Args mul-qt-b.signature κs) (r₁ r₂ : Result (Unit {0}) Refusal) (s₁ s₂ : AtExit mul-qt-b.ended κs)
    → Says-mul-qt-b κs a r₁ s₁ → Says-mul-qt-b κs a r₂ s₂ → (r₁ ≡ r₂) × (s₁.1.0.now ≡ s₂.1.0.now)
mul_qt_b-one_outcome κs a r₁ r₂ s₁ s₂ p q = read_same r₁ r₂ (p ∙ sym q)

-- ---- with plain parameters: the calls that make a reader
pub solve_plain-one_outcome : (κs : Lfts 4) (a : ArgsD solve-plain-signature κs) (r₁ r₂ : Result (Unit {0}) Refusal) (s₁ s₂ : AtExit (ended_of 4 solve-plain-kinds.ps solve-plain-kinds.r) κs)
    → solve-plain.Post κs a r₁ s₁ → solve-plain.Post κs a r₂ s₂ → (r₁ ≡ r₂) × (s₁.1.1.1.1.0.now ≡ s₂.1.1.1.1.0.now)
solve_plain-one_outcome κs a r₁ r₂ s₁ s₂ p q = read_same r₁ r₂ (p ∙ sym q)

pub mul_plain-one_outcome : (κs : Lfts 2) (a : ArgsD mul-plain-signature κs) (r₁ r₂ : Result (Unit {0}) Refusal) (s₁ s₂ : AtExit (ended_of 2 mul-plain-kinds.ps mul-plain-kinds.r) κs)
    → mul-plain.Post κs a r₁ s₁ → mul-plain.Post κs a r₂ s₂ → (r₁ ≡ r₂) × (s₁.1.1.0.now ≡ s₂.1.1.0.now)
mul_plain-one_outcome κs a r₁ r₂ s₁ s₂ p q = read_same r₁ r₂ (p ∙ sym q)
