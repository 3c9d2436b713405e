-- 01, 'Refusal numbers': a call gives a value or one of the numbered refusals. What the code answers is read so: "Where an answer is an enum, a
-- definition gives this paper's number and values for each of its cases." Two that are read alike are the same (`proofs/Replies.antt`).
use Rattle.std.specs.Prelude.{ℕ, Float, Result, Ok, Err}
use Rattle.leaves.specs.declared.reply.Refusal.{Refusal}
use Rattle.leaves.specs.declared.reply.Refusal.TheVariants as refusal
use Rattle.leaves.specs.declared.norm.Ranges.{Ranges}
use Rattle.leaves.specs.declared.norm.Normed.{Normed}

pub data Reply (A : Type 0) : Type 0 where
  answered : A → Reply A
  refused : ℕ → Reply A

-- 1 to 8 of 01, and 9 of 02, #108
abbrev pub refusal_number : Refusal → ℕ
refusal_number refusal.Sheet = 1
refusal_number refusal.Sizes = 2
refusal_number refusal.Length = 3
refusal_number refusal.Order = 4
refusal_number refusal.NotHeld = 5
refusal_number refusal.NotFinite = 6
refusal_number refusal.Range = 7
refusal_number refusal.Overflow = 8
refusal_number refusal.AllFrozen = 9

abbrev pub reply_of : {A : Type 0} → Result A Refusal → Reply A
reply_of (Ok x) = answered x
reply_of (Err r) = refused (refusal_number r)

-- a norm and its ranges
abbrev pub measured_of : Result Normed Refusal → Reply (Float × Ranges)
measured_of (Ok t) = answered (t.value, t.seen)
measured_of (Err r) = refused (refusal_number r)

-- the number of the test that failed, 0 for none
abbrev pub failed_by : {A : Type 0} → Result A Refusal → ℕ
failed_by (Ok x) = 0
failed_by (Err r) = refusal_number r
