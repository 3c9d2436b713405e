-- `root::sqrt` meets its contract: each return is a case of `root_s`. Assumes nothing.
use mathlib.Core.Path.{sym, ap, ◌∙◌, subst}
use Prim.Native.Nat.{ℕ}
use lib.Dec.{T}
use mathlib.Core.Bool.{not}
use lib.Ieee.{binary64, of_bits, nan_bits}
use Rattle.leaves.proofs.root.Floats.{nan_root, no_nan, zero_root, below_root, is_above}
use Rattle.leaves.proofs.root.Patterns.{top_root, some_pattern, finite_root, pattern_no_nan}
use Rattle.leaves.proofs.root.sqrt.Goals as goal

pub returns-then-x : goal.returns-then-x
returns-then-x c = nan_root c.args.x c.if-x.true

pub returns-then-x-2 : goal.returns-then-x-2
returns-then-x-2 c = zero_root c.args.x c.if-x-2.true

pub float_from_bits-top : goal.float_from_bits-top
unfolding nan_bits
float_from_bits-top c = tt

pub returns-then-x-3 : goal.returns-then-x-3
returns-then-x-3 c = below_root c.args.x c.if-x-3.true

pub float_to_bits-b : goal.float_to_bits-b
float_to_bits-b c = no_nan c.args.x c.if-x.false

pub returns-then-b-ge9218868437227405312 : goal.returns-then-b-ge9218868437227405312
returns-then-b-ge9218868437227405312 c = top_root c.args.x (is_above c.args.x c.if-x.false c.if-x-2.false c.if-x-3.false) (subst T (sym c.well_formed.0.1) tt) c.if-b-ge9218868437227405312.true

pub pattern-requires : goal.pattern-requires
pattern-requires c = (some_pattern c.args.x (is_above c.args.x c.if-x.false c.if-x-2.false c.if-x-3.false) (subst T (sym c.well_formed.0.1) tt), c.if-b-ge9218868437227405312.false)

pub float_from_bits-result : goal.float_from_bits-result
float_from_bits-result c = subst (λ (b : ℕ). T (not (nan_bits binary64 b))) (sym c.pattern.ensures) (pattern_no_nan c.args.x (is_above c.args.x c.if-x.false c.if-x-2.false c.if-x-3.false) (subst T (sym c.well_formed.0.1) tt) c.if-b-ge9218868437227405312.false)

pub returns : goal.returns
returns c = ap (λ (b : ℕ). of_bits binary64 b) c.pattern.ensures ∙ finite_root c.args.x (is_above c.args.x c.if-x.false c.if-x-2.false c.if-x-3.false) (subst T (sym c.well_formed.0.1) tt) c.if-b-ge9218868437227405312.false
