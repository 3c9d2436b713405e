use Prim.Native.Nat.{◌^◌}
use mathlib.Core.Path.{sym}
use native.Mathlib.Nat.{le_of_lt, max-eq_left, max-eq_right}
use native.Mathlib.Omega.{arith}
use lib.Dec.{le→leb}
use lib.Ieee.{in_float}
use Rattle.measures.proofs.measures.Determineds.{limit_by}
use Rattle.measures.proofs.measures.limit_of.Goals as goal

pub int_to_float-result : goal.int_to_float-result
unfolding in_float
int_to_float-result c = le→leb c.args.n (2 ^ 53) (omega (arith, c.requires))

pub returns-then-m-n : goal.returns-then-m-n
returns-then-m-n c =
    let g = c.args in
    limit_by g.m g.n g.n g.r00 (sym (max-eq_right (le_of_lt c.if-m-n.true))) c.epsmch.ensures c.abs.ensures

pub int_to_float-result-2 : goal.int_to_float-result-2
unfolding in_float
int_to_float-result-2 c = le→leb c.args.m (2 ^ 53) (omega (arith, c.requires))

pub returns : goal.returns
returns c =
    let g = c.args in
    limit_by g.m g.n g.m g.r00 (sym (max-eq_left c.if-m-n.false)) c.epsmch-2.ensures c.abs-2.ensures
