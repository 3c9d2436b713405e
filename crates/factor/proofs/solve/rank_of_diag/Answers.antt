use mathlib.Core.Path.{◌∙◌}
use borrow.Author.Rules.{rules}
use borrow.Author.Tests.{tests}
use lib.Ieee.{of_bits}
use Rattle.std.proofs.lemmas.Iterator.{IsFirst-from_position, YieldsList-from_slice}
use Rattle.factor.proofs.Solves.{IsZero, NotZero, rank_first}
use Rattle.factor.proofs.solve.rank_of_diag.Goals as goal

pub returns : goal.returns
unfolding of_bits
returns c =
    let ds = c.args.ldiag.now in
    c.unwrap_or.ensures
    ∙ rank_first ds c.position.result (IsFirst-from_position _ _ _ IsZero NotZero c.position.ensures.ran (YieldsList-from_slice ds cc) (λ x q k. search (rules, tests)) (λ x q k. search (rules, tests)))
