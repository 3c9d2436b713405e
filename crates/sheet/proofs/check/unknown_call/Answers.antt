use borrow.Author.Tests.{eq-eqb, ne_eqb}
use Rattle.sheet.proofs.check.unknown_call.Goals as goal

pub returns-then-version-ne1 : goal.returns-then-version-ne1
returns-then-version-ne1 c = rw (ne_eqb _ _ c.if-version-ne1.true)

pub returns-then-call-eq1 : goal.returns-then-call-eq1
returns-then-call-eq1 c = rw (eq-eqb _ _ c.if-version-ne1.false, eq-eqb _ _ c.if-call-eq1.true)

pub returns : goal.returns
returns c = rw (eq-eqb _ _ c.if-version-ne1.false, ne_eqb _ _ c.if-call-eq1.false)
