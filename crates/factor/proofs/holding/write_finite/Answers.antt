use mathlib.Core.Path.{refl, sym, ◌∙◌}
use mathlib.Core.Bool.{true≢false}
use Rattle.factor.proofs.holding.write_finite.Goals as goal

pub returns-then-all_finite : goal.returns-then-all_finite
returns-then-all_finite c = record { value = sym c.if-all_finite.true ∙ c.all_finite.ensures; out_after = λ h. c.write_first.ensures; out_unchanged = λ h. absurd (true≢false h) }

pub returns : goal.returns
returns c = record { value = sym c.if-all_finite.false ∙ c.all_finite.ensures; out_after = λ h. absurd (true≢false (sym h)); out_unchanged = λ h. refl }
