-- What is kept stays kept. Assumes nothing.
use mathlib.Core.Path.{refl, ◌∙◌}
use Rattle.eliminate.specs.declared.elimination.Elimination.{Elimination}
use Rattle.eliminate.specs.inner.Kept.{Kept}

pub kept_as : (e : Elimination) → Kept e e
kept_as e = record { size = refl; square = refl; right = refl }

pub kept_on : {e f g : Elimination} → Kept e f → Kept f g → Kept e g
kept_on k l = record { size = l.size ∙ k.size; square = l.square ∙ k.square; right = l.right ∙ k.right }
