use native.Mathlib.Omega.{arith}
use mathlib.Core.Path.{◌≡◌, sym, ap, ◌∙◌}
use Prim.Native.Nat.{ℕ}
use Rattle.std.specs.Prelude.{Result, Ok}
use Rattle.sheet.proofs.Texts.{put-put, as_long}
use Rattle.sheet.specs.Fit.{numbered_of}
use Rattle.sheet.specs.Lines.{line, double, radius_word, refused_word, fitted_lines, lines_of}
use Rattle.sheet.specs.inner.Handed.{put}
use Rattle.sheet.specs.declared.answer.Answer.{Answer}
use Rattle.sheet.specs.declared.answer.Answer.TheVariants as answer
use Rattle.sheet.proofs.lines.answer_lines.Goals as goal

pub returns-in-Ok-Searched-clause-out_after : goal.returns-in-Ok-Searched-clause-out_after
unfolding lines_of
returns-in-Ok-Searched-clause-out_after c =
    let e : c.args.a ≡ Ok (answer.Searched c.in-Ok-Searched.f) = c.in-Ok-Searched.is ∙ ap Ok (rw c.in-Ok-Searched.is at c.in-Ok-Searched.field-0-is) in
    c.fitted_lines.ensures.out_after ∙ ap (λ (x : Result Answer ℕ). put (lines_of (numbered_of x) c.args.step.now) c.args.page.now.at c.args.page.now.out.now) (sym e)

pub fitted_lines-requires-in-Ok-Started-clause-at_in_bounds : goal.fitted_lines-requires-in-Ok-Started-clause-at_in_bounds
unfolding radius_word
fitted_lines-requires-in-Ok-Started-clause-at_in_bounds c = omega (arith, as_long (line radius_word (double c.in-Ok-Started.t.radius)) _ _ c.double_line.ensures.out_after)

pub returns-in-Ok-Started-clause-out_after : goal.returns-in-Ok-Started-clause-out_after
unfolding lines_of radius_word
returns-in-Ok-Started-clause-out_after c =
    let t = c.in-Ok-Started.t in
    let e : c.args.a ≡ Ok (answer.Started t) = c.in-Ok-Started.is ∙ ap Ok (rw c.in-Ok-Started.is at c.in-Ok-Started.field-0-is) in
    put-put (line radius_word (double t.radius)) (fitted_lines t.fitted c.args.step.now) c.args.page.now.out.now c.args.page.now.at c.double_line.ensures.out_after c.fitted_lines-in-Ok-Started.ensures.out_after
    ∙ ap (λ (x : Result Answer ℕ). put (lines_of (numbered_of x) c.args.step.now) c.args.page.now.at c.args.page.now.out.now) (sym e)

pub returns-in-Err-clause-out_after : goal.returns-in-Err-clause-out_after
unfolding lines_of refused_word
returns-in-Err-clause-out_after c = c.number_line.ensures.out_after ∙ ap (λ (x : Result Answer ℕ). put (lines_of (numbered_of x) c.args.step.now) c.args.page.now.at c.args.page.now.out.now) (sym c.in-Err.is)
