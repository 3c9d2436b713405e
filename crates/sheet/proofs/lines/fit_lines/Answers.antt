use mathlib.Core.Path.{◌≡◌, ap, ◌∙◌}
use lib.Ieee.{of_bits}
use Rattle.leaves.specs.Reply.{Reply}
use Rattle.sheet.specs.Fit.{Fit, numbered_of, fit_of, finished}
use Rattle.sheet.proofs.Printing.{numbered-same, sheet-printed}
use Rattle.sheet.proofs.lines.fit_lines.Goals as goal

pub returns : goal.returns
unfolding of_bits
returns c =
    let e : numbered_of c.map_err-a.result ≡ fit_of c.fit.result = numbered-same c.fit.result c.map_err-a.result c.map_err-a.ensures.cases in
    sheet-printed c.args.sheet.now c.args.text.now c.filled-step.ensures (ap (λ (x : Reply Fit). finished x c.fit.new.step) e ∙ c.fit.ensures) c.fit.auto.step c.write_lines.ensures
