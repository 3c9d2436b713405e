use Rattle.std.proofs.Common.{rules}
use native.Mathlib.Omega.{arith}
use mathlib.Core.List.{◌++◌}
use Rattle.sheet.proofs.Texts.{put-put, as_long}
use Rattle.text.specs.Put.{decimal_of}
use Rattle.sheet.specs.Lines.{line, double, lambda_word, norm_word, trials_word, determined_word, count_lines}
use Rattle.sheet.proofs.put.count_lines.Goals as goal

pub double_line-requires-2 : goal.double_line-requires-2
unfolding lambda_word
double_line-requires-2 c = omega (arith, as_long (line lambda_word (double c.args.f.lambda)) _ _ c.double_line.ensures.out_after)

pub number_line-requires : goal.number_line-requires
unfolding lambda_word norm_word
number_line-requires c =
    let f = c.args.f in
    let p = as_long (line lambda_word (double f.lambda)) _ _ c.double_line.ensures.out_after in
    omega (arith, p, as_long (line norm_word (double f.norm)) _ _ c.double_line-2.ensures.out_after)

pub number_line-requires-2 : goal.number_line-requires-2
unfolding lambda_word norm_word trials_word
number_line-requires-2 c =
    let f = c.args.f in
    let p = as_long (line lambda_word (double f.lambda)) _ _ c.double_line.ensures.out_after in
    let q = as_long (line norm_word (double f.norm)) _ _ c.double_line-2.ensures.out_after in
    omega (arith, p, q, as_long (line trials_word (decimal_of f.trials)) _ _ c.number_line.ensures.out_after)

pub returns : goal.returns
unfolding count_lines lambda_word norm_word trials_word determined_word
returns c =
    let g = c.args in
    let l = g.page.now.out.now in
    let a = line lambda_word (double g.f.lambda) in
    let b = line norm_word (double g.f.norm) in
    let d = line trials_word (decimal_of g.f.trials) in
    let e = line determined_word (decimal_of g.f.determined) in
    let p = put-put a b l g.page.now.at c.double_line.ensures.out_after c.double_line-2.ensures.out_after in
    let q = put-put (a ++ b) d l g.page.now.at p c.number_line.ensures.out_after in
    let s = put-put ((a ++ b) ++ d) e l g.page.now.at q c.number_line-2.ensures.out_after in
    record { out_after = s; upper_bound = omega (arith, c.double_line.ensures.value, c.double_line-2.ensures.value, c.number_line.ensures.upper_bound, c.number_line-2.ensures.upper_bound); same_out = search rules }
