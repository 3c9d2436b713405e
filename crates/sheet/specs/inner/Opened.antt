-- One name for every definition below and of this crate, so that a table of examples says `unfolding opened` and computes with them.
use Rattle.std.specs.Float.Ieee.{to_bits}
use Rattle.measures.specs.inner.Opened.{opened as measures}
use Rattle.search.specs.inner.Opened.{opened as search}
use Rattle.text.specs.Digit.{glyph}
use Rattle.text.specs.Put.{digits, places_from, places_of, decimal_of}
use Rattle.sheet.specs.Sheet.{big, head_of, doubles, count_of, task_of, job_of}
use Rattle.sheet.specs.Tests.{sheet_tests}
use Rattle.sheet.specs.Fit.{sought_from, started_from, task_from, worked_in, worked, sheet_call}
use Rattle.sheet.specs.Lines.{radius_word, lambda_word, norm_word, trials_word, determined_word, step_word, refused_word, step_lines, count_lines, fitted_lines, lines_of, sheet_text, printed, lines_call, text_call}

unfoldable pub opened : Unit {0}
unfolding measures search to_bits glyph digits places_from places_of decimal_of big head_of doubles count_of task_of job_of sheet_tests sought_from started_from task_from worked_in worked sheet_call radius_word lambda_word norm_word trials_word determined_word step_word refused_word step_lines count_lines fitted_lines lines_of sheet_text printed lines_call text_call
opened = tt
