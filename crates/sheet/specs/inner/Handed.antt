-- What the parts of the code hand each other. No public contract cites these.
use Rattle.std.specs.Prelude.{ℕ, ◌+◌, true, false, List, eqb, length, Float}
use Rattle.std.proofs.lemmas.List.Edits.{sets}
use Rattle.leaves.specs.Reply.{refused}
use Rattle.leaves.specs.Tests.{first_of}
use Rattle.sheet.specs.Sheet.{job_of}
use Rattle.sheet.specs.Tests.{number_tests, numbers_of}
use Rattle.sheet.specs.Fit.{Fit, Finished, finished, worked}
use Rattle.sheet.specs.declared.head.Head.{Head}

-- a sheet after the tests of its head and its length
unfoldable pub numbers_call : Head → List ℕ → List Float → Finished Fit
numbers_call h s step =
    let c = first_of (number_tests h (numbers_of h s)) in
    elim (eqb c 0) [ true ↦ worked (job_of h (numbers_of h s)) step | false ↦ finished (refused c) step ]

-- the place behind the bytes, and the buffer with them from place `at` on
abbrev pub put : List ℕ → ℕ → List ℕ → ℕ × List ℕ
put bytes at l = (at + length bytes, sets l at bytes)
