-- `ffi::korsepal_report_full` meets its contract. The numbers of what the library answers in the full model; output and stack are as it
-- leaves them.
-- Assumes nothing.
use mathlib.Core.Path.{ap, ◌∙◌}
use Rattle.structs.specs.Structs.{report_numbers}
use Rattle.ffi.proofs.korsepal_report_full.Goals as goal

pub returns : goal.returns
returns c =
    let told = rw c.full_manner.ensures at c.build_message_in-answer.ensures in
    record {
      answers = c.report_numbers.ensures ∙ ap report_numbers told.answers;
      leaves = told.leaves;
      clears = told.clears;
    }
