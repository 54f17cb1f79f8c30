-- `ffi::korsepal_report` meets its contract. The numbers of what the library answers; output and stack are as it leaves them.
-- Assumes nothing.
use mathlib.Core.Path.{ap, ◌∙◌}
use Rattle.structs.specs.Structs.{report_numbers}
use Rattle.ffi.proofs.korsepal_report.Goals as goal

pub returns : goal.returns
returns c =
    let told = c.build_message-answer.ensures in
    record {
      answers = c.report_numbers.ensures ∙ ap report_numbers told.answers;
      leaves = told.leaves;
      clears = told.clears;
    }
