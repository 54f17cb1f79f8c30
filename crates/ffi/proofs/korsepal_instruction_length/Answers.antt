-- `ffi::korsepal_instruction_length` meets its contract. The numbers of what the library answers.
-- Assumes nothing.
use mathlib.Core.Path.{ap, ◌∙◌}
use Rattle.structs.specs.Structs.{length_numbers}
use Rattle.ffi.proofs.korsepal_instruction_length.Goals as goal

pub returns : goal.returns
returns c = c.length_numbers.ensures ∙ ap length_numbers c.instruction_length-length.ensures
