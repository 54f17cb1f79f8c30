-- `ffi::korsepal_parse_type` meets its contract. The numbers of what the library answers.
-- Assumes nothing.
use mathlib.Core.Path.{ap, ◌∙◌}
use Rattle.structs.specs.Structs.{strict_numbers}
use Rattle.ffi.proofs.korsepal_parse_type.Goals as goal

pub returns : goal.returns
returns c =
    record { answers = c.strict_numbers.ensures ∙ ap strict_numbers c.parse_type-answer.ensures.value; leaves = c.parse_type-answer.ensures.numbers_after }
