-- `ffi::korsepal_return_slots` meets its contract. The numbers of what the library answers.
-- Assumes nothing.
use mathlib.Core.Path.{ap, ◌∙◌}
use Rattle.structs.specs.Structs.{slot_numbers}
use Rattle.ffi.proofs.korsepal_return_slots.Goals as goal

pub returns : goal.returns
returns c = c.slot_numbers.ensures ∙ ap slot_numbers c.return_type_slots-slots.ensures
