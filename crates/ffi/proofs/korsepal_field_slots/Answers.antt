-- `ffi::korsepal_field_slots` meets its contract. The slots, as a number of 32 bits.
-- Assumes nothing.
use Rattle.ffi.proofs.korsepal_field_slots.Goals as goal

pub returns : goal.returns
returns c = rw (← c.slots_of_field_type.ensures, c.low_bits.ensures)
