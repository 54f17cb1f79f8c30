-- `structs::slot_numbers` meets its contract. One arm an answer.
-- Assumes nothing.
use Rattle.structs.proofs.slot_numbers.Goals as goal

pub returns-in-Some : goal.returns-in-Some
returns-in-Some c = rw (c.in-Some.is, c.low_bits.ensures)

pub returns-in-None : goal.returns-in-None
returns-in-None c = rw c.in-None.is
