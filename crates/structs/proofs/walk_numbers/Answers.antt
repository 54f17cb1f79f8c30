-- `structs::walk_numbers` meets its contract. One arm an answer.
-- Assumes nothing.
use Rattle.walk.specs.Room.{numbered}
use Rattle.structs.proofs.walk_numbers.Goals as goal

pub returns-in-Done : goal.returns-in-Done
unfolding numbered
returns-in-Done c = rw c.in-Done.is

pub returns-in-Failed : goal.returns-in-Failed
unfolding numbered
returns-in-Failed c = rw c.in-Failed.is

pub returns-in-NoRoom : goal.returns-in-NoRoom
unfolding numbered
returns-in-NoRoom c = rw c.in-NoRoom.is
