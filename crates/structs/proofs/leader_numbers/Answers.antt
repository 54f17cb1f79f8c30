-- `structs::leader_numbers` meets its contract. One arm an answer.
-- Assumes nothing.
use Rattle.leader.specs.Scan.{numbered}
use Rattle.structs.proofs.leader_numbers.Goals as goal

pub returns-in-Ok : goal.returns-in-Ok
unfolding numbered
returns-in-Ok c = rw c.in-Ok.is

pub returns-in-Err : goal.returns-in-Err
unfolding numbered
returns-in-Err c = rw c.in-Err.is
