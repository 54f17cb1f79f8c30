-- `answer::kind_of` meets its contract. One answer for each kind of slot.
-- Assumes nothing.
use Rattle.answer.proofs.kind_of.Goals as goal

pub returns-in-None : goal.returns-in-None
returns-in-None c = rw c.in-None.is

pub returns-in-Some : goal.returns-in-Some
returns-in-Some c = rw c.in-Some.is
