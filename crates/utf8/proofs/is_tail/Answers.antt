-- `utf8::is_tail` meets its contract. One range.
-- Assumes nothing.
use Rattle.utf8.proofs.is_tail.Goals as goal

pub returns : goal.returns
returns c = c.within.ensures
