-- `utf8::is_single` meets its contract. One range.
-- Assumes nothing.
use Rattle.utf8.proofs.is_single.Goals as goal

pub returns : goal.returns
returns c = c.within.ensures
