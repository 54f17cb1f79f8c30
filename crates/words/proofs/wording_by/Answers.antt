-- `words::wording_by` meets its contract. Each arm by its number; what is behind the arms names no wording.
-- Assumes nothing.
use mathlib.Core.Path.{sym}
use Rattle.words.proofs.Wordings.{unknown}
use Rattle.words.proofs.wording_by.Goals as goal

pub returns-in-1 : goal.returns-in-1
returns-in-1 c = rw c.in-1.is

pub returns-in-2 : goal.returns-in-2
returns-in-2 c = rw c.in-2.is

-- the keys of the arms, the last first
pub returns-in_default : goal.returns-in_default
returns-in_default c = sym (unknown c.args.number c.in_default.in_default-own.rest.0.1 c.in_default.in_default-own.rest.1)
