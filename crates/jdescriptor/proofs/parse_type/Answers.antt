-- `jdescriptor::parse_type` meets its contract. The check finds the rest; here the numbers of the one type are opened as well.
-- Assumes nothing.
use Rattle.std.proofs.Common.{rules}
use Rattle.judging.specs.Reading.{type_reading}
use Rattle.jdescriptor.specs.Answer.{numbers_of, written}
use Rattle.jdescriptor.proofs.parse_type.Goals as goal

pub returns-clause-numbers_after : goal.returns-clause-numbers_after
unfolding type_reading written numbers_of
returns-clause-numbers_after c = search rules
