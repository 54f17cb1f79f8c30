-- `number::read_number` meets its contract. The measure is the limit, which each group behind the first lessens.
-- Assumes nothing.
use Rattle.number.proofs.+read_number.Given as goal

abbrev pub decreases-read_number : goal.decreases-read_number
decreases-read_number l = l.limit
