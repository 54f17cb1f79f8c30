-- `asked::read_decimal` meets its contract. A number that is kept below 1001 names the same wording.
-- Assumes nothing.
use Rattle.asked.proofs.Decimal.{Read}
use Rattle.asked.proofs.read_decimal.Given as goal

abbrev pub invariant-loop-byte : goal.invariant-loop-byte
invariant-loop-byte l = Read l.text l.value l.byte-index
