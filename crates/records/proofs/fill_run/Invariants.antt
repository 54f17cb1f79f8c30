-- `records::fill_run` meets its contract. The run's first records stand, and with the rest that is yet to be read they are the case's.
-- Assumes nothing.
use Rattle.std.proofs.Common.{length, ◌≡◌}
use Rattle.tables.specs.LocalRecord.{records_in}
use Rattle.records.specs.Run.{run_of}
use Rattle.records.proofs.Fill.{filled_to}
use Rattle.records.proofs.fill_run.Given as goal

abbrev pub invariant-loop-local : goal.invariant-loop-local
invariant-loop-local l =
    filled_to l.bytes (length l.initial.local-items) l.local-index l.local-items l.reading
    ≡ run_of (length l.initial.local-items) (records_in l.bytes l.count l.at)
