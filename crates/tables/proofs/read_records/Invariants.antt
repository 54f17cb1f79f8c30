-- `tables::read_records` meets its contract. The invariant: the records from here on answer what all of them answer.
-- Assumes nothing.
use Prim.Native.Nat.{◌-◌, ◌≤◌}
use mathlib.Core.Path.{◌≡◌}
use lib.ListN.{length}
use Rattle.tables.specs.Layout.{records_then, ended, run_by}
use Rattle.tables.proofs.read_records.Given as goal

abbrev pub invariant-loop : goal.invariant-loop
invariant-loop l =
    (run_by (records_then l.count ended) l.bytes l.from ≡ run_by (records_then (l.count - l.counter) ended) l.bytes l.at)
    × (l.from ≤ l.at) × (l.from ≤ length l.bytes → l.at ≤ length l.bytes)
