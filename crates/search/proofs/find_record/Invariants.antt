-- `search::find_record` meets its contract. The loop's invariant: the first match from here is the first match from the start.
-- Assumes nothing.
use Prim.Native.Nat.{◌-◌}
use mathlib.Core.Path.{◌≡◌}
use Rattle.tables.specs.LocalRecord.{records_in}
use Rattle.search.specs.Search.{first_match}
use Rattle.search.proofs.find_record.Given as goal

abbrev pub invariant-loop : goal.invariant-loop
invariant-loop l =
    first_match (records_in l.records l.count 0) l.slot l.load
    ≡ first_match (records_in l.records (l.count - l.counter) l.at) l.slot l.load
