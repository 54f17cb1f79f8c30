-- `records::find_in_runs` meets its contract. The loop's invariant: the first match from here is the first match from the start.
-- Assumes nothing.
use mathlib.Core.Path.{◌≡◌}
use Rattle.tables.specs.LocalRecord.{records_in}
use Rattle.search.specs.Search.{first_match}
use Rattle.records.proofs.find_in_runs.Given as goal

abbrev pub invariant-loop-left : goal.invariant-loop-left
invariant-loop-left l = first_match (records_in l.records l.left l.at) l.slot l.load ≡ first_match (records_in l.records l.count 0) l.slot l.load

abbrev pub decreases-loop-left : goal.decreases-loop-left
decreases-loop-left l = l.left
