-- `bytesearch::after_run` meets its contract. The loop's invariant: the run from here ends where that from the start does.
-- Assumes nothing.
use Prim.Native.Nat.{◌+◌, ◌-◌}
use mathlib.Core.Path.{◌≡◌}
use lib.ListN.{length, drop}
use Rattle.bytesearch.specs.Search.{run}
use Rattle.bytesearch.proofs.after_run.Given as goal

abbrev pub invariant-loop-at : goal.invariant-loop-at
invariant-loop-at l = l.at + run l.byte (drop l.at l.text) ≡ l.from + run l.byte (drop l.from l.text)

abbrev pub decreases-loop-at : goal.decreases-loop-at
decreases-loop-at l = length l.text - l.at
