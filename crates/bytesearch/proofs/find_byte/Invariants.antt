-- `bytesearch::find_byte` meets its contract. The loop's invariant: what is found from here is what is found from the start.
-- Assumes nothing.
use Prim.Native.Nat.{◌-◌}
use mathlib.Core.Path.{◌≡◌}
use lib.ListN.{length}
use Rattle.bytesearch.specs.Search.{first_from}
use Rattle.bytesearch.proofs.find_byte.Given as goal

abbrev pub invariant-loop-at : goal.invariant-loop-at
invariant-loop-at l = first_from l.byte l.text l.at ≡ first_from l.byte l.text l.from

abbrev pub decreases-loop-at : goal.decreases-loop-at
decreases-loop-at l = length l.text - l.at
