-- `descriptor::parameter_at` meets its contract. The loop's invariant: the parameter sought from here is the one sought from the start.
-- Assumes nothing.
use Prim.Native.Nat.{◌-◌, ◌*◌, ◌≤◌}
use mathlib.Core.Path.{◌≡◌}
use lib.ListN.{length}
use Rattle.descriptor.specs.Readers.{starting_at, parameter_at}
use Rattle.fieldtype.specs.Types.{types_at}
use Rattle.descriptor.proofs.parameter_at.Given as goal

abbrev pub invariant-loop-at : goal.invariant-loop-at
invariant-loop-at l = (starting_at (types_at l.descriptor l.at) l.first l.slot l.k ≡ parameter_at l.descriptor l.instance l.slot)
    × (l.first ≤ 2 * l.at) × (l.k ≤ l.at)

abbrev pub decreases-loop-at : goal.decreases-loop-at
decreases-loop-at l = length l.descriptor - l.at
