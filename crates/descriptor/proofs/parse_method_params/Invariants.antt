-- `descriptor::parse_method_params` meets its contract. The loop's invariant: the list from here, with the slots so far, is judged as the list from the start.
-- Assumes nothing.
use Prim.Native.Nat.{◌-◌, ◌*◌, ◌≤◌}
use mathlib.Core.Path.{◌≡◌}
use lib.ListN.{length}
use Rattle.descriptor.specs.Readers.{parameters}
use Rattle.fieldtype.specs.Types.{types_at}
use Rattle.descriptor.proofs.Turns.{call_from}
use Rattle.descriptor.proofs.parse_method_params.Given as goal

abbrev pub invariant-loop-at : goal.invariant-loop-at
invariant-loop-at l = (call_from (types_at l.descriptor l.at) l.slots ≡ parameters l.descriptor) × (l.slots ≤ 2 * l.at) × (l.at ≤ length l.descriptor)

abbrev pub decreases-loop-at : goal.decreases-loop-at
decreases-loop-at l = length l.descriptor - l.at
