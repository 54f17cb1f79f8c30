-- `names::put_params_at` meets its contract. The loop's invariant: what is written and what is left are the whole list.
-- Assumes nothing.
use Prim.Native.Nat.{◌-◌, ◌≤◌}
use mathlib.Core.Path.{◌≡◌}
use lib.ListN.{length}
use Rattle.names.proofs.Left.{SoFar}
use Rattle.names.proofs.put_params_at.Given as goal

abbrev pub invariant-loop-index : goal.invariant-loop-index
invariant-loop-index l = SoFar l.descriptor l.at l.initial.out l.index l.next l.out × (1 ≤ l.index) × (length l.out ≡ length l.initial.out)

abbrev pub decreases-loop-index : goal.decreases-loop-index
decreases-loop-index l = length l.descriptor - l.index
