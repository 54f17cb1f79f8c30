-- `utf8::put_turned_at` meets its contract. The loop's invariant: what is written and what is left are the whole text.
-- Assumes nothing.
use Prim.Native.Nat.{◌-◌, ◌≤◌}
use mathlib.Core.Path.{◌≡◌}
use lib.ListN.{length}
use Rattle.utf8.proofs.Loops.{SoFar}
use Rattle.utf8.proofs.put_turned_at.Given as goal

abbrev pub invariant-loop-i : goal.invariant-loop-i
invariant-loop-i l = SoFar l.text l.at l.initial.out l.i l.next l.out × (l.i ≤ length l.text) × (length l.out ≡ length l.initial.out)

abbrev pub decreases-loop-i : goal.decreases-loop-i
decreases-loop-i l = length l.text - l.i
