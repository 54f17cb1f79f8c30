-- `utf8::is_modified` meets its contract. The loop's invariant: what is left is right exactly where the whole is.
-- Assumes nothing.
use Prim.Native.Nat.{◌-◌, ◌≤◌}
use lib.ListN.{length}
use Rattle.utf8.proofs.Loops.{Judged}
use Rattle.utf8.proofs.is_modified.Given as goal

abbrev pub invariant-loop-i : goal.invariant-loop-i
invariant-loop-i l = Judged l.text l.i × (l.i ≤ length l.text)

abbrev pub decreases-loop-i : goal.decreases-loop-i
decreases-loop-i l = length l.text - l.i
