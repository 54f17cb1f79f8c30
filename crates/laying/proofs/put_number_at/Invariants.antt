-- `laying::put_number_at` meets its contract. The loop's invariant: whoever writes what is left, from the place reached on, has written
-- the number.
-- Assumes nothing.
use Prim.Native.Nat.{ℕ}
use mathlib.Core.Path.{◌≡◌}
use mathlib.Core.List.{List}
use lib.ListN.{length}
use Rattle.text.specs.Writing.{Written}
use Rattle.number.specs.Number.{number_bytes}
use Rattle.laying.proofs.put_number_at.Given as goal

abbrev pub invariant-loop-left : goal.invariant-loop-left
invariant-loop-left l = ((end : ℕ) (after : List ℕ) → Written l.next (number_bytes l.left) l.out end after → Written l.at (number_bytes l.n) l.initial.out end after)
    × (length l.out ≡ length l.initial.out)

abbrev pub decreases-loop-left : goal.decreases-loop-left
decreases-loop-left l = l.left
