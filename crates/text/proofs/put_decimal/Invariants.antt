-- `text::put_decimal` meets its contract. The loop's invariant: the digits of what is left, written over the output, make it what the
-- whole number makes of it.
-- Assumes nothing.
use Prim.Native.Nat.{◌≤◌}
use mathlib.Core.Path.{◌≡◌}
use lib.ListN.{length}
use Rattle.text.specs.Decimal.{decimal}
use Rattle.text.specs.Writing.{over}
use Rattle.text.proofs.put_decimal.Given as goal

abbrev pub invariant-loop-left : goal.invariant-loop-left
invariant-loop-left l = (over (decimal l.left) l.out ≡ over (decimal l.n) l.initial.out) × (l.at ≡ length (decimal l.left)) × (l.left ≤ l.n)

abbrev pub decreases-loop-left : goal.decreases-loop-left
decreases-loop-left l = l.left
