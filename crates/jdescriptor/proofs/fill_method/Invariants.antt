-- `jdescriptor::fill_method` meets its contract. Invariant: what is still to be written over what stands gives the whole.
-- Assumes nothing.
use Prim.Native.Nat.{◌-◌}
use lib.ListN.{length}
use Rattle.jdescriptor.proofs.Filling.{Writing}
use Rattle.jdescriptor.proofs.fill_method.Given as goal

abbrev pub invariant-loop-t : goal.invariant-loop-t
invariant-loop-t l = Writing l.text l.initial.numbers l.numbers l.at l.k

abbrev pub decreases-loop-t : goal.decreases-loop-t
decreases-loop-t l = length l.text - l.at
