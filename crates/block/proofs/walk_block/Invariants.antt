-- `block::walk_block` meets its contract. The loop's invariant: the walk from here on is the walk from the leader.
-- Assumes nothing.
use Prim.Native.Nat.{◌-◌}
use lib.ListN.{length}
use Rattle.effects.specs.Rows.{rows_of}
use Rattle.block.proofs.Looping as looping
use Rattle.block.proofs.walk_block.Given as goal

abbrev pub invariant-loop-pc : goal.invariant-loop-pc
invariant-loop-pc l = looping.Inv (rows_of l.model) l.code l.members l.count l.leader l.fault (length l.initial.stack) l.stack l.pc l.height l.completed

abbrev pub decreases-loop-pc : goal.decreases-loop-pc
decreases-loop-pc l = l.fault - l.pc
