-- `pool::read_pool` meets its contract. The loop's invariant: from here on the pool answers what all of it answers, and the table becomes
-- what it becomes by all of it.
-- Assumes nothing.
use Prim.Native.Nat.{◌-◌}
use lib.ListN.{length}
use Rattle.pool.proofs.Filling.{Filling}
use Rattle.pool.proofs.read_pool.Given as goal

abbrev pub invariant-loop-number : goal.invariant-loop-number
invariant-loop-number l = Filling l.file l.count (length l.initial.table) l.table l.at l.number (l.count - l.number) l.behind_wide
