-- `replay::replay` meets its contract. Each turn counts one row at most.
-- Assumes nothing.
use Rattle.std.proofs.Common.{◌≤◌}
use Rattle.replay.proofs.replay.Given as goal

abbrev pub invariant-loop : goal.invariant-loop
invariant-loop g l = l.agreeing ≤ l.counter
