-- `leader::entry_targets` meets its contract. The loop's invariant: the maximum so far with the entries left is that of all entries.
-- Assumes nothing.
use Prim.Native.Nat.{◌+◌, ◌-◌, ◌*◌, max, ◌≤◌}
use mathlib.Core.Path.{◌≡◌}
use lib.ListN.{length}
use Rattle.greatest.specs.Greatest.{greatest}
use Rattle.leader.specs.Targets.{entry_targets}
use Rattle.leader.proofs.entry_targets.Given as goal

abbrev pub invariant-loop : goal.invariant-loop
invariant-loop l =
    (max l.top (greatest l.fault (entry_targets l.code l.pc l.step (l.count - l.counter) l.at))
    ≡ max l.best (greatest l.fault (entry_targets l.code l.pc l.step l.count l.from)))
    × (l.at + (l.count - l.counter) * l.step ≤ length l.code + 12)
