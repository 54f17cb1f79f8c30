-- `tables::read_members` meets its contract. The invariant: the members from here on answer what all of them answer.
-- Assumes nothing.
use Prim.Native.Nat.{◌-◌, ◌≤◌}
use mathlib.Core.Path.{◌≡◌}
use lib.ListN.{length}
use Rattle.tables.specs.Layout.{members_then, ended, run_by}
use Rattle.tables.proofs.read_members.Given as goal

abbrev pub invariant-loop : goal.invariant-loop
invariant-loop l =
    (run_by (members_then l.count 0 ended) l.bytes l.from ≡ run_by (members_then (l.count - l.counter) l.last ended) l.bytes l.at)
    × (l.from ≤ l.at) × (l.from ≤ length l.bytes → l.at ≤ length l.bytes)
