-- `leader::scan_with` meets its contract. The loop's invariant: what the scan answers from here is what it answers at first.
-- Assumes nothing.
use Prim.Native.Nat.{◌-◌, ◌≤◌}
use mathlib.Core.List.{[], ◌∷◌}
use mathlib.Core.Path.{◌≡◌}
use lib.ListN.{length}
use Rattle.bytecode.specs.Length.{length_of}
use Rattle.leader.specs.Scan.{scan_from, block_leader}
use Rattle.leader.proofs.Scanning.{onward}
use Rattle.leader.proofs.scan_with.Given as goal

abbrev pub invariant-loop-pc : goal.invariant-loop-pc
invariant-loop-pc l = (onward l.code l.fault l.best l.count (scan_from length_of l.code (length l.code - l.count) l.pc) ≡ block_leader length_of (l.extra ∷ []) l.code l.fault)
    × (l.count ≤ l.pc) × (l.pc ≤ length l.code)

abbrev pub decreases-loop-pc : goal.decreases-loop-pc
decreases-loop-pc l = length l.code - l.pc
