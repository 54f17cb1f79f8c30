-- `judging::judge_method` meets its contract. Invariant: what is judged from here, behind the types so far, is the whole.
-- Assumes nothing.
use Prim.Native.Nat.{◌-◌}
use lib.ListN.{length}
use Rattle.judging.proofs.Judging.{Judging}
use Rattle.judging.proofs.judge_method.Given as goal

abbrev pub invariant-loop-t : goal.invariant-loop-t
invariant-loop-t l = Judging l.text l.at l.count

abbrev pub decreases-loop-t : goal.decreases-loop-t
decreases-loop-t l = length l.text - l.at
