-- `names::put_brackets` meets its contract. The loop's invariant: so many bytes of the pairs are written.
-- Assumes nothing.
use mathlib.Core.Path.{◌≡◌}
use lib.ListN.{take}
use Rattle.names.specs.Names.{bracket_pairs}
use Rattle.text.specs.Writing.{over}
use Rattle.names.proofs.put_brackets.Given as goal

abbrev pub invariant-loop-i : goal.invariant-loop-i
invariant-loop-i l = l.out ≡ over (take l.i (bracket_pairs l.dims)) l.initial.out
