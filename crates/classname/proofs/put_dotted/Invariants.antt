-- `classname::put_dotted` meets its contract. The loop's invariant: so many bytes of the dotted name are written.
-- Assumes nothing.
use mathlib.Core.Path.{◌≡◌}
use lib.ListN.{take}
use Rattle.classname.specs.ClassName.{dotted}
use Rattle.text.specs.Writing.{over}
use Rattle.classname.proofs.put_dotted.Given as goal

abbrev pub invariant-loop-i : goal.invariant-loop-i
invariant-loop-i l = l.out ≡ over (take l.i (dotted l.name)) l.initial.out
