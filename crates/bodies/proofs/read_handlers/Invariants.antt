-- `bodies::read_handlers` meets its contract. The invariant: what is left answers what all of it answers.
-- Assumes nothing.
use Prim.Native.Nat.{◌-◌}
use mathlib.Core.Path.{◌≡◌}
use Rattle.format.specs.Format.{times, read_by}
use Rattle.format.specs.Items.{run_of}
use Rattle.classformat.specs.ClassFile.{handler_format}
use Rattle.bodies.proofs.read_handlers.Given as goal

abbrev pub invariant-loop : goal.invariant-loop
invariant-loop l = run_of (read_by (times l.count (handler_format l.limit)) l.file l.from) ≡ run_of (read_by (times (l.count - l.counter) (handler_format l.limit)) l.file l.at)
