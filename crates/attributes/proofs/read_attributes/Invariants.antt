-- `attributes::read_attributes` meets its contract. The invariant: what is left answers what all of it answers.
-- Assumes nothing.
use Prim.Native.Nat.{◌-◌}
use mathlib.Core.Path.{◌≡◌}
use Rattle.format.specs.Format.{times, read_by}
use Rattle.format.specs.Items.{run_of}
use Rattle.classformat.specs.ClassFile.{attribute_format}
use Rattle.entries.specs.Entries.{names_by}
use Rattle.attributes.proofs.read_attributes.Given as goal

abbrev pub invariant-loop : goal.invariant-loop
invariant-loop l = run_of (read_by (times l.count (attribute_format (names_by l.file l.table) l.limit)) l.file l.from) ≡ run_of (read_by (times (l.count - l.counter) (attribute_format (names_by l.file l.table) l.limit)) l.file l.at)
