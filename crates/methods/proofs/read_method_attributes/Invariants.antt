-- `methods::read_method_attributes` meets its contract. The invariant: what is left answers, behind the code that was found, what all of it
-- answers.
-- Assumes nothing.
use Prim.Native.Nat.{◌-◌}
use mathlib.Core.Path.{◌≡◌}
use Rattle.format.specs.Format.{each, read_by}
use Rattle.classformat.specs.Contents.{Body, bodiless}
use Rattle.classformat.specs.ClassFile.{method_attribute_format}
use Rattle.entries.specs.Entries.{names_by}
use Rattle.methods.specs.Method.{body_place, body_told}
use Rattle.methods.proofs.read_method_attributes.Given as goal

abbrev pub invariant-loop : goal.invariant-loop
invariant-loop l = (before : Body) × (body_place before ≡ l.body)
    × (body_told (read_by (each l.count (method_attribute_format (names_by l.file l.table) l.limit) bodiless) l.file l.from)
    ≡ body_told (read_by (each (l.count - l.counter) (method_attribute_format (names_by l.file l.table) l.limit) before) l.file l.at))
