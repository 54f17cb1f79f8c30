-- `localtables::count_attributes` meets its contract. The invariant: the records so far and those of the attributes that are left
-- are all of them, and there is room for as many as the attributes that are left can have.
-- Assumes nothing.
use Prim.Native.Nat.{◌+◌, ◌*◌, ◌≤◌, ◌-◌}
use lib.ListN.{length}
use Rattle.classformat.specs.ClassFile.{joined, code_attribute_format}
use Rattle.entries.specs.Entries.{names_by}
use Rattle.localtables.proofs.Behind.{Onward}
use Rattle.localtables.proofs.count_attributes.Given as goal

abbrev pub invariant-loop : goal.invariant-loop
invariant-loop l = (l.total + 65535 * (l.fn.attributes.count - l.counter) ≤ 65535 * l.fn.attributes.count)
    × Onward (code_attribute_format (names_by l.file l.table) l.limit) (λ tables. length (joined tables)) (λ tables. l.total + length (joined tables)) l.file l.fn.attributes.count l.initial.at (l.fn.attributes.count - l.counter) l.at
