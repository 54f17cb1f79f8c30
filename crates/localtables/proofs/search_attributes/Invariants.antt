-- `localtables::search_attributes` meets its contract. The invariant: the first match of the attributes that are left is the
-- first match of all of them.
-- Assumes nothing.
use Prim.Native.Nat.{◌-◌}
use Rattle.classformat.specs.ClassFile.{joined, code_attribute_format}
use Rattle.entries.specs.Entries.{names_by}
use Rattle.localtables.specs.Locals.{first_local}
use Rattle.localtables.proofs.Behind.{Onward}
use Rattle.localtables.proofs.search_attributes.Given as goal

abbrev pub invariant-loop : goal.invariant-loop
invariant-loop l = Onward (code_attribute_format (names_by l.file l.table) l.limit) (λ tables. first_local (joined tables) l.slot l.load) (λ tables. first_local (joined tables) l.slot l.load) l.file l.fn.attributes.count l.initial.at (l.fn.attributes.count - l.counter) l.at
