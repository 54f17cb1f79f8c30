-- `localtables::search_records` meets its contract. The invariant: the first match of the records that are left is the first
-- match of all of them.
-- Assumes nothing.
use Prim.Native.Nat.{◌-◌}
use Rattle.classformat.specs.ClassFile.{local_format}
use Rattle.entries.specs.Entries.{names_by}
use Rattle.localtables.specs.Locals.{first_local}
use Rattle.localtables.proofs.Behind.{Onward}
use Rattle.localtables.proofs.search_records.Given as goal

abbrev pub invariant-loop : goal.invariant-loop
invariant-loop l = Onward (local_format (names_by l.file l.table) l.limit) (λ locals. first_local locals l.slot l.load) (λ locals. first_local locals l.slot l.load) l.file l.fn.records.count l.initial.at (l.fn.records.count - l.counter) l.at
