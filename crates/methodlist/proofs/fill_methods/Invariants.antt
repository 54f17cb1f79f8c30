-- `methodlist::fill_methods` meets its contract. The invariant: what is still to be written over what stands gives the whole, and there is
-- room for it.
-- Assumes nothing.
use Prim.Native.Nat.{◌+◌, ◌*◌, ◌≤◌, ◌-◌}
use mathlib.Core.Path.{◌≡◌}
use lib.ListN.{length}
use Rattle.basics.specs.Parts.{overlaid}
use Rattle.classformat.specs.ClassFile.{method_format}
use Rattle.entries.specs.Entries.{entry_by, names_by}
use Rattle.localtables.proofs.Behind.{Onward}
use Rattle.methodlist.specs.List.{listed}
use Rattle.methodlist.proofs.fill_methods.Given as goal

abbrev pub invariant-loop : goal.invariant-loop
invariant-loop l = (l.k + 8 * (l.count - l.counter) ≤ length l.numbers) × (length l.numbers ≡ length l.initial.numbers)
    × Onward (method_format (names_by l.file l.table) (length l.file)) (λ methods. overlaid 0 (listed (entry_by l.file l.table) methods) l.initial.numbers) (λ methods. overlaid l.k (listed (entry_by l.file l.table) methods) l.numbers) l.file l.count l.initial.at (l.count - l.counter) l.at
