-- The lookup of members by a table of the run (crates/index/specs/Index.antt).
-- Assumes nothing.
use Rattle.std.specs.Prelude.{ℕ, ◌+◌, List, [], ltb, length, Option, Some, None}
use Rattle.basics.specs.Bytes.{u16_at}
use Rattle.basics.specs.Choice.{pick}
use Rattle.index.specs.Index.{found_by}
use Rattle.descriptor.specs.Readers.{field_slots}
use Rattle.effects.specs.Lookup.{Known, missing, known, Lookup, known_by}

unfoldable pub lookup_by : List ℕ → ℕ → List ℕ → Lookup
lookup_by members count table kind index = known_by (found_by members count table index kind)

-- the texts of the member of a kind that the instruction at an index of a code cites; none where the pool index is cut
abbrev pub cited_texts : List ℕ → ℕ → List ℕ → List ℕ → ℕ → ℕ → List ℕ
cited_texts members count table code pc kind =
    pick (ltb (pc + 2) (length code)) (found_by members count table (u16_at code (pc + 1)) kind) []

-- the slots of a field, as far as it is known
abbrev pub slots_known : Known → Option ℕ
slots_known missing = None
slots_known (known descriptor) = Some (field_slots descriptor)

-- of the field that the instruction at an index cites; none where the pool index is cut or there is no such field
abbrev pub cited_slots : Lookup → List ℕ → ℕ → Option ℕ
cited_slots lookup code pc = pick (ltb (pc + 2) (length code)) (slots_known (lookup 0 (u16_at code (pc + 1)))) None
