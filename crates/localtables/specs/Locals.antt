-- The local record that names a local at an instruction, of a Code in a class file (document 01, "Action and cause": "N is the first record
-- with that slot and start <= load index < start + length"; document 02, request 3: "Several local tables join in file order").
-- Assumes nothing.
use Rattle.std.specs.Prelude.{ℕ, ◌<◌, List, [], ◌∷◌, ◌≡◌, length, Option, Some, None}
use Rattle.basics.specs.Choice.{pick}
use Rattle.format.specs.Format.{times, Reading, right, wrong, read_by}
use Rattle.classformat.specs.Contents.{Name, Local, Tables}
use Rattle.classformat.specs.ClassFile.{joined, local_format, code_attribute_format, code_tables_format}
use Rattle.search.specs.Search.{covers}
use Rattle.localtables.specs.declared.LocalFound.{LocalFound}
use Rattle.localtables.specs.declared.RecordsPlace.{RecordsPlace}
use Rattle.localtables.specs.declared.AttributesPlace.{AttributesPlace}

-- what is found of a record
abbrev pub found_of : Local → LocalFound
found_of l = record { start = l.start; size = l.size; name = l.name }

-- the first record of a slot whose window holds the load's index
unfoldable pub first_local : List Local → ℕ → ℕ → Option LocalFound
first_local [] slot load = None
first_local (l ∷ ls) slot load =
    pick (covers l.start l.size l.slot slot load) (Some (found_of l)) (first_local ls slot load)

-- the records of tables that are right; none where they are wrong
abbrev pub locals_of : Reading Tables → List Local
locals_of (right tables end) = tables.locals
locals_of (wrong offset) = []

abbrev pub local_told : ℕ → ℕ → Reading Tables → Option LocalFound
local_told slot load reading = first_local (locals_of reading) slot load

-- how many they are
abbrev pub count_told : Reading Tables → ℕ
count_told reading = length (locals_of reading)

-- ---- what the walk over a Code's tables answers, for its own use

module _ (names : ℕ → Name) (limit : ℕ) (file : List ℕ) (at : ℕ) where
  -- where an attribute is right, these are its records, and it ends where they do; their number is one of two bytes
  abbrev pub RecordsAt : RecordsPlace → Type 0
  RecordsAt records =
      (records.count < 65536)
      × ((locals : List Local) (end : ℕ) → read_by (code_attribute_format names limit) file at ≡ right locals end →
      (records.stop ≡ end) × (read_by (times records.count (local_format names records.stop)) file records.from ≡ right locals end))

  -- these are right, and their records are those of the tables; their number is one of two bytes
  abbrev pub AttributesAt : AttributesPlace → Type 0
  AttributesAt attributes =
      (tables : List (List Local)) × (end : ℕ)
      × (read_by (times attributes.count (code_attribute_format names limit)) file attributes.from ≡ right tables end)
      × (locals_of (read_by (code_tables_format names limit) file at) ≡ joined tables) × (attributes.count < 65536)
