-- The local records that a run of bytes holds (document 01, "The case"): what a search over the run goes through. The
-- statement at the end is proved in proofs/ of this crate.
-- Assumes nothing.
use Rattle.std.specs.Prelude.{ℕ, ◌≡◌, List, [], ◌∷◌, length}
use Rattle.items.specs.Text.{part_at}
use Rattle.tables.specs.LocalRecord.{records_in}
use Rattle.tables.specs.declared.RecordPlace.{RecordPlace}
use Rattle.cases.specs.LaidOut.{Local, records_bytes, RightLocals}

-- a record with its name as bytes
abbrev pub local_at : List ℕ → RecordPlace → Local
local_at bytes place =
    record {
      start = place.start;
      size = place.length;
      slot = place.slot;
      name = part_at bytes place.name place.name_length;
    }

abbrev pub locals_at : List ℕ → List RecordPlace → List Local
locals_at bytes [] = []
locals_at bytes (place ∷ places) = local_at bytes place ∷ locals_at bytes places

-- ---- the statement

-- going from each record to the next lists exactly the records of the run, in their order
abbrev pub RecordsListed : Type 0
RecordsListed =
    (rs : List Local) → RightLocals rs → locals_at (records_bytes rs) (records_in (records_bytes rs) (length rs) 0) ≡ rs
