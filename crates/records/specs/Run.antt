-- A run of local records (document 01, "Expected form in each place"): "Lent slice of start, length, slot and name-place structs;
-- a thin search proved equal to the case-bytes search."
-- Assumes nothing.
use Rattle.std.specs.Prelude.{ℕ, zero, suc, ◌-◌, List, [], ◌∷◌, map, Option, Some, None}
use Rattle.tables.specs.LocalRecord.{record_at, then_record}
use Rattle.tables.specs.declared.RecordPlace.{RecordPlace}
use Rattle.records.specs.declared.LocalRecord.{LocalRecord}
use Rattle.records.specs.declared.Reading.{Reading}

-- ---- what a run says

-- a record of a run, as the record of a case that it stands for
abbrev pub viewed : LocalRecord → RecordPlace
viewed r =
    record {
      start = r.start;
      length = r.length;
      slot = r.slot;
      name = r.from;
      name_length = r.to - r.from;
      next = r.to;
    }

-- the records that a run stands for
abbrev pub viewed_all : List LocalRecord → List RecordPlace
viewed_all run = map viewed run

-- a name that is found, else another
abbrev pub or_else : Option (ℕ × ℕ) → Option (ℕ × ℕ) → Option (ℕ × ℕ)
or_else (Some (from, to)) other = Some (from, to)
or_else None other = other

-- ---- a run of a case's records

-- a case's record in a run: its window, its slot and the place of its name
abbrev pub kept : RecordPlace → LocalRecord
kept p = record { start = p.start; length = p.length; slot = p.slot; from = p.name; to = p.next }

-- no index lies in its window
abbrev pub blank : LocalRecord
blank = record { start = 0; length = 0; slot = 0; from = 0; to = 0 }

-- a run of so many records: a case's, as far as it goes, then blank ones
unfoldable pub run_of : ℕ → List RecordPlace → List LocalRecord
run_of zero records = []
run_of (suc room) [] = blank ∷ run_of room []
run_of (suc room) (r ∷ records) = kept r ∷ run_of room records

-- ---- one record after the other

-- a blank record, and no more
abbrev pub no_more : Reading
no_more = record { local = blank; at = 0; left = 0 }

-- a record that is read, and the place after it
abbrev pub read_to : RecordPlace → ℕ → Reading
read_to p left = record { local = kept p; at = p.next; left = left }

-- the next record of so many, from a place on
unfoldable pub next_of : List ℕ → ℕ → ℕ → Reading
next_of bytes at zero = no_more
next_of bytes at (suc left) = then_record (record_at bytes at) (λ place. no_more) (λ place. read_to place left)

abbrev pub read_next : List ℕ → Reading → Reading
read_next bytes reading = next_of bytes reading.at reading.left
