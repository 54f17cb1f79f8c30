-- Document 02, request 7, writes cells by 65,536 where document 01 wrote them by 256, and "The old model's answers are unchanged": a
-- walk in document 01's model goes by both alike. proofs/Cells.antt has the proof.
-- Assumes nothing.
use Rattle.std.specs.Prelude.{ℕ, ◌+◌, ◌-◌, ◌*◌, ◌/◌, ◌%◌, ◌^◌, ◌≤◌, ◌≡◌, List, eqb, leb, length, Option, None}
use Rattle.basics.specs.Bytes.{AreBytes}
use Rattle.basics.specs.Choice.{pick}
use Rattle.cell.specs.Cell.{some_load, unpacked}
use Rattle.cell.specs.declared.Load.{Load}
use Rattle.effects.specs.Lookup.{Lookup}
use Rattle.effects.specs.Rows.{row_of}
use Rattle.walk.specs.Room.{completed}
use Rattle.walk.specs.Walk.{Marks, cells, walk}
use Rattle.walks.specs.Marks.{EndAlike}

-- "A cell is 0 when opaque, else 1 + 256 * load index + local." (document 01, "Numbers returned")
abbrev pub document_cell : ℕ → ℕ → ℕ
document_cell load local = 1 + 256 * load + local

abbrev pub document_cells : Marks ℕ
document_cells =
    record { blank = λ index. 0; mark = document_cell; holds = λ load local. leb (document_cell load local) (2 ^ 64 - 1) }

-- what such a cell holds
abbrev pub document_unpacked : ℕ → Option Load
document_unpacked cell = pick (eqb cell 0) None (some_load ((cell - 1) / 256) ((cell - 1) % 256))

-- a cell of document 01's and one in use hold the same
abbrev pub SameSlot : ℕ → ℕ → Type 0
SameSlot former cell = document_unpacked former ≡ unpacked cell

-- Both walks end alike, with slots that hold the same, and every instruction leaves as many slots by either. The code has 2^48 bytes at
-- most: from index 2^48 on a load has no cell by 65,536; by 256 it has one up to 2^56.
abbrev pub PresentWalks : Type 0
PresentWalks =
    (lookup : Lookup) (code : List ℕ) → AreBytes code → length code ≤ 2 ^ 48 → (fault leader : ℕ) →
    EndAlike SameSlot (walk document_cells row_of lookup code fault leader) (walk cells row_of lookup code fault leader)
    × (completed document_cells row_of lookup code fault leader ≡ completed cells row_of lookup code fault leader)
