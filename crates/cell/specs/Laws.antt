-- A cell loses nothing: it tells the load that it is of, or that it is of none.
-- Proved in proofs/Laws.antt.
-- Assumes nothing.
use Rattle.std.specs.Prelude.{ℕ, ◌<◌, ◌≡◌, Some, None}
use Rattle.cell.specs.Cell.{cell_of, packed, some_load, unpacked}

-- one cell for one load of a local below 65,536
abbrev pub CellInjective : Type 0
CellInjective =
    (load local load' local' : ℕ) → local < 65536 → local' < 65536 → cell_of load local ≡ cell_of load' local' →
    (load ≡ load') × (local ≡ local')

-- the cell of an opaque slot is no load's
abbrev pub NoLoadIsZero : Type 0
NoLoadIsZero = (load local : ℕ) → cell_of load local ≡ 0 → ⊥

-- ---- by what `unpack` answers

-- the cell of a load, whose local is a 16-bit number, unpacks to that load
abbrev pub LoadUnpacks : Type 0
LoadUnpacks = (load local : ℕ) → local < 65536 → unpacked (cell_of load local) ≡ some_load load local

-- so does the cell that `pack` hands out
abbrev pub PackedUnpacks : Type 0
PackedUnpacks = (load local cell : ℕ) → local < 65536 → packed load local ≡ Some cell → unpacked cell ≡ some_load load local

-- a cell that unpacks to a load is the cell of it
abbrev pub CellOfUnpacked : Type 0
CellOfUnpacked = (cell load local : ℕ) → unpacked cell ≡ some_load load local → (cell ≡ cell_of load local) × (local < 65536)

-- zero, and nothing else, is an opaque slot
abbrev pub ZeroIsOther : Type 0
ZeroIsOther = unpacked 0 ≡ None

abbrev pub OtherIsZero : Type 0
OtherIsZero = (cell : ℕ) → unpacked cell ≡ None → cell ≡ 0
