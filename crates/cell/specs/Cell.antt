-- A cell of the lent stack: 0 when opaque (document 01, "Numbers returned"), else that of a load. "A slot's record must carry locals to
-- 65,535 beside the load index, so the cell becomes 1 + 65,536 * load index + local for every part that reads one" (document 02,
-- request 7).
-- Assumes nothing.
use Rattle.std.specs.Prelude.{ℕ, ◌+◌, ◌-◌, ◌*◌, ◌/◌, ◌%◌, ◌^◌, Bool, eqb, leb, Option, Some, None}
use Rattle.basics.specs.Choice.{pick}
use Rattle.cell.specs.declared.Load.{Load}

-- of a load, by its index and its local
abbrev pub cell_of : ℕ → ℕ → ℕ
cell_of load local = 1 + 65536 * load + local

-- a cell has 64 bits: a load whose cell would pass 2^64 - 1 has none
abbrev pub has_cell : ℕ → ℕ → Bool
has_cell load local = leb (cell_of load local) (2 ^ 64 - 1)

abbrev pub packed : ℕ → ℕ → Option ℕ
packed load local = pick (has_cell load local) (Some (cell_of load local)) None

-- a cell holds a load, by its index and its local
abbrev pub some_load : ℕ → ℕ → Option Load
some_load load local = Some (record { load = load; local = local })

-- what a cell holds: a load, or nothing where it is an opaque slot's
abbrev pub unpacked : ℕ → Option Load
unpacked cell = pick (eqb cell 0) None (some_load ((cell - 1) / 65536) ((cell - 1) % 65536))
