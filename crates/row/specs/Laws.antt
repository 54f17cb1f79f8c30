-- A row of the code is told by what it stands for, so `row_of` and `row_in` have one answer. Proved in proofs/Laws.antt.
-- Assumes nothing.
use Rattle.std.specs.Prelude.{◌≡◌}
use Rattle.row.specs.Code.{row_from}
use Rattle.row.specs.declared.Row.{Row}

abbrev pub RowFromInjective : Type 0
RowFromInjective = (one other : Row) → row_from one ≡ row_from other → one ≡ other
