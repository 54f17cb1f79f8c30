-- What a row of the code stands for tells it.
-- Assumes nothing.
use mathlib.Core.Path.{◌≡◌, refl, ◌∙◌, sym, ap}
use Rattle.basics.specs.Choice.{pick}
use Rattle.effects.specs.Rows.{Row, unmodelled, opaque, aload, aload_far, aload_of, carries, keeps, gets, calls, puts, makes}
use Rattle.row.specs.Code.{row_from}
use Rattle.row.specs.Laws.{RowFromInjective}
use Rattle.row.specs.declared.Row.{Row as CodeRow}
use Rattle.row.specs.declared.Row.TheVariants.{Unmodelled, Opaque, Aload, AloadFar, AloadOf, Copies, Swap, Keeps, Gets, Calls, Puts, Makes}
use Rattle.row.proofs.Places.{is_swap, count_of, under_of, copies_told}

abbrev code_of : Row → CodeRow
code_of unmodelled = Unmodelled
code_of (opaque takes gives) = Opaque takes gives
code_of aload = Aload
code_of aload_far = AloadFar
code_of (aload_of local) = AloadOf local
code_of (carries takes places) = pick (is_swap takes places) Swap (Copies (count_of takes places) (under_of takes places))
code_of keeps = Keeps
code_of (gets takes) = Gets takes
code_of (calls takes) = Calls takes
code_of (puts takes) = Puts takes
code_of makes = Makes

back : (row : CodeRow) → code_of (row_from row) ≡ row
back Unmodelled = refl
back (Opaque takes gives) = refl
back Aload = refl
back AloadFar = refl
back (AloadOf local) = refl
back (Copies count under) = copies_told Swap Copies count under
back Swap = refl
back Keeps = refl
back (Gets takes) = refl
back (Calls takes) = refl
back (Puts takes) = refl
back Makes = refl

pub row_from_injective : RowFromInjective
row_from_injective one other e = sym (back one) ∙ ap code_of e ∙ back other
