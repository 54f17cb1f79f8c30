-- A row that document 01 models is that of both models, and any other of the full one is among the rows that this adds: of an opcode
-- alone those of request 1, of one behind `wide` those of request 7.
-- Assumes nothing.
use Prim.Native.Nat.{ℕ, ◌+◌, ◌-◌, ◌<◌}
use native.Mathlib.Omega.{arith}
use mathlib.Core.Path.{◌≡◌, refl, ◌∙◌, sym, ap}
use borrow.Author.Tests.{lt-ltb, le-ltb}
use Rattle.effects.specs.Rows.{Row, unmodelled, opaque, aload, aload_far, aload_of, carries, keeps, gets, calls, puts, makes}
use Rattle.effects.specs.Rows.{or_row, row_of, added_row, widened_row, wide_row, full_row_of, rows_of}
use Rattle.effects.specs.declared.Model.{Model}
use Rattle.effects.specs.declared.Model.TheVariants.{Document, Full}
use Rattle.effects.proofs.Rows.{none_behind}
use Rattle.row.specs.Code.{row_from}
use Rattle.row.specs.declared.Row.{Row as CodeRow}
use Rattle.row.specs.declared.Row.TheVariants.{Unmodelled, Opaque, Aload, AloadFar, AloadOf, Copies, Swap, Keeps, Gets, Calls, Puts, Makes}
use Rattle.row.proofs.OfOpcode.{all_have}

-- a row that document 01's table has stays, whatever is added
kept : (row : CodeRow) (other : Row) → (row ≡ Unmodelled → ⊥) → row_from row ≡ or_row (row_from row) other
kept Unmodelled other o = absurd (o refl)
kept (Opaque takes gives) other o = refl
kept Aload other o = refl
kept AloadFar other o = refl
kept (AloadOf local) other o = refl
kept (Copies count under) other o = refl
kept Swap other o = refl
kept Keeps other o = refl
kept (Gets takes) other o = refl
kept (Calls takes) other o = refl
kept (Puts takes) other o = refl
kept Makes other o = refl

or_none : (row : Row) → or_row row unmodelled ≡ row
or_none unmodelled = refl
or_none (opaque takes gives) = refl
or_none aload = refl
or_none aload_far = refl
or_none (aload_of local) = refl
or_none (carries takes places) = refl
or_none keeps = refl
or_none (gets takes) = refl
or_none (calls takes) = refl
or_none (puts takes) = refl
or_none makes = refl

-- ---- an opcode alone

pub full_added : (op : ℕ) → op < 256 → (row : CodeRow) → row_from row ≡ row_of op → row ≡ Unmodelled → added_row op ≡ full_row_of op
unfolding full_row_of
full_added op below row found e =
    sym (or_none (added_row op))
    ∙ rw (lt-ltb op 256 below)
    (ap (λ (r : Row). or_row r (or_row (added_row op) unmodelled)) (ap row_from (sym e) ∙ found))

pub kept_in :
    (model : Model) (op : ℕ) (row : CodeRow) → row_from row ≡ row_of op → (row ≡ Unmodelled → ⊥) →
    row_from row ≡ rows_of model op
unfolding full_row_of
kept_in Document op row found o = found
kept_in Full op row found o =
    let others : Row = or_row (added_row op) (wide_row op) in
    kept row others o ∙ ap (λ (r : Row). or_row r others) found

-- ---- an opcode behind `wide`

-- document 01 models none (`none_behind` of effects), and request 1 adds none
wide_added : (op : ℕ) → op < 256 → unmodelled ≡ added_row (256 + op)
unfolding added_row
wide_added op below = all_have added_row (λ key. unmodelled) 256 256 tt (256 + op) (omega arith) (omega arith)

pub wide_full : (op : ℕ) → op < 256 → widened_row op ≡ full_row_of (256 + op)
unfolding full_row_of
wide_full op below =
    let less : 256 + op - 256 ≡ op = omega arith in
    rw (none_behind op below, ← wide_added op below, le-ltb (256 + op) 256 (omega arith), less)
