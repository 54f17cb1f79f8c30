-- A row that takes the slots of the member that it cites takes one more at most: one computed test of each table.
-- Assumes nothing.
use Prim.Native.Nat.{ℕ, ◌<◌}
use mathlib.Core.Path.{◌≡◌, sym, subst}
use mathlib.Core.Bool.{Bool, true}
use lib.Dec.{T, leb, leb→le}
use Rattle.basics.proofs.Every.{every_at}
use Rattle.jvms.specs.Stack.{key_count}
use Rattle.effects.specs.Rows.{Row, unmodelled, opaque, aload, aload_far, aload_of, carries, keeps, gets, calls, puts, makes}
use Rattle.effects.specs.Rows.{row_of, added_row, widened_row, full_row_of, rows_of}
use Rattle.effects.specs.declared.Model.{Model}
use Rattle.effects.specs.declared.Model.TheVariants.{Document, Full}
use Rattle.row.specs.Code.{row_from, Few}
use Rattle.row.specs.declared.Row.{Row as CodeRow}
use Rattle.row.specs.declared.Row.TheVariants.{Unmodelled, Opaque, Aload, AloadFar, AloadOf, Copies, Swap, Keeps, Gets, Calls, Puts, Makes}

abbrev few_taken : Row → Bool
few_taken unmodelled = true
few_taken (opaque takes gives) = true
few_taken aload = true
few_taken aload_far = true
few_taken (aload_of local) = true
few_taken (carries takes places) = true
few_taken keeps = true
few_taken (gets takes) = true
few_taken (calls takes) = leb takes 1
few_taken (puts takes) = leb takes 1
few_taken makes = true

few-taken : (model : Model) (key : ℕ) → key < key_count → T (few_taken (rows_of model key))
unfolding row_of added_row widened_row full_row_of
few-taken Document key below = every_at (λ k. few_taken (row_of k)) key_count tt key below
few-taken Full key below = every_at (λ k. few_taken (full_row_of k)) key_count tt key below

few_of : (row : CodeRow) → T (few_taken (row_from row)) → Few row
few_of Unmodelled t = tt
few_of (Opaque takes gives) t = tt
few_of Aload t = tt
few_of AloadFar t = tt
few_of (AloadOf local) t = tt
few_of (Copies count under) t = tt
few_of Swap t = tt
few_of Keeps t = tt
few_of (Gets takes) t = tt
few_of (Calls takes) t = leb→le takes 1 t
few_of (Puts takes) t = leb→le takes 1 t
few_of Makes t = tt

pub few_so : (model : Model) (key : ℕ) → key < key_count → (row : CodeRow) → row_from row ≡ rows_of model key → Few row
few_so model key below row e = few_of row (subst (λ (r : Row). T (few_taken r)) (sym e) (few-taken model key below))
