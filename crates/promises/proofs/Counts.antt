-- A number below 2^32 is kept as it is; the counts of a case are below 2^16.
-- Assumes nothing.
use Rattle.std.specs.Prelude.{Option, Some, None}
use Prim.Native.Nat.{ℕ, ◌≤◌}
use native.Mathlib.Omega.{arith}
use mathlib.Core.Path.{◌≡◌, refl}
use mathlib.Core.List.{List}
use Rattle.basics.specs.Bytes.{AreBytes}
use Rattle.bounds.proofs.Counts.{counts_small}
use Rattle.bounds.specs.Counts.{Small}
use Rattle.number.specs.Number.{greatest}
use Rattle.structs.specs.Structs.{low, report_numbers}
use Rattle.answer.specs.Answer.{numbered}
use Rattle.report.specs.Report.{manner_of, report_in, answer_named, report_worded}
use Rattle.answer.specs.declared.Report.{Report}
use Rattle.answer.specs.declared.Report.TheVariants.{Message, NoMessage, Broken, NoRoom, NoOutput, TooLong, NoWording}
use Rattle.effects.specs.declared.Model.{Model}
use Rattle.words.specs.Wording.{wording_by}
use Rattle.words.specs.declared.Wording.{Wording}
use Rattle.promises.specs.Counts.{plainly, CCounts}

low_is : (n : ℕ) → n ≤ greatest → low n ≡ n
low_is n small = omega arith

as_they_are : (r : Report) → Small r → report_numbers r ≡ plainly (numbered r)
unfolding numbered
as_they_are (Message size kind scan block) small =
    rw (low_is kind (omega (arith, small.0)), low_is scan small.1, low_is block small.2)
as_they_are NoMessage small = refl
as_they_are (Broken offset) small = refl
as_they_are (NoRoom index) small = refl
as_they_are (NoOutput size) small = refl
as_they_are TooLong small = refl
as_they_are NoWording small = refl

module _ (model : Model) (bytes : List ℕ) (are : AreBytes bytes) (room out_room : ℕ) where
  named_small : (name : Option Wording) → Small (answer_named name model bytes room out_room)
  named_small (Some wording) = counts_small (manner_of model wording) bytes are room out_room
  named_small None = tt

  worded_small : (number : ℕ) → Small (report_worded model number bytes room out_room)
  unfolding report_worded
  worded_small number = named_small (wording_by number)

pub c_counts : CCounts
c_counts =
    record {
      in_manner = λ manner bytes are room out_room.
          as_they_are (report_in manner bytes room out_room) (counts_small manner bytes are room out_room);
      worded = λ model number bytes are room out_room.
          as_they_are (report_worded model number bytes room out_room) (worded_small model bytes are room out_room number);
    }
