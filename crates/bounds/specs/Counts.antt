-- The kind and the counts of an answer (document 01, "Numbers returned"): of every case they are small numbers, since its code has
-- at most 65,535 bytes. In every manner.
-- Assumes nothing.
use Rattle.std.specs.Prelude.{ℕ, ◌≤◌, List}
use Rattle.basics.specs.Bytes.{AreBytes}
use Rattle.number.specs.Number.{greatest}
use Rattle.report.specs.Report.{report_in}
use Rattle.report.specs.declared.Manner.{Manner}
use Rattle.answer.specs.declared.Report.{Report}
use Rattle.answer.specs.declared.Report.TheVariants.{Message, NoMessage, Broken, NoRoom, NoOutput, TooLong, NoWording}

-- "kind (1 action, 2 action and cause), scan count, block count"
abbrev pub Small : Report → Type 0
Small (Message size kind scan block) = (kind ≤ 2) × (scan ≤ greatest) × (block ≤ greatest)
Small NoMessage = Unit {0}
Small (Broken offset) = Unit {0}
Small (NoRoom index) = Unit {0}
Small (NoOutput size) = Unit {0}
Small TooLong = Unit {0}
Small NoWording = Unit {0}

abbrev pub CountsSmall : Type 0
CountsSmall =
    (manner : Manner) (bytes : List ℕ) → AreBytes bytes → (room out_room : ℕ) → Small (report_in manner bytes room out_room)
