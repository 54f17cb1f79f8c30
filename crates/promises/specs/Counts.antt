-- The C interface's report has kind and counts of 32 bits. Of every case, in every manner and with every number of a wording, they are
-- those of the answer: none is cut down to fit.
-- proofs/Counts.antt has the proof.
-- Assumes nothing.
use Rattle.std.specs.Prelude.{ℕ, ◌≡◌, List}
use Rattle.basics.specs.Bytes.{AreBytes}
use Rattle.structs.specs.Structs.{nth, report_numbers}
use Rattle.structs.specs.declared.KorsepalReport.{KorsepalReport}
use Rattle.answer.specs.Answer.{numbered}
use Rattle.report.specs.Report.{report_in, report_worded}
use Rattle.report.specs.declared.Manner.{Manner}
use Rattle.effects.specs.declared.Model.{Model}

-- the numbers of an answer, as they are
abbrev pub plainly : List ℕ → KorsepalReport
plainly numbers =
    record { answer = nth 0 numbers; kind = nth 2 numbers; scan = nth 3 numbers; block = nth 4 numbers; value = nth 1 numbers }

pub record CCounts : Type 0 where
  -- `korsepal_report`, `korsepal_report_full`
  pub in_manner :
      (manner : Manner) (bytes : List ℕ) → AreBytes bytes → (room out_room : ℕ) →
      report_numbers (report_in manner bytes room out_room) ≡ plainly (numbered (report_in manner bytes room out_room))
  -- `korsepal_report_in`
  pub worded :
      (model : Model) (number : ℕ) (bytes : List ℕ) → AreBytes bytes → (room out_room : ℕ) →
      report_numbers (report_worded model number bytes room out_room) ≡ plainly (numbered (report_worded model number bytes room out_room))
