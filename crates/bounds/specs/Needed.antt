-- The "length needed" of answer 4 (document 01, "Numbers returned"): of every case it is the length of the message, in any
-- wording.
-- Assumes nothing.
use Rattle.std.specs.Prelude.{ℕ, ◌≤◌, ◌≡◌, List, length, Option, Ok}
use Rattle.cell.specs.declared.Load.{Load}
use Rattle.casefile.specs.Parts.{Parts, parts_of}
use Rattle.casefile.specs.Whole.{longest, case_of}
use Rattle.casefile.specs.declared.Places.{Places}
use Rattle.text.specs.Writing.{most}
use Rattle.fault.specs.declared.Action.{Action}
use Rattle.answer.specs.Answer.{needed}
use Rattle.report.specs.Report.{message_of}
use Rattle.words.specs.declared.Wording.{Wording}

-- the message of parts that are no longer than a case can be has a length of 64 bits
abbrev pub MessageShort : Type 0
MessageShort =
    (p : Parts) → length p.members ≤ longest → length p.records ≤ longest →
    (wording : Wording) (action : Action) (cause : Option Load) → length (message_of wording p action cause) ≤ most

-- "length needed": of a case's message it is the length itself
abbrev pub NeededIsLength : Type 0
NeededIsLength =
    (bytes : List ℕ) (places : Places) → case_of bytes ≡ Ok places → (wording : Wording) (action : Action) (cause : Option Load) →
    needed (message_of wording (parts_of bytes places) action cause) ≡ length (message_of wording (parts_of bytes places) action cause)
