-- The library's answers as structs of numbers. An answer's number and what it carries are those of the library's own numbering
-- (`numbered`, the documents' numbers); a number that an answer does not carry is 0.
-- Assumes nothing.
use Rattle.std.specs.Prelude.{ℕ, ◌-◌, ◌^◌, min, List, eqb, get_or, Result, Option, Some, None}
use Rattle.basics.specs.Choice.{pick}
use Rattle.walk.specs.Room.{numbered as walk_numbered}
use Rattle.walk.specs.declared.Walk.{Walk}
use Rattle.walk.specs.declared.Walk.TheVariants.{Done, Failed, NoRoom}
use Rattle.bytecode.specs.Length.{numbered as length_numbered}
use Rattle.bytecode.specs.declared.Unmeasured.{Unmeasured}
use Rattle.casefile.specs.Whole.{numbered as case_numbered}
use Rattle.casefile.specs.declared.Places.{Places}
use Rattle.casefile.specs.declared.CaseError.{CaseError}
use Rattle.judging.specs.Judged.{Answer, numbered as strict_numbered}
use Rattle.leader.specs.Scan.{numbered as leader_numbered}
use Rattle.leader.specs.declared.Scanned.{Scanned}
use Rattle.answer.specs.Answer.{numbered as report_numbered}
use Rattle.answer.specs.declared.Report.{Report}
use Rattle.structs.specs.declared.KorsepalLeader.{KorsepalLeader}
use Rattle.structs.specs.declared.KorsepalLength.{KorsepalLength}
use Rattle.structs.specs.declared.KorsepalName.{KorsepalName}
use Rattle.structs.specs.declared.KorsepalParameters.{KorsepalParameters}
use Rattle.structs.specs.declared.KorsepalReport.{KorsepalReport}
use Rattle.structs.specs.declared.KorsepalSlots.{KorsepalSlots}
use Rattle.structs.specs.declared.KorsepalTypes.{KorsepalTypes}
use Rattle.structs.specs.declared.KorsepalWalk.{KorsepalWalk}

-- the k-th number of an answer, from 0, or 0
abbrev pub nth : ℕ → List ℕ → ℕ
nth k numbers = get_or numbers k 0

-- a number as one of 32 bits. Those of a report are smaller (`c_counts`, crates/promises).
abbrev pub low : ℕ → ℕ
low n = min n (2 ^ 32 - 1)

-- the answer's number, and what it carries: the message's length, its kind and counts for 0, one number for 2, 3 and 4
abbrev pub report_numbers : Report → KorsepalReport
report_numbers r =
    record {
      answer = nth 0 (report_numbered r);
      kind = low (nth 2 (report_numbered r));
      scan = low (nth 3 (report_numbered r));
      block = low (nth 4 (report_numbered r));
      value = nth 1 (report_numbered r);
    }

-- 0 and the length, 1 for a cut instruction, 2 for a reserved byte
abbrev pub length_numbers : Result ℕ Unmeasured → KorsepalLength
length_numbers m = record { status = nth 0 (length_numbered m); length = nth 1 (length_numbered m) }

-- 1, the scan count and the leader; or 0 and the scan count
abbrev pub leader_numbers : Result Scanned Scanned → KorsepalLeader
leader_numbers s =
    record {
      found = nth 0 (leader_numbered s);
      scan = nth 2 (leader_numbered s);
      leader = pick (eqb (nth 0 (leader_numbered s)) 1) (nth 1 (leader_numbered s)) 0;
    }

-- 0 and the slots, or 1; document 01 gives them no number
abbrev pub slot_numbers : Option ℕ → KorsepalSlots
slot_numbers (Some n) = record { status = 0; slots = low n }
slot_numbers None = record { status = 1; slots = 0 }

-- 0 done, 1 failed, 3 lacks room
abbrev pub walk_numbers : Walk → KorsepalWalk
walk_numbers (Done height count) =
    record { outcome = nth 0 (walk_numbered (Done height count)); height = height; count = count; index = 0 }
walk_numbers (Failed count) = record { outcome = nth 0 (walk_numbered (Failed count)); height = 0; count = count; index = 0 }
walk_numbers (NoRoom index) = record { outcome = nth 0 (walk_numbered (NoRoom index)); height = 0; count = 0; index = index }

-- a case that is not read: 2 with the offset, 5 too long
abbrev pub unread : Result Places CaseError → KorsepalWalk
unread c = record { outcome = nth 0 (case_numbered c); height = 0; count = 0; index = nth 1 (case_numbered c) }

-- 0 and the length, or as a report's 2, 4 and 5
abbrev pub name_numbers : Report → KorsepalName
name_numbers r = record { answer = nth 0 (report_numbered r); value = nth 1 (report_numbered r) }

-- 0 with the slots and the length, as a report's 4 with the length needed
abbrev pub list_numbers : ℕ → Report → KorsepalParameters
list_numbers slots r =
    record {
      status = nth 0 (report_numbered r);
      slots = pick (eqb (nth 0 (report_numbered r)) 0) slots 0;
      length = nth 1 (report_numbered r);
    }

-- strict descriptors: 0 and the count of types, or the refusal's number
abbrev pub strict_numbers : Answer → KorsepalTypes
strict_numbers a = record { refusal = low (nth 0 (strict_numbered a)); count = nth 1 (strict_numbered a) }
