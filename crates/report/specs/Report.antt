-- The report of a case (document 01, "Numbers returned"): its answer, the output and the stack at exit. It is asked for in a manner: the
-- model of its walk (document 02, request 1) and the wording of its message (request 11).
-- Assumes nothing.
use Rattle.std.specs.Prelude.{ℕ, zero, suc, List, [], Option, Result, Err, Ok, Some, None}
use Rattle.cell.specs.declared.Load.{Load}
use Rattle.bytecode.specs.Length.{length_of}
use Rattle.leader.specs.Scan.{block_leader}
use Rattle.leader.specs.declared.Scanned.{Scanned}
use Rattle.casefile.specs.Parts.{Parts, parts_of}
use Rattle.casefile.specs.Whole.{case_of}
use Rattle.casefile.specs.declared.Places.{Places}
use Rattle.casefile.specs.declared.CaseError.{CaseError}
use Rattle.casefile.specs.declared.CaseError.TheVariants as cases
use Rattle.effects.specs.declared.Model.{Model}
use Rattle.effects.specs.declared.Model.TheVariants.{Document, Full}
use Rattle.answer.specs.Answer.{kind_of, Said, silent, roomless, said, answer_by, output_by}
use Rattle.fault.specs.Decoding.{decoded}
use Rattle.fault.specs.declared.Action.{Action}
use Rattle.fault.specs.declared.Fault.{Fault}
use Rattle.locals.specs.Name.{is_instance}
use Rattle.message.specs.Message.{message_text}
use Rattle.trace.specs.Trace.{traced_by}
use Rattle.trace.specs.declared.Traced.{Traced}
use Rattle.answer.specs.declared.Report.{Report}
use Rattle.answer.specs.declared.Report.TheVariants as report
use Rattle.words.specs.Wording.{wording_by}
use Rattle.words.specs.declared.Wording.{Wording}
use Rattle.words.specs.declared.Wording.TheVariants.{Byte, ByteBoolean}
use Rattle.report.specs.declared.Manner.{Manner}

-- the model that a number asks for: 0 document 01's, any other the full one
abbrev pub model_by : ℕ → Model
model_by zero = Document
model_by (suc n) = Full

abbrev pub manner_of : Model → Wording → Manner
manner_of model wording = record { model = model; wording = wording }

-- document 01's own manner
abbrev pub document_manner : Manner
document_manner = manner_of Document Byte

-- "A call that names no wording now gets 2": the manner of a call that names nothing, and of one that names the full model alone
abbrev pub default_manner : Manner
default_manner = manner_of Document ByteBoolean

abbrev pub full_manner : Manner
full_manner = manner_of Full ByteBoolean

unfoldable pub message_of : Wording → Parts → Action → Option Load → List ℕ
message_of wording p action cause =
    message_text wording p.members p.member_count action cause p.records p.record_count p.signature (is_instance p.flags)

-- parts in the order of the code's parameters
abbrev pub parts_by : ℕ → ℕ → List ℕ → List ℕ → List ℕ → ℕ → List ℕ → ℕ → Parts
parts_by flags fault code signature members member_count records record_count =
    record {
      flags = flags;
      fault = fault;
      code = code;
      signature = signature;
      member_count = member_count;
      members = members;
      record_count = record_count;
      records = records;
    }

-- how a report scans: with no leader but those that the code gives
abbrev pub scan_of : Parts → Result Scanned Scanned
scan_of p = block_leader length_of [] p.code p.fault

-- the cause of the fault in a model, whose reference lies at a depth, with so many cells lent: over what a scan answered, and over
-- the report's
abbrev pub traced_from : Model → Result Scanned Scanned → Parts → ℕ → ℕ → Result Traced ℕ
traced_from model scan p depth room = traced_by model p.code p.members p.member_count p.fault depth room scan

abbrev pub traced_in : Model → Parts → ℕ → ℕ → Result Traced ℕ
traced_in model p depth room = traced_from model (scan_of p) p depth room

abbrev pub said_by : Wording → Parts → Action → Result Traced ℕ → Said
said_by wording p action (Err index) = roomless index
said_by wording p action (Ok t) = said (message_of wording p action t.cause) (kind_of t.cause) t.scan t.block

abbrev pub said_from : Manner → Result Scanned Scanned → Parts → ℕ → Option Fault → Said
said_from manner scan p room None = silent
said_from manner scan p room (Some fault) = said_by manner.wording p fault.action (traced_from manner.model scan p fault.depth room)

abbrev pub said_at : Manner → Parts → ℕ → Option Fault → Said
said_at manner p room fault = said_from manner (scan_of p) p room fault

-- of the parts of a case, with so many cells lent: in a manner, and in document 01's
unfoldable pub said_in : Manner → Parts → ℕ → Said
said_in manner p room = said_at manner p room (decoded p.code p.members p.member_count p.fault)

abbrev pub said_of : Parts → ℕ → Said
said_of p room = said_in document_manner p room

-- ---- a whole case: "Tested in the order 5, 2, 1, 3, 4."

abbrev pub answer_of : Manner → List ℕ → ℕ → ℕ → Result Places CaseError → Report
answer_of manner bytes room out_room (Ok places) = answer_by (said_in manner (parts_of bytes places) room) out_room
answer_of manner bytes room out_room (Err (cases.Wrong offset)) = report.Broken offset
answer_of manner bytes room out_room (Err cases.TooLong) = report.TooLong

abbrev pub output_of : Manner → List ℕ → ℕ → List ℕ → Result Places CaseError → List ℕ
output_of manner bytes room out (Ok places) = output_by (said_in manner (parts_of bytes places) room) out
output_of manner bytes room out (Err error) = out

-- the bytes of a case, and the cells and the output that are lent: the answer and the output, in a manner
unfoldable pub report_in : Manner → List ℕ → ℕ → ℕ → Report
report_in manner bytes room out_room = answer_of manner bytes room out_room (case_of bytes)

unfoldable pub reported_by : Manner → List ℕ → ℕ → List ℕ → List ℕ
reported_by manner bytes room out = output_of manner bytes room out (case_of bytes)

-- and in document 01's
abbrev pub report_of : List ℕ → ℕ → ℕ → Report
report_of bytes room out_room = report_in document_manner bytes room out_room

abbrev pub reported_in : List ℕ → ℕ → List ℕ → List ℕ
reported_in bytes room out = reported_by document_manner bytes room out

-- ---- the wording by its number: "11 for a wording other than 1 or 2, tested first"

abbrev pub answer_named : Option Wording → Model → List ℕ → ℕ → ℕ → Report
answer_named (Some wording) model bytes room out_room = report_in (manner_of model wording) bytes room out_room
answer_named None model bytes room out_room = report.NoWording

abbrev pub output_named : Option Wording → Model → List ℕ → ℕ → List ℕ → List ℕ
output_named (Some wording) model bytes room out = reported_by (manner_of model wording) bytes room out
output_named None model bytes room out = out

unfoldable pub report_worded : Model → ℕ → List ℕ → ℕ → ℕ → Report
report_worded model number bytes room out_room = answer_named (wording_by number) model bytes room out_room

unfoldable pub reported_worded : Model → ℕ → List ℕ → ℕ → List ℕ → List ℕ
reported_worded model number bytes room out = output_named (wording_by number) model bytes room out
