-- "The old model's answers are unchanged" (document 02, request 7): what a walk in document 01's model answers, and what a report in it
-- answers and writes, is what it would be by document 01's cells. That this model goes by opcodes alone, as before the request, is
-- `ByOpcode` of crates/effects/specs/Agreement.antt. proofs/Cells.antt has the proof.
-- Assumes nothing.
use Rattle.std.specs.Prelude.{ℕ, ◌-◌, ◌^◌, ◌≤◌, ◌≡◌, List, ltb, length, get_or, Option, None, Result, Ok, Err, Some}
use Rattle.cell.specs.declared.Load.{Load}
use Rattle.basics.specs.Bytes.{AreBytes}
use Rattle.basics.specs.Choice.{pick}
use Rattle.casefile.specs.Parts.{Parts, parts_of}
use Rattle.casefile.specs.Whole.{case_of}
use Rattle.casefile.specs.declared.Places.{Places}
use Rattle.casefile.specs.declared.CaseError.{CaseError}
use Rattle.casefile.specs.declared.CaseError.TheVariants as cases
use Rattle.effects.specs.Lookup.{lookup_in}
use Rattle.effects.specs.Rows.{row_of}
use Rattle.effects.specs.declared.Model.TheVariants.{Document}
use Rattle.walk.specs.Room.{Roomed, lacks, fits, completed, judged, block_walk}
use Rattle.walk.specs.Room.{answer_of as walk_answer}
use Rattle.walk.specs.Walk.{done, failed, walk}
use Rattle.walks.specs.Cells.{document_cells, document_unpacked}
use Rattle.fault.specs.Decoding.{decoded}
use Rattle.fault.specs.declared.Fault.{Fault}
use Rattle.answer.specs.Answer.{Said, silent, answer_by, output_by}
use Rattle.answer.specs.declared.Report.{Report}
use Rattle.answer.specs.declared.Report.TheVariants as report
use Rattle.words.specs.declared.Wording.{Wording}
use Rattle.report.specs.Report.{manner_of, scan_of, said_by, said_in, report_in, reported_by}
use Rattle.leader.specs.declared.Scanned.{Scanned}
use Rattle.trace.specs.declared.Traced.{Traced}
use Rattle.trace.specs.Trace.{traced_with}

-- ---- a walk and a report by document 01's cells, as those of crates/walk/specs and crates/report/specs are by the cells in use

abbrev pub former_walk : List ℕ → List ℕ → ℕ → ℕ → ℕ → ℕ → Roomed ℕ
former_walk code members count leader fault room =
    judged room (completed document_cells row_of (lookup_in members count) code fault leader)
    (walk document_cells row_of (lookup_in members count) code fault leader)

abbrev pub former_slot : List ℕ → ℕ → Option Load
former_slot slots depth = pick (ltb depth (length slots)) (document_unpacked (get_or slots (length slots - 1 - depth) 0)) None

abbrev pub former_trace : ℕ → ℕ → Roomed ℕ → Result Traced ℕ
former_trace scan depth (lacks index) = Err index
former_trace scan depth (fits (failed block index reason)) = traced_with scan block None
former_trace scan depth (fits (done slots block)) = traced_with scan block (former_slot slots depth)

abbrev pub former_traced : Parts → ℕ → ℕ → Result Scanned Scanned → Result Traced ℕ
former_traced p depth room (Ok s) =
    former_trace s.count depth (former_walk p.code p.members p.member_count s.at p.fault room)
former_traced p depth room (Err s) = traced_with s.count 0 None

abbrev pub former_said_at : Wording → Parts → ℕ → Option Fault → Said
former_said_at w p room None = silent
former_said_at w p room (Some fault) = said_by w p fault.action (former_traced p fault.depth room (scan_of p))

abbrev pub former_said : Wording → Parts → ℕ → Said
former_said w p room = former_said_at w p room (decoded p.code p.members p.member_count p.fault)

abbrev pub former_answer : Wording → List ℕ → ℕ → ℕ → Result Places CaseError → Report
former_answer w bytes room out_room (Ok places) = answer_by (former_said w (parts_of bytes places) room) out_room
former_answer w bytes room out_room (Err (cases.Wrong offset)) = report.Broken offset
former_answer w bytes room out_room (Err cases.TooLong) = report.TooLong

abbrev pub former_output : Wording → List ℕ → ℕ → List ℕ → Result Places CaseError → List ℕ
former_output w bytes room out (Ok places) = output_by (former_said w (parts_of bytes places) room) out
former_output w bytes room out (Err error) = out

-- ---- the statement

pub record PresentUnmoved : Type 0 where
  -- what a walk alone answers, over a code of 2^48 bytes at most, with any room: height and count, the count where it fails, the index
  -- where it lacks room
  pub walks :
      (code members : List ℕ) → AreBytes code → length code ≤ 2 ^ 48 → (count leader fault room : ℕ) →
      walk_answer (block_walk code members count leader fault room) ≡ walk_answer (former_walk code members count leader fault room)
  -- what is said of parts with such a code, in any wording
  pub said :
      (w : Wording) (p : Parts) → AreBytes p.code → length p.code ≤ 2 ^ 48 → (room : ℕ) →
      said_in (manner_of Document w) p room ≡ former_said w p room
  -- and so of every case, whatever is lent: the answer, and the output at exit
  pub answers :
      (w : Wording) (bytes : List ℕ) → AreBytes bytes → (room out_room : ℕ) →
      report_in (manner_of Document w) bytes room out_room ≡ former_answer w bytes room out_room (case_of bytes)
  pub outputs :
      (w : Wording) (bytes : List ℕ) → AreBytes bytes → (room : ℕ) (out : List ℕ) →
      reported_by (manner_of Document w) bytes room out ≡ former_output w bytes room out (case_of bytes)
