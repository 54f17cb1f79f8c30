-- A wording by its number (document 02, request 11): "A call that names no wording now gets 2." "Demand 2 reads for wording 1".
-- "Refusals: 11 for a wording other than 1 or 2, tested first." Of what `build_message_worded` answers and leaves, by its contract; its
-- stack is zero afterwards for every number. proofs/Numbers.antt has the proof.
-- Assumes nothing.
use Rattle.std.specs.Prelude.{ℕ, ◌≡◌, List, length, Ok, Some}
use Rattle.basics.specs.Bytes.{AreBytes}
use Rattle.jvms.specs.Machine.{Pool}
use Rattle.casefile.specs.Parts.{parts_of}
use Rattle.casefile.specs.Whole.{case_of}
use Rattle.casefile.specs.declared.Places.{Places}
use Rattle.effects.specs.declared.Model.{Model}
use Rattle.effects.specs.declared.Model.TheVariants.{Document, Full}
use Rattle.answer.specs.declared.Report.TheVariants.{Message, NoWording}
use Rattle.report.specs.Report.{manner_of, default_manner, full_manner, report_in, reported_by, report_of, reported_in, report_worded, reported_worded}
use Rattle.words.specs.Wording.{wording_by}
use Rattle.words.specs.declared.Wording.{Wording}
use Rattle.words.specs.declared.Wording.TheVariants.{Byte, ByteBoolean}
use Rattle.evidence.specs.Evidence.{WellDescribed, Reported}

-- a number's report is that of a wording, whatever is lent
pub record IsWorded (model : Model) (number : ℕ) (wording : Wording) : Type 0 where
  pub answers :
      (bytes : List ℕ) (room out_room : ℕ) →
      report_worded model number bytes room out_room ≡ report_in (manner_of model wording) bytes room out_room
  pub outputs :
      (bytes : List ℕ) (room : ℕ) (out : List ℕ) →
      reported_worded model number bytes room out ≡ reported_by (manner_of model wording) bytes room out

pub record ElevenExactly : Type 0 where
  pub one : (model : Model) → IsWorded model 1 Byte
  pub two : (model : Model) → IsWorded model 2 ByteBoolean
  -- 11 for every other number, whatever the case is and whatever is lent; and for no other
  pub refuses :
      (model : Model) (number : ℕ) → (number ≡ 1 → ⊥) → (number ≡ 2 → ⊥) → (bytes : List ℕ) (room out_room : ℕ) →
      report_worded model number bytes room out_room ≡ NoWording
  pub unchanged :
      (model : Model) (number : ℕ) → (number ≡ 1 → ⊥) → (number ≡ 2 → ⊥) → (bytes : List ℕ) (room : ℕ) (out : List ℕ) →
      reported_worded model number bytes room out ≡ out
  pub only :
      (model : Model) (number : ℕ) (bytes : List ℕ) (room out_room : ℕ) →
      report_worded model number bytes room out_room ≡ NoWording → (number ≡ 1 → ⊥) × (number ≡ 2 → ⊥)

-- ---- what a call gets

pub record CallsWorded : Type 0 where
  -- demand 2 reads for wording 1 in document 01's model
  pub document :
      (bytes : List ℕ) (room out_room : ℕ) → report_worded Document 1 bytes room out_room ≡ report_of bytes room out_room
  pub document_output :
      (bytes : List ℕ) (room : ℕ) (out : List ℕ) → reported_worded Document 1 bytes room out ≡ reported_in bytes room out
  -- a call that names nothing, and one that names the full model alone
  pub unnamed :
      (bytes : List ℕ) (room out_room : ℕ) → report_in default_manner bytes room out_room ≡ report_worded Document 2 bytes room out_room
  pub unnamed_output :
      (bytes : List ℕ) (room : ℕ) (out : List ℕ) →
      reported_by default_manner bytes room out ≡ reported_worded Document 2 bytes room out
  pub full : (bytes : List ℕ) (room out_room : ℕ) → report_in full_manner bytes room out_room ≡ report_worded Full 2 bytes room out_room
  pub full_output :
      (bytes : List ℕ) (room : ℕ) (out : List ℕ) → reported_by full_manner bytes room out ≡ reported_worded Full 2 bytes room out

-- ---- demand 3

-- where a report by number has a cause, its name is evidence, in the wording of that number
pub record WordedEvidence (model : Model) (number : ℕ) (bytes : List ℕ) (places : Places) (pool : Pool) (room : ℕ) (out : List ℕ)
    (size scan block : ℕ) : Type 1 where
  pub wording : Wording
  pub named : wording_by number ≡ Some wording
  pub written : reported_worded model number bytes room out ≡ reported_by (manner_of model wording) bytes room out
  pub evidence : Reported (manner_of model wording) bytes places pool room out size scan block

abbrev pub WordedIsEvidence : Type 1
WordedIsEvidence =
    (model : Model) (number : ℕ) (bytes : List ℕ) (places : Places) (pool : Pool) (room : ℕ) (out : List ℕ) (size scan block : ℕ) →
    AreBytes bytes → case_of bytes ≡ Ok places → WellDescribed (parts_of bytes places) pool →
    report_worded model number bytes room (length out) ≡ Message size 2 scan block →
    WordedEvidence model number bytes places pool room out size scan block
