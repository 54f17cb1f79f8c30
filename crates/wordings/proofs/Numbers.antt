-- A number names wording 1, wording 2 or none. A report in a manner is never answered 11.
-- Assumes nothing.
use Rattle.std.specs.Prelude.{Result, Ok, Err, Option, Some, None}
use Prim.Native.Nat.{ℕ}
use native.Mathlib.Omega.{arith}
use mathlib.Core.Path.{◌≡◌, refl, ◌∙◌, sym}
use mathlib.Core.Bool.{Bool, true, false}
use mathlib.Core.List.{List}
use lib.Dec.{leb}
use lib.ListN.{length}
use Rattle.basics.specs.Bytes.{AreBytes}
use Rattle.basics.specs.Choice.{pick}
use Rattle.jvms.specs.Machine.{Pool}
use Rattle.casefile.specs.Parts.{parts_of}
use Rattle.casefile.specs.Whole.{case_of}
use Rattle.casefile.specs.declared.CaseError.{CaseError}
use Rattle.casefile.specs.declared.CaseError.TheVariants as cases
use Rattle.casefile.specs.declared.Places.{Places}
use Rattle.effects.specs.declared.Model.{Model}
use Rattle.answer.specs.Answer.{Said, silent, roomless, said, needed, answer_by}
use Rattle.answer.specs.declared.Report.TheVariants.{Message, NoOutput, NoWording}
use Rattle.report.specs.Report.{manner_of, said_in, answer_of, report_in, answer_named, report_worded, reported_worded}
use Rattle.report.specs.declared.Manner.{Manner}
use Rattle.words.specs.Wording.{wording_by}
use Rattle.words.proofs.Wordings.{unknown}
use Rattle.words.specs.declared.Wording.{Wording}
use Rattle.words.specs.declared.Wording.TheVariants.{Byte, ByteBoolean}
use Rattle.evidence.specs.Evidence.{WellDescribed}
use Rattle.evidence.proofs.Evidence.{report_is_evidence}
use Rattle.wordings.specs.Numbers.{IsWorded, ElevenExactly, CallsWorded, WordedEvidence, WordedIsEvidence}

-- ---- the numbers

known : (model : Model) (number : ℕ) (wording : Wording) → wording_by number ≡ Some wording → IsWorded model number wording
unfolding report_worded reported_worded
known model number wording e = record { answers = λ bytes room out_room. rw e; outputs = λ bytes room out. rw e }

-- ---- 11 is the answer to no case

not_said : (told : Said) (out_room : ℕ) → answer_by told out_room ≡ NoWording → ⊥
not_said silent out_room e = let z : ◌≡◌ {A = ℕ} 0 1 = cc in omega arith
not_said (roomless index) out_room e = let z : ◌≡◌ {A = ℕ} 0 1 = cc in omega arith
not_said (said message kind scan block) out_room e = by_room (leb (length message) out_room) e
  where
    by_room : (b : Bool) → pick b (Message (length message) kind scan block) (NoOutput (needed message)) ≡ NoWording → ⊥
    by_room true q = let z : ◌≡◌ {A = ℕ} 0 1 = cc in omega arith
    by_room false q = let z : ◌≡◌ {A = ℕ} 0 1 = cc in omega arith

not_reported : (manner : Manner) (bytes : List ℕ) (room out_room : ℕ) → report_in manner bytes room out_room ≡ NoWording → ⊥
unfolding report_in
not_reported manner bytes room out_room e = by_case (case_of bytes) e
  where
    by_case : (c : Result Places CaseError) → answer_of manner bytes room out_room c ≡ NoWording → ⊥
    by_case (Ok places) q = not_said (said_in manner (parts_of bytes places) room) out_room q
    by_case (Err (cases.Wrong offset)) q = let z : ◌≡◌ {A = ℕ} 0 1 = cc in omega arith
    by_case (Err cases.TooLong) q = let z : ◌≡◌ {A = ℕ} 0 1 = cc in omega arith

module _ (model : Model) (number : ℕ) (bytes : List ℕ) (room out_room : ℕ)
    (answer : report_worded model number bytes room out_room ≡ NoWording) where
  not_known : (wording : Wording) → wording_by number ≡ Some wording → ⊥
  not_known wording e =
      not_reported (manner_of model wording) bytes room out_room
      (sym ((known model number wording e).answers bytes room out_room) ∙ answer)

pub eleven_exactly : ElevenExactly
unfolding report_worded reported_worded
eleven_exactly =
    record {
      one = λ model. known model 1 Byte refl;
      two = λ model. known model 2 ByteBoolean refl;
      refuses = λ model number one two bytes room out_room. rw (unknown number one two);
      unchanged = λ model number one two bytes room out. rw (unknown number one two);
      only = λ model number bytes room out_room answer. (
        λ e. not_known model number bytes room out_room answer Byte (rw e),
        λ e. not_known model number bytes room out_room answer ByteBoolean (rw e),
      );
    }

pub calls_worded : CallsWorded
unfolding report_worded reported_worded
calls_worded =
    record {
      document = λ bytes room out_room. refl;
      document_output = λ bytes room out. refl;
      unnamed = λ bytes room out_room. refl;
      unnamed_output = λ bytes room out. refl;
      full = λ bytes room out_room. refl;
      full_output = λ bytes room out. refl;
    }

-- ---- evidence

module _ (model : Model) (number : ℕ) (bytes : List ℕ) (places : Places) (pool : Pool) (room : ℕ) (out : List ℕ)
    (size scan block : ℕ) (are : AreBytes bytes) (reads : case_of bytes ≡ Ok places)
    (described : WellDescribed (parts_of bytes places) pool) where
  by_name :
      (name : Option Wording) → wording_by number ≡ name →
      answer_named name model bytes room (length out) ≡ Message size 2 scan block →
      WordedEvidence model number bytes places pool room out size scan block
  by_name (Some wording) e answer =
      record {
        wording = wording;
        named = e;
        written = (known model number wording e).outputs bytes room out;
        evidence = report_is_evidence (manner_of model wording) bytes places pool room out size scan block are reads described answer;
      }
  by_name None e answer = let z : ◌≡◌ {A = ℕ} 0 1 = cc in absurd (omega arith)

  is_evidence :
      report_worded model number bytes room (length out) ≡ Message size 2 scan block →
      WordedEvidence model number bytes places pool room out size scan block
  unfolding report_worded
  is_evidence answer = by_name (wording_by number) refl answer

pub worded_is_evidence : WordedIsEvidence
worded_is_evidence = is_evidence
