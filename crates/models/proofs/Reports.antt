-- Whole cases and their outputs: the parts say the same in both models, so the answers and the messages are the same.
-- Assumes nothing.
use Rattle.std.specs.Prelude.{Result, Ok, Err}
use Prim.Native.Nat.{ℕ, ◌≤◌}
use native.Mathlib.Omega.{arith}
use mathlib.Core.Path.{◌≡◌, refl, ◌∙◌, sym, ap}
use mathlib.Core.Bool.{Bool, true, false}
use mathlib.Core.List.{List}
use lib.Dec.{leb}
use lib.ListN.{length}
use Rattle.basics.specs.Choice.{pick}
use Rattle.casefile.specs.Parts.{Parts, parts_of}
use Rattle.casefile.specs.Whole.{case_of}
use Rattle.casefile.specs.declared.CaseError.{CaseError}
use Rattle.casefile.specs.declared.CaseError.TheVariants as cases
use Rattle.casefile.specs.declared.Places.{Places}
use Rattle.answer.specs.Answer.{Said, silent, roomless, said, needed, answer_by, output_by}
use Rattle.answer.specs.declared.Report.{Report}
use Rattle.answer.specs.declared.Report.TheVariants.{Message, NoMessage, NoRoom, NoOutput}
use Rattle.report.specs.Report.{said_in, answer_of, output_of, report_in, reported_by}
use Rattle.report.specs.declared.Manner.{Manner}
use Rattle.evidence.proofs.Delivered.{delivers, answer_is, answered, left, has_parts}
use Rattle.words.specs.declared.Wording.{Wording}
use Rattle.models.specs.Models.{old, full, GivesUp, SameReport, ReportsAlike, NoMessageAlike, NoRoomAlike, ReportsElsewhere}
use Rattle.models.proofs.Actions.{silent_alike}
use Rattle.models.proofs.Cause.{same_cause}
use Rattle.models.proofs.Elsewhere.{same_elsewhere, same_lack}

-- ---- a message with a cause

module _ (w : Wording) (bytes : List ℕ) (room room' : ℕ) (out out' : List ℕ) (size scan block : ℕ)
    (answer : report_in (old w) bytes room (length out) ≡ Message size 2 scan block) (enough : size ≤ length out')
    (roomy : (index : ℕ) → report_in (full w) bytes room' (length out') ≡ NoRoom index → ⊥) where
  by_places : (places : Places) → case_of bytes ≡ Ok places → SameReport w bytes room room' out out' size scan block
  by_places places reads =
      let p : Parts = parts_of bytes places in
      let d = delivers (old w) bytes places reads room out size 2 scan block answer in
      let says : said_in (full w) p room' ≡ said d.message 2 scan block =
      same_cause w p room room' d.message scan block d.says
      (λ index e. roomy index (answer_is (full w) bytes places reads room' out' (roomless index) e)) in
      let fits : length d.message ≤ length out' = omega (arith, d.sized, enough) in
      record {
        answers = answered (full w) bytes places reads room' out' d.message 2 scan block says fits
            ∙ ap (λ (n : ℕ). Message n 2 scan block) (sym d.sized);
        message = d.message;
        sized = d.sized;
        written = d.written;
        written' = left (full w) bytes places reads room' out' d.message 2 scan block says fits;
      }

  same_report : SameReport w bytes room room' out out' size scan block
  same_report =
      let lying = has_parts (old w) bytes room (length out) size 2 scan block answer in
      by_places lying.0 lying.1

pub reports_alike : ReportsAlike
reports_alike = same_report

-- ---- the other answers

-- where an answer of one manner is that of another for parts, it is for every case
module _ (one other : Manner) (bytes : List ℕ) (room room' out_room out_room' : ℕ) (answer : Report) where
  by_parts :
      ((places : Places) → case_of bytes ≡ Ok places → answer_by (said_in one (parts_of bytes places) room) out_room ≡ answer →
      answer_by (said_in other (parts_of bytes places) room') out_room' ≡ answer) →
      report_in one bytes room out_room ≡ answer → report_in other bytes room' out_room' ≡ answer
  unfolding report_in
  by_parts parts e = by_case (case_of bytes) refl e
    where
      by_case :
          (c : Result Places CaseError) → case_of bytes ≡ c → answer_of one bytes room out_room c ≡ answer → answer_of other bytes room' out_room' c ≡ answer
      by_case (Ok places) reads q = parts places reads q
      by_case (Err (cases.Wrong offset)) reads q = q
      by_case (Err cases.TooLong) reads q = q

pub silent_answer : (told : Said) (out_room : ℕ) → answer_by told out_room ≡ NoMessage → told ≡ silent
silent_answer silent out_room e = refl
silent_answer (roomless index) out_room e = let z : ◌≡◌ {A = ℕ} 0 1 = cc in absurd (omega arith)
silent_answer (said message kind scan block) out_room e = by_room (leb (length message) out_room) e
  where
    by_room :
        (b : Bool) → pick b (Message (length message) kind scan block) (NoOutput (needed message)) ≡ NoMessage →
        said message kind scan block ≡ silent
    by_room true q = let z : ◌≡◌ {A = ℕ} 0 1 = cc in absurd (omega arith)
    by_room false q = let z : ◌≡◌ {A = ℕ} 0 1 = cc in absurd (omega arith)

pub no_message_alike : NoMessageAlike
no_message_alike one other bytes room room' out_room out_room' =
    by_parts one other bytes room room' out_room out_room' NoMessage
    (λ places reads e.
    let p : Parts = parts_of bytes places in
    ap (λ (told : Said). answer_by told out_room')
    (silent_alike one other p room room' (silent_answer (said_in one p room) out_room e)))

pub roomless_answer : (told : Said) (out_room index : ℕ) → answer_by told out_room ≡ NoRoom index → told ≡ roomless index
roomless_answer silent out_room index e = let z : ◌≡◌ {A = ℕ} 0 1 = cc in absurd (omega arith)
roomless_answer (roomless at) out_room index e = let same : at ≡ index = cc in ap roomless same
roomless_answer (said message kind scan block) out_room index e = by_room (leb (length message) out_room) e
  where
    by_room :
        (b : Bool) → pick b (Message (length message) kind scan block) (NoOutput (needed message)) ≡ NoRoom index →
        said message kind scan block ≡ roomless index
    by_room true q = let z : ◌≡◌ {A = ℕ} 0 1 = cc in absurd (omega arith)
    by_room false q = let z : ◌≡◌ {A = ℕ} 0 1 = cc in absurd (omega arith)

pub no_room_alike : NoRoomAlike
no_room_alike w bytes room out_room out_room' index =
    by_parts (old w) (full w) bytes room room out_room out_room' (NoRoom index)
    (λ places reads e.
    let p : Parts = parts_of bytes places in
    ap (λ (told : Said). answer_by told out_room')
    (same_lack w p room index (roomless_answer (said_in (old w) p room) out_room index e)))

-- ---- all answers and outputs, where document 01's model does not give up

module _ (w : Wording) (bytes : List ℕ)
    (elsewhere : (places : Places) → case_of bytes ≡ Ok places → GivesUp (parts_of bytes places) → ⊥) where
  same_answers : (room out_room : ℕ) → report_in (full w) bytes room out_room ≡ report_in (old w) bytes room out_room
  same_answers room out_room =
      by_parts (old w) (full w) bytes room room out_room out_room (report_in (old w) bytes room out_room)
      (λ places reads e.
      ap (λ (told : Said). answer_by told out_room) (same_elsewhere w (parts_of bytes places) (elsewhere places reads) room) ∙ e)
      refl

  same_outputs : (room : ℕ) (out : List ℕ) → reported_by (full w) bytes room out ≡ reported_by (old w) bytes room out
  unfolding reported_by
  same_outputs room out = by_case (case_of bytes) refl
    where
      by_case : (c : Result Places CaseError) → case_of bytes ≡ c → output_of (full w) bytes room out c ≡ output_of (old w) bytes room out c
      by_case (Ok places) reads =
          ap (λ (told : Said). output_by told out) (same_elsewhere w (parts_of bytes places) (elsewhere places reads) room)
      by_case (Err error) reads = refl

pub reports_elsewhere : ReportsElsewhere
reports_elsewhere w bytes elsewhere =
    record { answers = same_answers w bytes elsewhere; outputs = same_outputs w bytes elsewhere }
