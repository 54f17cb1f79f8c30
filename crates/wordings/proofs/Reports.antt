-- Whole cases and their outputs: what is said of the parts differs in one word, so the answers differ by its length.
-- Assumes nothing.
use Rattle.std.specs.Prelude.{Result, Ok, Err}
use Prim.Native.Nat.{ℕ, ◌+◌, ◌≤◌, ◌<◌}
use native.Mathlib.Omega.{arith}
use mathlib.Core.Path.{◌≡◌, refl, ◌∙◌, sym, ap}
use mathlib.Core.Bool.{Bool, false}
use mathlib.Core.List.{List, ◌++◌}
use lib.Dec.{leb}
use lib.ListN.{length, length-append}
use borrow.Author.Tests.{lt-leb}
use Rattle.basics.specs.Ascii.{ascii}
use Rattle.basics.specs.Choice.{pick}
use Rattle.text.specs.Writing.{over}
use Rattle.casefile.specs.Parts.{Parts, parts_of}
use Rattle.casefile.specs.Whole.{case_of}
use Rattle.casefile.specs.declared.CaseError.{CaseError}
use Rattle.casefile.specs.declared.CaseError.TheVariants as cases
use Rattle.casefile.specs.declared.Places.{Places}
use Rattle.effects.specs.declared.Model.{Model}
use Rattle.answer.specs.Answer.{Said, silent, roomless, said, needed, answer_by, output_by}
use Rattle.answer.specs.declared.Report.{Report}
use Rattle.answer.specs.declared.Report.TheVariants.{Message, NoMessage, NoRoom, NoOutput}
use Rattle.report.specs.Report.{said_in, answer_of, output_of, report_in, reported_by}
use Rattle.words.specs.declared.Wording.TheVariants.{ByteBoolean}
use Rattle.evidence.proofs.Delivered.{delivers, answer_is, left_is, answered, left}
use Rattle.models.proofs.Actions.{made}
use Rattle.models.proofs.Reports.{silent_answer, roomless_answer}
use Rattle.bounds.proofs.Message.{needed_is_length}
use Rattle.wordings.specs.Word.{in_wording1, in_wording2, AtThatWord, OwnLength, Unworded, ReportsThatWord}
use Rattle.wordings.proofs.Word.{only_that_word}

-- ---- a message at one of the two opcodes

-- the word has eight bytes more
longer :
    (begin behind : List ℕ) →
    length (begin ++ ascii "byte/boolean array" ++ behind) ≡ length (begin ++ ascii "byte array" ++ behind) + 8
longer begin behind =
    omega (
      arith,
      length-append (begin ++ ascii "byte/boolean array") behind,
      length-append (begin ++ ascii "byte array") behind,
      length-append begin (ascii "byte/boolean array"),
      length-append begin (ascii "byte array"),
    )

module _ (model : Model) (bytes begin : List ℕ) (w : AtThatWord bytes begin) (room : ℕ) (out out' : List ℕ)
    (size kind scan block : ℕ) (answer : report_in (in_wording1 model) bytes room (length out) ≡ Message size kind scan block) where
  abbrev p : Parts
  p = parts_of bytes w.places

  module _ (message : List ℕ) (says : said_in (in_wording2 model) p room ≡ said message kind scan block)
      (sized : length message ≡ size + 8) where
    enough :
        size + 8 ≤ length out' →
        (report_in (in_wording2 model) bytes room (length out') ≡ Message (size + 8) kind scan block)
        × (reported_by (in_wording2 model) bytes room out' ≡ over message out')
    enough fits =
        let whole : length message ≤ length out' = omega (arith, sized, fits) in (
          answered (in_wording2 model) bytes w.places w.reads room out' message kind scan block says whole
              ∙ ap (λ (n : ℕ). Message n kind scan block) sized,
          left (in_wording2 model) bytes w.places w.reads room out' message kind scan block says whole,
        )

    counted : needed message ≡ size + 8
    counted =
        let of = made (in_wording2 model) p room message kind scan block says in
        ap needed of.words ∙ needed_is_length bytes w.places w.reads ByteBoolean of.action of.cause
        ∙ sym (ap length of.words) ∙ sized

    too_few :
        length out' < size + 8 →
        (report_in (in_wording2 model) bytes room (length out') ≡ NoOutput (size + 8)) × (reported_by (in_wording2 model) bytes room out' ≡ out')
    too_few lacks =
        let cut : leb (length message) (length out') ≡ false = lt-leb (length message) (length out') (omega (arith, sized, lacks)) in (
          answer_is (in_wording2 model) bytes w.places w.reads room out' (said message kind scan block) says
              ∙ ap (λ (b : Bool). pick b (Message (length message) kind scan block) (NoOutput (needed message))) cut
              ∙ ap NoOutput counted,
          left_is (in_wording2 model) bytes w.places w.reads room out' (said message kind scan block) says
              ∙ ap (λ (b : Bool). pick b (over message out') out') cut,
        )

  own_length : OwnLength model bytes begin room out out' size kind scan block
  own_length =
      let d = delivers (in_wording1 model) bytes w.places w.reads room out size kind scan block answer in
      let b = (only_that_word model p room).there begin w.begins d.message kind scan block d.says in
      let sized = d.sized ∙ ap length b.is in
      let longest = longer begin b.behind ∙ ap (λ (n : ℕ). n + 8) (sym sized) in
      record {
        behind = b.behind;
        sized = sized;
        written = d.written ∙ ap (λ (text : List ℕ). over text out) b.is;
        fits = enough (begin ++ ascii "byte/boolean array" ++ b.behind) b.says longest;
        lacks = too_few (begin ++ ascii "byte/boolean array" ++ b.behind) b.says longest;
      }

-- ---- an answer without a message

module _ (model : Model) (bytes : List ℕ) (room : ℕ) (out out' : List ℕ) where
  -- what is said is the same and makes this answer of every output, and changes none
  by_said :
      (told : Said) (answer : Report) → ((out_room : ℕ) → answer_by told out_room ≡ answer) →
      ((o : List ℕ) → output_by told o ≡ o) → (places : Places) → case_of bytes ≡ Ok places →
      said_in (in_wording1 model) (parts_of bytes places) room ≡ told →
      said_in (in_wording2 model) (parts_of bytes places) room ≡ told → Unworded model bytes room out out' answer
  by_said told answer answers outputs places reads says says' =
      record {
        answers = answer_is (in_wording2 model) bytes places reads room out' told says' ∙ answers (length out');
        unchanged = left_is (in_wording1 model) bytes places reads room out told says ∙ outputs out;
        unchanged' = left_is (in_wording2 model) bytes places reads room out' told says' ∙ outputs out';
      }

  no-message :
      (c : Result Places CaseError) → case_of bytes ≡ c → answer_of (in_wording1 model) bytes room (length out) c ≡ NoMessage →
      Unworded model bytes room out out' NoMessage
  no-message (Ok places) reads q =
      let says = silent_answer (said_in (in_wording1 model) (parts_of bytes places) room) (length out) q in
      by_said silent NoMessage (λ out_room. refl) (λ o. refl) places reads says
      ((only_that_word model (parts_of bytes places) room).nothing says)
  no-message (Err (cases.Wrong offset)) reads q = let z : ◌≡◌ {A = ℕ} 0 1 = cc in absurd (omega arith)
  no-message (Err cases.TooLong) reads q = let z : ◌≡◌ {A = ℕ} 0 1 = cc in absurd (omega arith)

  no-room :
      (index : ℕ) (c : Result Places CaseError) → case_of bytes ≡ c → answer_of (in_wording1 model) bytes room (length out) c ≡ NoRoom index →
      Unworded model bytes room out out' (NoRoom index)
  no-room index (Ok places) reads q =
      let says = roomless_answer (said_in (in_wording1 model) (parts_of bytes places) room) (length out) index q in
      by_said (roomless index) (NoRoom index) (λ out_room. refl) (λ o. refl) places reads says
      ((only_that_word model (parts_of bytes places) room).lacking index says)
  no-room index (Err (cases.Wrong offset)) reads q = let z : ◌≡◌ {A = ℕ} 0 1 = cc in absurd (omega arith)
  no-room index (Err cases.TooLong) reads q = let z : ◌≡◌ {A = ℕ} 0 1 = cc in absurd (omega arith)

-- ---- every other case

module _ (model : Model) (bytes : List ℕ) (other : (begin : List ℕ) → AtThatWord bytes begin → ⊥) (room : ℕ) where
  same :
      (places : Places) → case_of bytes ≡ Ok places →
      said_in (in_wording2 model) (parts_of bytes places) room ≡ said_in (in_wording1 model) (parts_of bytes places) room
  same places reads =
      (only_that_word model (parts_of bytes places) room).elsewhere
      (λ begin begins. other begin (record { places = places; reads = reads; begins = begins }))

  same_answer :
      (out_room : ℕ) (c : Result Places CaseError) → case_of bytes ≡ c →
      answer_of (in_wording2 model) bytes room out_room c ≡ answer_of (in_wording1 model) bytes room out_room c
  same_answer out_room (Ok places) reads = ap (λ (told : Said). answer_by told out_room) (same places reads)
  same_answer out_room (Err (cases.Wrong offset)) reads = refl
  same_answer out_room (Err cases.TooLong) reads = refl

  same_output :
      (out : List ℕ) (c : Result Places CaseError) → case_of bytes ≡ c →
      output_of (in_wording2 model) bytes room out c ≡ output_of (in_wording1 model) bytes room out c
  same_output out (Ok places) reads = ap (λ (told : Said). output_by told out) (same places reads)
  same_output out (Err error) reads = refl

pub reports_that_word : (model : Model) (bytes : List ℕ) → ReportsThatWord model bytes
unfolding report_in reported_by
reports_that_word model bytes =
    record {
      there = own_length model bytes;
      no_message = λ room out out' e. no-message model bytes room out out' (case_of bytes) refl e;
      no_room = λ room out out' index e. no-room model bytes room out out' index (case_of bytes) refl e;
      answers_elsewhere = λ other room out_room. same_answer model bytes other room out_room (case_of bytes) refl;
      outputs_elsewhere = λ other room out. same_output model bytes other room out (case_of bytes) refl;
    }
