-- What the answer and the output of a whole case say of its parts, and what its parts make of both, in any manner.
-- Assumes nothing.
use Rattle.std.specs.Prelude.{Result, Ok, Err}
use Prim.Native.Nat.{ℕ, ◌≤◌}
use native.Mathlib.Omega.{arith}
use mathlib.Core.Path.{◌≡◌, refl, ◌∙◌, sym, ap}
use mathlib.Core.Bool.{Bool, true, false}
use mathlib.Core.List.{List}
use lib.Dec.{leb}
use lib.ListN.{length}
use borrow.Author.Tests.{le-leb}
use Rattle.basics.specs.Choice.{pick}
use Rattle.text.specs.Writing.{over}
use Rattle.casefile.specs.Parts.{Parts, parts_of}
use Rattle.casefile.specs.Whole.{case_of}
use Rattle.casefile.specs.declared.CaseError.{CaseError}
use Rattle.casefile.specs.declared.CaseError.TheVariants as cases
use Rattle.casefile.specs.declared.Places.{Places}
use Rattle.answer.specs.Answer.{Said, silent, roomless, said, needed, answer_by, output_by}
use Rattle.answer.specs.declared.Report.TheVariants.{Message, NoOutput}
use Rattle.report.specs.Report.{said_in, answer_of, report_in, reported_by}
use Rattle.report.specs.declared.Manner.{Manner}

-- the parts say a message, and the output starts with it
pub record Delivers (manner : Manner) (bytes : List ℕ) (places : Places) (room : ℕ) (out : List ℕ) (size kind scan block : ℕ) :
    Type 0 where
  pub message : List ℕ
  pub sized : size ≡ length message
  pub says : said_in manner (parts_of bytes places) room ≡ said message kind scan block
  pub written : reported_by manner bytes room out ≡ over message out

module _ (manner : Manner) (bytes : List ℕ) (places : Places) (reads : case_of bytes ≡ Ok places) (room : ℕ)
    (out : List ℕ) where
  abbrev p : Parts
  p = parts_of bytes places

  pub answer_is : (told : Said) → said_in manner p room ≡ told → report_in manner bytes room (length out) ≡ answer_by told (length out)
  unfolding report_in
  answer_is told e = rw (reads, e)

  pub left_is : (told : Said) → said_in manner p room ≡ told → reported_by manner bytes room out ≡ output_by told out
  unfolding reported_by
  left_is told e = rw (reads, e)

  -- ---- what an answer says

  module _ (size kind scan block : ℕ) where
    by_room :
        (message : List ℕ) (k s c : ℕ) → said_in manner p room ≡ said message k s c →
        (b : Bool) → leb (length message) (length out) ≡ b →
        pick b (Message (length message) k s c) (NoOutput (needed message)) ≡ Message size kind scan block →
        Delivers manner bytes places room out size kind scan block
    by_room message k s c e true t answer =
        let sized : length message ≡ size = cc in
        let kinds : k ≡ kind = cc in
        let scans : s ≡ scan = cc in
        let counts : c ≡ block = cc in
        record {
          message = message;
          sized = sym sized;
          says = e ∙ rw (kinds, scans, counts);
          written = left_is (said message k s c) e ∙ ap (λ (b : Bool). pick b (over message out) out) t;
        }
    by_room message k s c e false t answer = let z : ◌≡◌ {A = ℕ} 0 1 = cc in absurd (omega arith)

    by_said :
        (told : Said) → said_in manner p room ≡ told → answer_by told (length out) ≡ Message size kind scan block →
        Delivers manner bytes places room out size kind scan block
    by_said silent e answer = let z : ◌≡◌ {A = ℕ} 0 1 = cc in absurd (omega arith)
    by_said (roomless index) e answer = let z : ◌≡◌ {A = ℕ} 0 1 = cc in absurd (omega arith)
    by_said (said message k s c) e answer = by_room message k s c e (leb (length message) (length out)) refl answer

    pub delivers :
        report_in manner bytes room (length out) ≡ Message size kind scan block →
        Delivers manner bytes places room out size kind scan block
    delivers answer = by_said (said_in manner p room) refl (sym (answer_is (said_in manner p room) refl) ∙ answer)

  -- ---- what is answered, where the output has room

  module _ (message : List ℕ) (kind scan block : ℕ) (says : said_in manner p room ≡ said message kind scan block)
      (enough : length message ≤ length out) where
    roomy : leb (length message) (length out) ≡ true
    roomy = le-leb (length message) (length out) enough

    pub answered : report_in manner bytes room (length out) ≡ Message (length message) kind scan block
    answered =
        answer_is (said message kind scan block) says
        ∙ ap (λ (b : Bool). pick b (Message (length message) kind scan block) (NoOutput (needed message))) roomy

    pub left : reported_by manner bytes room out ≡ over message out
    left = left_is (said message kind scan block) says ∙ ap (λ (b : Bool). pick b (over message out) out) roomy

-- a message is that of parts
pub has_parts :
    (manner : Manner) (bytes : List ℕ) (room out_room size kind scan block : ℕ) →
    report_in manner bytes room out_room ≡ Message size kind scan block → (places : Places) × (case_of bytes ≡ Ok places)
unfolding report_in
has_parts manner bytes room out_room size kind scan block answer = by_case (case_of bytes) refl answer
  where
    by_case :
        (c : Result Places CaseError) → case_of bytes ≡ c → answer_of manner bytes room out_room c ≡ Message size kind scan block →
        (places : Places) × (case_of bytes ≡ Ok places)
    by_case (Ok places) e q = (places, e)
    by_case (Err (cases.Wrong offset)) e q = let z : ◌≡◌ {A = ℕ} 0 1 = cc in absurd (omega arith)
    by_case (Err cases.TooLong) e q = let z : ◌≡◌ {A = ℕ} 0 1 = cc in absurd (omega arith)
