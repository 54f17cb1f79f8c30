-- No constant program meets the contract of a report in document 01's model, in either wording, so none meets that of `build_message`:
-- none with one answer, one kind or one text, none that leaves the output as it was, and none that leaves the stack as it was.
-- Assumes nothing.
use Rattle.std.specs.Prelude.{ℕ, ◌^◌, ◌<◌, ◌≡◌, List, [], ◌∷◌, length, get_or, replicate}
use Rattle.basics.specs.Ascii.{ascii}
use Rattle.basics.specs.Bytes.{AreBytes}
use Rattle.text.specs.Writing.{over}
use Rattle.effects.specs.declared.Model.TheVariants.{Document}
use Rattle.answer.specs.Answer.{numbered}
use Rattle.report.specs.Report.{manner_of, report_in, reported_by}
use Rattle.words.specs.declared.Wording.{Wording}
use Rattle.answer.specs.declared.Report.{Report}
use Rattle.answer.specs.declared.Report.TheVariants.{Message, NoMessage, Broken, NoRoom, NoOutput}

-- ---- cases that tell programs apart: static methods, no members, no records

-- aload_0, arraylength, and the fault there
abbrev pub reading : List ℕ
reading = 0x08 ∷ 0x01 ∷ 0x02 ∷ 0x2a ∷ 0xbe ∷ 0x00 ∷ 0x00 ∷ 0x00 ∷ []

-- aload_0, athrow
abbrev pub throwing : List ℕ
throwing = 0x08 ∷ 0x01 ∷ 0x02 ∷ 0x2a ∷ 0xbf ∷ 0x00 ∷ 0x00 ∷ 0x00 ∷ []

-- aconst_null, arraylength: no local is loaded
abbrev pub reading_null : List ℕ
reading_null = 0x08 ∷ 0x01 ∷ 0x02 ∷ 0x01 ∷ 0xbe ∷ 0x00 ∷ 0x00 ∷ 0x00 ∷ []

-- return, which dereferences nothing
abbrev pub returning : List ℕ
returning = 0x08 ∷ 0x00 ∷ 0x01 ∷ 0xb1 ∷ 0x00 ∷ 0x00 ∷ 0x00 ∷ []

abbrev pub blank : List ℕ
blank = replicate 60 0

pub record SmallCases (w : Wording) : Type 0 where
  pub reads : report_in (manner_of Document w) reading 1 60 ≡ Message 55 2 2 1
  pub reads_text :
      reported_by (manner_of Document w) reading 1 blank ≡ over (ascii "Cannot read the array length because \"<local0>\" is null") blank
  pub throws : report_in (manner_of Document w) throwing 1 60 ≡ Message 49 2 2 1
  pub throws_text :
      reported_by (manner_of Document w) throwing 1 blank ≡ over (ascii "Cannot throw exception because \"<local0>\" is null") blank
  pub reads_null : report_in (manner_of Document w) reading_null 1 60 ≡ Message 28 1 2 1
  pub returns : report_in (manner_of Document w) returning 1 60 ≡ NoMessage
  pub broken : report_in (manner_of Document w) [] 1 60 ≡ Broken 0
  pub stackless : report_in (manner_of Document w) reading 0 60 ≡ NoRoom 0
  pub outless : report_in (manner_of Document w) reading 1 54 ≡ NoOutput 55

-- ---- programs

-- the bytes of a case, the stack and the output that are lent, as a caller can lend them
pub record Lent (bytes stack out : List ℕ) : Type 0 where
  pub case : AreBytes bytes
  pub cells : (i : ℕ) → get_or stack i 0 < 2 ^ 64
  pub output : AreBytes out

-- it holds of all that can be lent
abbrev pub Always : (List ℕ → List ℕ → List ℕ → Type 0) → Type 0
Always P = (bytes stack out : List ℕ) → Lent bytes stack out → P bytes stack out

-- what a program makes of them: its answer, and the output and the stack at exit
pub record Program : Type 0 where
  pub answer : List ℕ → List ℕ → List ℕ → Report
  pub output : List ℕ → List ℕ → List ℕ → List ℕ
  pub stack : List ℕ → List ℕ → List ℕ → List ℕ

-- the contract of a report in document 01's model and a wording; that of `build_message` is wording 2's
pub record Meets (w : Wording) (program : Program) : Type 0 where
  pub answers : Always (λ bytes stack out. program.answer bytes stack out ≡ report_in (manner_of Document w) bytes (length stack) (length out))
  pub leaves : Always (λ bytes stack out. program.output bytes stack out ≡ reported_by (manner_of Document w) bytes (length stack) out)
  pub clears : Always (λ bytes stack out. program.stack bytes stack out ≡ replicate (length stack) 0)

-- document 01's number of an answer
abbrev pub number_of : Report → ℕ
number_of r = get_or (numbered r) 0 0

-- a program has no one answer for all, and so on
pub record Varied (program : Program) : Type 0 where
  -- no one number for all cases: it doesn't always answer 1, nor always 3
  pub number : (n : ℕ) → Always (λ bytes stack out. number_of (program.answer bytes stack out) ≡ n) → ⊥
  pub answer : (r : Report) → Always (λ bytes stack out. program.answer bytes stack out ≡ r) → ⊥
  -- no one kind for all that get a message: there are causes, and messages without
  pub kind :
      (k : ℕ) →
      Always (λ bytes stack out. (size kind scan block : ℕ) →
      program.answer bytes stack out ≡ Message size kind scan block → kind ≡ k) →
      ⊥
  -- no one text for all that get a message
  pub text :
      (text : List ℕ) →
      Always (λ bytes stack out. (size kind scan block : ℕ) →
      program.answer bytes stack out ≡ Message size kind scan block → program.output bytes stack out ≡ over text out) →
      ⊥
  -- no output that is always left as it was, and no such stack
  pub output : Always (λ bytes stack out. program.output bytes stack out ≡ out) → ⊥
  pub stack : Always (λ bytes stack out. program.stack bytes stack out ≡ stack) → ⊥

abbrev pub NoConstant : Type 0
NoConstant = (w : Wording) (program : Program) → Meets w program → Varied program
