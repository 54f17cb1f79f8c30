-- The two wordings of a report beside each other (document 02, request 11): "wording 2 differs from it only in that word, and its room is
-- judged by its own length." In either model. proofs/ has a proof of each statement.
-- Assumes nothing.
use Rattle.std.specs.Prelude.{ℕ, ◌+◌, ◌≤◌, ◌<◌, ◌≡◌, List, ◌++◌, length, Ok}
use Rattle.basics.specs.Ascii.{ascii}
use Rattle.basics.specs.Bytes.{byte_at}
use Rattle.text.specs.Writing.{over}
use Rattle.casefile.specs.Parts.{Parts, parts_of}
use Rattle.casefile.specs.Whole.{case_of}
use Rattle.casefile.specs.declared.Places.{Places}
use Rattle.effects.specs.declared.Model.{Model}
use Rattle.answer.specs.Answer.{silent, roomless, said}
use Rattle.answer.specs.declared.Report.{Report}
use Rattle.answer.specs.declared.Report.TheVariants.{Message, NoMessage, NoRoom, NoOutput}
use Rattle.report.specs.Report.{manner_of, said_in, report_in, reported_by}
use Rattle.report.specs.declared.Manner.{Manner}
use Rattle.words.specs.declared.Wording.TheVariants.{Byte, ByteBoolean}

-- wordings 1 and 2 in a model
abbrev pub in_wording1 : Model → Manner
in_wording1 model = manner_of model Byte

abbrev pub in_wording2 : Model → Manner
in_wording2 model = manner_of model ByteBoolean

-- the opcodes with two array kinds, `baload` and `bastore`, and what their messages begin with
pub data Begins : ℕ → List ℕ → Type 0 where
  loading : Begins 51 (ascii "Cannot load from ")
  storing : Begins 84 (ascii "Cannot store to ")

-- the opcode at the fault
abbrev pub faulting : Parts → ℕ
faulting p = byte_at p.code p.fault

-- ---- the parts of a case

-- a message of wording 1, and that of wording 2: the same kind and counts, and the same before the word and behind it
pub record ButThatWord (model : Model) (p : Parts) (room : ℕ) (begin message : List ℕ) (kind scan block : ℕ) : Type 0 where
  pub behind : List ℕ
  pub is : message ≡ begin ++ ascii "byte array" ++ behind
  pub says : said_in (in_wording2 model) p room ≡ said (begin ++ ascii "byte/boolean array" ++ behind) kind scan block

pub record OnlyThatWord (model : Model) (p : Parts) (room : ℕ) : Type 0 where
  -- at the two opcodes
  pub there :
      (begin : List ℕ) → Begins (faulting p) begin → (message : List ℕ) (kind scan block : ℕ) →
      said_in (in_wording1 model) p room ≡ said message kind scan block → ButThatWord model p room begin message kind scan block
  -- at every other opcode nothing differs: neither a parameter `byte` nor a local of that name
  pub elsewhere :
      ((begin : List ℕ) → Begins (faulting p) begin → ⊥) → said_in (in_wording2 model) p room ≡ said_in (in_wording1 model) p room
  -- and nowhere what has no message
  pub nothing : said_in (in_wording1 model) p room ≡ silent → said_in (in_wording2 model) p room ≡ silent
  pub lacking : (index : ℕ) → said_in (in_wording1 model) p room ≡ roomless index → said_in (in_wording2 model) p room ≡ roomless index

-- ---- whole cases

-- the fault of a case is at one of the two opcodes
pub record AtThatWord (bytes begin : List ℕ) : Type 0 where
  pub places : Places
  pub reads : case_of bytes ≡ Ok places
  pub begins : Begins (faulting (parts_of bytes places)) begin

-- what wording 1 answers and writes, and wording 2 with another output: the word has eight bytes more
pub record OwnLength (model : Model) (bytes begin : List ℕ) (room : ℕ) (out out' : List ℕ) (size kind scan block : ℕ) : Type 0 where
  pub behind : List ℕ
  pub sized : size ≡ length (begin ++ ascii "byte array" ++ behind)
  pub written : reported_by (in_wording1 model) bytes room out ≡ over (begin ++ ascii "byte array" ++ behind) out
  pub fits :
      size + 8 ≤ length out' →
      (report_in (in_wording2 model) bytes room (length out') ≡ Message (size + 8) kind scan block)
      × (reported_by (in_wording2 model) bytes room out' ≡ over (begin ++ ascii "byte/boolean array" ++ behind) out')
  pub lacks :
      length out' < size + 8 →
      (report_in (in_wording2 model) bytes room (length out') ≡ NoOutput (size + 8)) × (reported_by (in_wording2 model) bytes room out' ≡ out')

-- an answer without a message, with any outputs: it is wording 2's too, and neither output changes
pub record Unworded (model : Model) (bytes : List ℕ) (room : ℕ) (out out' : List ℕ) (answer : Report) : Type 0 where
  pub answers : report_in (in_wording2 model) bytes room (length out') ≡ answer
  pub unchanged : reported_by (in_wording1 model) bytes room out ≡ out
  pub unchanged' : reported_by (in_wording2 model) bytes room out' ≡ out'

-- what `build_message_in` answers and leaves, by its contract
pub record ReportsThatWord (model : Model) (bytes : List ℕ) : Type 0 where
  pub there :
      (begin : List ℕ) → AtThatWord bytes begin → (room : ℕ) (out out' : List ℕ) (size kind scan block : ℕ) →
      report_in (in_wording1 model) bytes room (length out) ≡ Message size kind scan block →
      OwnLength model bytes begin room out out' size kind scan block
  -- nothing to say, and a stack that lacks room: at every opcode
  pub no_message :
      (room : ℕ) (out out' : List ℕ) → report_in (in_wording1 model) bytes room (length out) ≡ NoMessage →
      Unworded model bytes room out out' NoMessage
  pub no_room :
      (room : ℕ) (out out' : List ℕ) (index : ℕ) → report_in (in_wording1 model) bytes room (length out) ≡ NoRoom index →
      Unworded model bytes room out out' (NoRoom index)
  -- a case that is broken, too long or at another opcode
  pub answers_elsewhere :
      ((begin : List ℕ) → AtThatWord bytes begin → ⊥) → (room out_room : ℕ) →
      report_in (in_wording2 model) bytes room out_room ≡ report_in (in_wording1 model) bytes room out_room
  pub outputs_elsewhere :
      ((begin : List ℕ) → AtThatWord bytes begin → ⊥) → (room : ℕ) (out : List ℕ) →
      reported_by (in_wording2 model) bytes room out ≡ reported_by (in_wording1 model) bytes room out
