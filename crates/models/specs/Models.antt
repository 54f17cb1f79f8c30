-- The two models of a report beside each other (document 02, request 1): "Where both calls have room, a cause under the old model is
-- the same under the full one." The walk in the full model is document 01's in everything, unless that gives up at an instruction
-- that it does not model. So the reports differ only there; a cause is the same, and with as many cells lent the full model has room
-- for it too. All of it in either wording (request 11). proofs/ has a proof of each statement.
-- Assumes nothing.
use Rattle.std.specs.Prelude.{ℕ, ◌≤◌, ◌≡◌, List, length, Option, Ok}
use Rattle.cell.specs.declared.Load.{Load}
use Rattle.text.specs.Writing.{over}
use Rattle.casefile.specs.Parts.{Parts, parts_of}
use Rattle.casefile.specs.Whole.{case_of}
use Rattle.casefile.specs.declared.Places.{Places}
use Rattle.effects.specs.Lookup.{lookup_in}
use Rattle.effects.specs.Rows.{row_of}
use Rattle.effects.specs.declared.Model.TheVariants.{Document, Full}
use Rattle.walk.specs.Room.{lacks, fits, block_walk, block_walk_in}
use Rattle.walk.specs.Walk.{not_modelled, cells, done, failed, walk}
use Rattle.fault.specs.Decoding.{decoded, faulted}
use Rattle.fault.specs.declared.Action.{Action}
use Rattle.answer.specs.Answer.{kind_of, silent, roomless, said}
use Rattle.answer.specs.declared.Report.TheVariants.{Message, NoMessage, NoRoom}
use Rattle.report.specs.Report.{manner_of, scan_of, message_of, said_in, report_in, reported_by}
use Rattle.report.specs.declared.Manner.{Manner}
use Rattle.words.specs.declared.Wording.{Wording}
use Rattle.leader.specs.Scan.{led_to}

-- ---- the walk

-- of any code, members, leader and fault
pub record SameWalk (code members : List ℕ) (count leader fault room : ℕ) (slots : List ℕ) (block : ℕ) : Type 0 where
  -- in as much room
  pub here : block_walk_in Full code members count leader fault room ≡ fits (done slots block)
  -- in any room that it does not lack
  pub there :
      (room' : ℕ) → ((index : ℕ) → block_walk_in Full code members count leader fault room' ≡ lacks index → ⊥) →
      block_walk_in Full code members count leader fault room' ≡ fits (done slots block)

abbrev pub WalksAlike : Type 0
WalksAlike =
    (code members : List ℕ) (count leader fault room : ℕ) (slots : List ℕ) (block : ℕ) →
    block_walk code members count leader fault room ≡ fits (done slots block) →
    SameWalk code members count leader fault room slots block

-- ---- the parts of a case

-- document 01's model "gave up": the fault dereferences, it has a leader, and the walk comes to an instruction that is not modelled
pub record GivesUp (p : Parts) : Type 0 where
  pub action : Action
  pub depth : ℕ
  pub leader : ℕ
  pub scan : ℕ
  pub count : ℕ
  pub index : ℕ
  pub decodes : decoded p.code p.members p.member_count p.fault ≡ faulted action depth
  pub leads : scan_of p ≡ led_to leader scan
  pub walks :
      walk cells row_of (lookup_in p.members p.member_count) p.code p.fault leader ≡ failed count index not_modelled

-- the two manners in one wording
abbrev pub old : Wording → Manner
old = manner_of Document

abbrev pub full : Wording → Manner
full = manner_of Full

-- elsewhere the full model says the same with as many cells lent, also where the walk fails for another reason
abbrev pub SameElsewhere : Type 0
SameElsewhere = (w : Wording) (p : Parts) → (GivesUp p → ⊥) → (room : ℕ) → said_in (full w) p room ≡ said_in (old w) p room

-- "3 may now come where the old model gave up earlier", and it never goes: the full model lacks room where
-- document 01's does, at the same index
abbrev pub SameLack : Type 0
SameLack =
    (w : Wording) (p : Parts) (room index : ℕ) → said_in (old w) p room ≡ roomless index → said_in (full w) p room ≡ roomless index

-- "Where both calls have room": the one has it, since it names a cause, and the other doesn't answer that it lacks it
abbrev pub SameCause : Type 0
SameCause =
    (w : Wording) (p : Parts) (room room' : ℕ) (message : List ℕ) (scan block : ℕ) →
    said_in (old w) p room ≡ said message 2 scan block → ((index : ℕ) → said_in (full w) p room' ≡ roomless index → ⊥) →
    said_in (full w) p room' ≡ said message 2 scan block

-- with as many cells lent nothing more is supposed
abbrev pub SameCauseHere : Type 0
SameCauseHere =
    (w : Wording) (p : Parts) (room : ℕ) (message : List ℕ) (scan block : ℕ) →
    said_in (old w) p room ≡ said message 2 scan block → said_in (full w) p room ≡ said message 2 scan block

-- whether there is anything to say depends on neither manner nor room
abbrev pub SilentAlike : Type 0
SilentAlike =
    (one other : Manner) (p : Parts) (room room' : ℕ) → said_in one p room ≡ silent → said_in other p room' ≡ silent

-- Two messages on the same parts, the second in the full model: their action and scan count are one, each with or without a cause;
-- and where the first names a cause, so does the second.
pub record SameAction (w : Wording) (p : Parts) (message message' : List ℕ) (kind kind' scan scan' : ℕ) : Type 0 where
  pub action : Action
  pub depth : ℕ
  pub decodes : decoded p.code p.members p.member_count p.fault ≡ faulted action depth
  pub cause : Option Load
  pub cause' : Option Load
  pub words : message ≡ message_of w p action cause
  pub words' : message' ≡ message_of w p action cause'
  pub kinds : kind ≡ kind_of cause
  pub kinds' : kind' ≡ kind_of cause'
  pub scans : scan' ≡ scan
  pub never_back : kind ≤ kind'

abbrev pub ActionsAlike : Type 0
ActionsAlike =
    (w : Wording) (p : Parts) (room room' : ℕ) (message message' : List ℕ) (kind kind' scan scan' block block' : ℕ) →
    said_in (old w) p room ≡ said message kind scan block → said_in (full w) p room' ≡ said message' kind' scan' block' →
    SameAction w p message message' kind kind' scan scan'

-- ---- whole cases

-- the answer of the full model, and one message in both outputs
pub record SameReport (w : Wording) (bytes : List ℕ) (room room' : ℕ) (out out' : List ℕ) (size scan block : ℕ) : Type 0 where
  pub answers : report_in (full w) bytes room' (length out') ≡ Message size 2 scan block
  pub message : List ℕ
  pub sized : size ≡ length message
  pub written : reported_by (old w) bytes room out ≡ over message out
  pub written' : reported_by (full w) bytes room' out' ≡ over message out'

-- what `build_message_in` answers and leaves, by its contract
abbrev pub ReportsAlike : Type 0
ReportsAlike =
    (w : Wording) (bytes : List ℕ) (room room' : ℕ) (out out' : List ℕ) (size scan block : ℕ) →
    report_in (old w) bytes room (length out) ≡ Message size 2 scan block → size ≤ length out' →
    ((index : ℕ) → report_in (full w) bytes room' (length out') ≡ NoRoom index → ⊥) →
    SameReport w bytes room room' out out' size scan block

-- answer 1
abbrev pub NoMessageAlike : Type 0
NoMessageAlike =
    (one other : Manner) (bytes : List ℕ) (room room' out_room out_room' : ℕ) →
    report_in one bytes room out_room ≡ NoMessage → report_in other bytes room' out_room' ≡ NoMessage

-- answer 3, with as many cells lent
abbrev pub NoRoomAlike : Type 0
NoRoomAlike =
    (w : Wording) (bytes : List ℕ) (room out_room out_room' index : ℕ) →
    report_in (old w) bytes room out_room ≡ NoRoom index → report_in (full w) bytes room out_room' ≡ NoRoom index

-- the answer and the output are the same in both models, whatever is lent
pub record SameInBoth (w : Wording) (bytes : List ℕ) : Type 0 where
  pub answers : (room out_room : ℕ) → report_in (full w) bytes room out_room ≡ report_in (old w) bytes room out_room
  pub outputs : (room : ℕ) (out : List ℕ) → reported_by (full w) bytes room out ≡ reported_by (old w) bytes room out

-- every case but those on whose parts document 01's model gives up; one that is broken or too long has no parts
abbrev pub ReportsElsewhere : Type 0
ReportsElsewhere =
    (w : Wording) (bytes : List ℕ) → ((places : Places) → case_of bytes ≡ Ok places → GivesUp (parts_of bytes places) → ⊥) →
    SameInBoth w bytes
