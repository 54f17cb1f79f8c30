-- The kind of a message (document 01, "Numbers returned": "1 action, 2 action and cause"), and exactly when it is 2. Said of a report in
-- any manner, and of document 01's.
-- Assumes nothing.
use Rattle.std.specs.Prelude.{ℕ, ◌-◌, ◌<◌, ◌≡◌, List, ◌⊎◌, length, get_or}
use Rattle.casefile.specs.Parts.{Parts}
use Rattle.cell.specs.Cell.{some_load, unpacked}
use Rattle.walk.specs.Room.{fits, block_walk_in}
use Rattle.walk.specs.Walk.{done}
use Rattle.fault.specs.Decoding.{decoded, faulted}
use Rattle.fault.specs.declared.Action.{Action}
use Rattle.action.specs.Action.{action_text}
use Rattle.answer.specs.Answer.{said}
use Rattle.report.specs.Report.{document_manner, scan_of, message_of, said_in}
use Rattle.report.specs.declared.Manner.{Manner}
use Rattle.words.specs.declared.Wording.{Wording}
use Rattle.leader.specs.Scan.{led_to}

-- "A cause is given exactly when the walk succeeds, its height exceeds the depth, and the slot at that depth from the top is
-- a load".
pub record CausedIn (manner : Manner) (p : Parts) (room : ℕ) (message : List ℕ) (scan block : ℕ) : Type 0 where
  pub action : Action
  pub depth : ℕ
  pub leader : ℕ
  pub slots : List ℕ
  pub load : ℕ
  pub local : ℕ
  -- the fault's action, and how deep the reference lies
  pub decodes : decoded p.code p.members p.member_count p.fault ≡ faulted action depth
  pub leads : scan_of p ≡ led_to leader scan
  -- "the walk succeeds"
  pub walks :
      block_walk_in manner.model p.code p.members p.member_count leader p.fault room ≡ fits (done slots block)
  -- "its height exceeds the depth"
  pub high : depth < length slots
  -- "the slot at that depth from the top is a load"
  pub slot : unpacked (get_or slots (length slots - 1 - depth) 0) ≡ some_load load local
  pub words : message ≡ message_of manner.wording p action (some_load load local)

-- in both directions, for the parts of any case and any room
pub record KindTwoIn (manner : Manner) : Type 0 where
  pub only :
      (p : Parts) (room : ℕ) (message : List ℕ) (scan block : ℕ) → said_in manner p room ≡ said message 2 scan block →
      CausedIn manner p room message scan block
  pub always :
      (p : Parts) (room : ℕ) (message : List ℕ) (scan block : ℕ) → CausedIn manner p room message scan block →
      said_in manner p room ≡ said message 2 scan block

-- the message is the fault's action in a wording, and nothing more
pub record ActionAlone (wording : Wording) (p : Parts) (message : List ℕ) : Type 0 where
  pub action : Action
  pub depth : ℕ
  pub decodes : decoded p.code p.members p.member_count p.fault ≡ faulted action depth
  pub words : message ≡ action_text wording p.members p.member_count action

-- every message is of kind 1, with the action alone, or of kind 2
abbrev pub OneOrTwoIn : Manner → Type 0
OneOrTwoIn manner =
    (p : Parts) (room : ℕ) (message : List ℕ) (kind scan block : ℕ) → said_in manner p room ≡ said message kind scan block →
    ((kind ≡ 1) × ActionAlone manner.wording p message) ⊎ (kind ≡ 2)

-- ---- document 01's manner

abbrev pub Caused : Parts → ℕ → List ℕ → ℕ → ℕ → Type 0
Caused p room message scan block = CausedIn document_manner p room message scan block

abbrev pub KindTwo : Type 0
KindTwo = KindTwoIn document_manner

abbrev pub OneOrTwo : Type 0
OneOrTwo = OneOrTwoIn document_manner
