-- What a reserved byte does to a report (document 02, request 6: "a cause came out of it"), and that it does nothing to any other: in any
-- manner. What a whole case is answered, and what is left in its output, goes by what is said of its parts (`answer_of`, `output_of` of
-- crates/report). proofs/Reserved.antt has the proof.
-- Assumes nothing.
use Rattle.std.specs.Prelude.{ℕ, ◌≤◌, ◌≡◌, List, []}
use Rattle.basics.specs.Bytes.{byte_at}
use Rattle.bytecode.specs.Length.{document_length}
use Rattle.bytecode.specs.Rule.{length_rule}
use Rattle.leader.specs.Scan.{block_leader}
use Rattle.leaders.specs.Leader.{Arrived}
use Rattle.leaders.specs.Reserved.{MeetsNone}
use Rattle.casefile.specs.Parts.{Parts}
use Rattle.fault.specs.Decoding.{decoded, faulted}
use Rattle.fault.specs.declared.Action.{Action}
use Rattle.action.specs.Action.{action_text}
use Rattle.answer.specs.Answer.{Said, said}
use Rattle.report.specs.Report.{said_from, said_in}
use Rattle.report.specs.declared.Manner.{Manner}

-- what is said in a manner where the scan goes by document 01's own lengths
abbrev pub said_by_document : Manner → Parts → ℕ → Said
said_by_document manner p room =
    said_from manner (block_leader document_length [] p.code p.fault) p room
    (decoded p.code p.members p.member_count p.fault)

pub record ReservedReport (manner : Manner) : Type 0 where
  -- where the scan meets none, the report is that by document 01's lengths
  pub unmoved : (p : Parts) (room : ℕ) → MeetsNone p.code → said_in manner p room ≡ said_by_document manner p room
  -- where it meets one, before the fault or behind it, the report is the action alone. The scan count is that of the instructions before
  -- the byte, the block count 0, whatever room there is.
  pub action_alone :
      (p : Parts) (room count pc : ℕ) →
      Arrived length_rule p.code count pc → 202 ≤ byte_at p.code pc → (action : Action) (depth : ℕ) →
      decoded p.code p.members p.member_count p.fault ≡ faulted action depth →
      said_in manner p room ≡ said (action_text manner.wording p.members p.member_count action) 1 count 0
  -- no name is new: one that is given is given by document 01's lengths too, with message and counts
  pub same_name :
      (p : Parts) (room : ℕ) (message : List ℕ) (scan block : ℕ) →
      said_in manner p room ≡ said message 2 scan block → said_by_document manner p room ≡ said message 2 scan block
