-- Document 01, last paragraph: "Where an answer is an enum, a definition gives this paper's number and values for each of the enum's
-- cases. The promises use this definition." A contract says that an answer is the one that a definition gives; through the numbering
-- it says that the answer's numbers are those of the definition. Of every enum with a numbering the two are one promise.
-- proofs/Numbered.antt has its proof.
-- Assumes nothing.
use Rattle.std.specs.Prelude.{ℕ, ◌≡◌, List}
use Rattle.walk.specs.Room.{numbered as walk_numbered}
use Rattle.bytecode.specs.Length.{numbered as length_numbered}
use Rattle.casefile.specs.Whole.{numbered as case_numbered}
use Rattle.judging.specs.Judged.{numbered as strict_numbered}
use Rattle.leader.specs.Scan.{numbered as leader_numbered}
use Rattle.answer.specs.Answer.{numbered as report_numbered}

-- an answer is the wanted one exactly when its numbers are the wanted one's
pub record SamePromise {A : Type 0} (numbered : A → List ℕ) : Type 0 where
  pub by_numbers : (answer wanted : A) → answer ≡ wanted → numbered answer ≡ numbered wanted
  pub by_answer : (answer wanted : A) → numbered answer ≡ numbered wanted → answer ≡ wanted

pub record PromisesNumbered : Type 0 where
  -- `instruction_length`, `length_by`
  pub length : SamePromise length_numbered
  -- `block_leader`
  pub leader : SamePromise leader_numbered
  -- `parse_type`, `parse_method`
  pub strict : SamePromise strict_numbered
  -- `read_case`
  pub case : SamePromise case_numbered
  -- `simulate_block`, `simulate_block_in`
  pub walk : SamePromise walk_numbered
  -- `build_message`, `report_parts`, both in a manner, and `build_message_worded`
  pub report : SamePromise report_numbered
