-- What a reserved byte does to a scan (document 02, request 6: "Scan counts, leaders and messages follow"), and that it does nothing to any
-- other. proofs/Reserved.antt has the proof.
-- Assumes nothing.
use Rattle.std.specs.Prelude.{ℕ, ◌≤◌, ◌<◌, ◌≡◌, List}
use Rattle.basics.specs.Bytes.{byte_at}
use Rattle.bytecode.specs.Length.{document_length, length_of}
use Rattle.bytecode.specs.Rule.{document_rule, length_rule}
use Rattle.leader.specs.Scan.{block_leader, led_to, stopped_at}
use Rattle.leaders.specs.Leader.{Arrived, Reached}

-- the scan meets no reserved byte
abbrev pub MeetsNone : List ℕ → Type 0
MeetsNone code = (pc : ℕ) → Reached length_rule code pc → byte_at code pc < 202

pub record ReservedScan : Type 0 where
  -- where it meets none, the answer is document 01's: leader and count, or index and count
  pub unmoved :
      (extra code : List ℕ) (fault : ℕ) → MeetsNone code →
      block_leader length_of extra code fault ≡ block_leader document_length extra code fault
  -- it stops at the first that it meets, wherever the fault is, and counts what stands before it
  pub stops :
      (extra code : List ℕ) (fault count pc : ℕ) →
      Arrived length_rule code count pc → 202 ≤ byte_at code pc → block_leader length_of extra code fault ≡ stopped_at pc count
  -- so where document 01's scan, which counts such a byte as an instruction, meets one anywhere, there is no leader
  pub no_leader :
      (extra code : List ℕ) (fault pc leader count : ℕ) →
      Reached document_rule code pc → 202 ≤ byte_at code pc → block_leader length_of extra code fault ≡ led_to leader count → ⊥
