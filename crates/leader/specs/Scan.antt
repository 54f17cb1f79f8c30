-- The scan of a code and the leader that is wanted (document 01, "Leaders" and "Scan count"), over any way to measure and
-- any list of extra leaders.
-- Assumes nothing.
use Rattle.std.specs.Prelude.{ℕ, zero, suc, ◌+◌, Bool, true, false, List, [], ◌∷◌, ◌++◌, ltb, length, Result, Ok, Err}
use Rattle.greatest.specs.Greatest.{greatest}
use Rattle.leader.specs.Targets.{leaders_at}
use Rattle.bytecode.specs.declared.Unmeasured.{Unmeasured}
use Rattle.leader.specs.declared.Scanned.{Scanned}

-- the instructions of a code in their order, each with its index and length, up to the end or to one that has no length
pub data Instructions : Type 0 where
  ended : Instructions
  unmeasured : ℕ → Instructions
  instruction : ℕ → ℕ → Instructions → Instructions

-- at pc, in the code or not, with what measuring there answers and what follows
abbrev pub scan_step : Bool → Result ℕ Unmeasured → ℕ → (ℕ → Instructions) → Instructions
scan_step false answer pc following = ended
scan_step true (Ok n) pc following = instruction pc n (following (pc + n))
scan_step true (Err why) pc following = unmeasured pc

-- from pc on, at most k instructions
unfoldable pub scan_from : (List ℕ → ℕ → Result ℕ Unmeasured) → List ℕ → ℕ → ℕ → Instructions
scan_from measure code zero pc = ended
scan_from measure code (suc k) pc =
    scan_step (ltb pc (length code)) (measure code pc) pc (λ next. scan_from measure code k next)

-- a length is at least 1, so a code of n bytes has at most n instructions
unfoldable pub instructions : (List ℕ → ℕ → Result ℕ Unmeasured) → List ℕ → Instructions
instructions measure code = scan_from measure code (length code) 0

-- "instructions measured from 0 to the end or to the first that can't be measured"
unfoldable pub scan_count : Instructions → ℕ
scan_count ended = 0
scan_count (unmeasured pc) = 0
scan_count (instruction pc n rest) = 1 + scan_count rest

unfoldable pub leaders_of : List ℕ → Instructions → List ℕ
leaders_of code ended = []
leaders_of code (unmeasured pc) = []
leaders_of code (instruction pc n rest) = leaders_at code pc (pc + n) ++ leaders_of code rest

-- the two answers of a scan: the leader, or the first instruction that has no length, each with the count
abbrev pub led_to : ℕ → ℕ → Result Scanned Scanned
led_to leader count = Ok (record { at = leader; count = count })

abbrev pub stopped_at : ℕ → ℕ → Result Scanned Scanned
stopped_at pc count = Err (record { at = pc; count = count })

-- "if any instruction has no length there is no leader"
unfoldable pub answered : Instructions → ℕ → ℕ → Result Scanned Scanned
answered ended leader count = led_to leader count
answered (unmeasured pc) leader count = stopped_at pc count
answered (instruction pc n rest) leader count = answered rest leader count

-- "The wanted one is the greatest at or below the fault." 0 is a leader of every code.
unfoldable pub block_leader : (List ℕ → ℕ → Result ℕ Unmeasured) → List ℕ → List ℕ → ℕ → Result Scanned Scanned
block_leader measure extra code fault =
    let scanned = instructions measure code in
    answered scanned (greatest fault (extra ++ leaders_of code scanned)) (scan_count scanned)

-- an answer as numbers: 1, the leader and the count; or 0, the index and the count
unfoldable pub numbered : Result Scanned Scanned → List ℕ
numbered (Ok s) = 1 ∷ s.at ∷ s.count ∷ []
numbered (Err s) = 0 ∷ s.at ∷ s.count ∷ []
