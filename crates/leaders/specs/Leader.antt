-- Leaders, declared (document 01, "Leaders"), over any length rule and any list of extra leaders: what an instruction is that
-- the scan reaches, what a leader is, which one is wanted, and what an answer of the scan means. Which opcodes branch, and
-- where they land, is JVMS's. The statements at the end are proved in proofs/ of this crate.
-- Assumes nothing.
use Rattle.std.specs.Prelude.{ℕ, suc, ◌+◌, ◌≤◌, ◌<◌, ◌≡◌, List, ◌∷◌, T, length, Result, Ok, Err}
use Rattle.basics.specs.Bytes.{byte_at, AreBytes}
use Rattle.basics.specs.Member.{◌∈◌}
use Rattle.jvms.specs.Branch.{landings_at, ends_block}
use Rattle.bytecode.specs.Length.{document_length}
use Rattle.bytecode.specs.Rule.{LengthRule, document_rule}
use Rattle.bytecode.specs.declared.Unmeasured.{Unmeasured}
use Rattle.greatest.specs.Greatest.{greatest}
use Rattle.leader.specs.Scan.{block_leader, led_to}
use Rattle.leader.specs.Targets.{targets_at}
use Rattle.leader.specs.declared.Scanned.{Scanned}

-- measuring so many instructions from 0 on arrives at an index
pub data Arrived (rule : LengthRule) (code : List ℕ) : ℕ → ℕ → Type 0 where
  start : Arrived rule code 0 0
  next :
      {count pc n : ℕ} →
      Arrived rule code count pc → pc < length code → rule.measure code pc ≡ Ok n → Arrived rule code (suc count) (pc + n)

-- an instruction starts at this index of the code
pub record Reached (rule : LengthRule) (code : List ℕ) (pc : ℕ) : Type 0 where
  pub count : ℕ
  pub arrived : Arrived rule code count pc
  pub inside : pc < length code

-- "0; each target of [a branch] and of each switch entry and default; the index after each of those, and after [ret, the
-- returns, athrow]", and the extra ones
pub data IsLeader (rule : LengthRule) (extra code : List ℕ) : ℕ → Type 0 where
  zeroth : IsLeader rule extra code 0
  target : {pc x : ℕ} → Reached rule code pc → x ∈ landings_at code pc → IsLeader rule extra code x
  after :
      {pc n : ℕ} →
      Reached rule code pc → rule.measure code pc ≡ Ok n → T (ends_block (byte_at code pc)) → IsLeader rule extra code (pc + n)
  added : {x : ℕ} → x ∈ extra → IsLeader rule extra code x

-- "The wanted one is the greatest at or below the fault."
pub record Wanted (rule : LengthRule) (extra code : List ℕ) (fault leader : ℕ) : Type 0 where
  pub is_leader : IsLeader rule extra code leader
  pub at_or_below : leader ≤ fault
  pub greatest : (x : ℕ) → IsLeader rule extra code x → x ≤ fault → x ≤ leader

-- the code is measured to its end, in so many instructions
abbrev pub MeasuredToEnd : LengthRule → List ℕ → ℕ → Type 0
MeasuredToEnd rule code count = Arrived rule code count (length code)

-- what an answer of the scan means. The count is that of the instructions reached and measured. An Err is an instruction that has no
-- length, for whatever reason.
abbrev pub Means : LengthRule → List ℕ → List ℕ → ℕ → Result Scanned Scanned → Type 0
Means rule extra code fault (Ok s) = MeasuredToEnd rule code s.count × Wanted rule extra code fault s.at
Means rule extra code fault (Err s) =
    Arrived rule code s.count s.at × (s.at < length code) × ((n : ℕ) → rule.measure code s.at ≡ Ok n → ⊥)

-- ---- the statements

-- The scan's answer means what it says, and no other answer does. So no leader is answered exactly when some instruction that
-- is reached has no length.
pub record LeaderDeclared : Type 0 where
  pub means :
      (rule : LengthRule) (extra code : List ℕ) → AreBytes code → (fault : ℕ) →
      Means rule extra code fault (block_leader rule.measure extra code fault)
  pub only :
      (rule : LengthRule) (extra code : List ℕ) → AreBytes code → (fault : ℕ) (answer : Result Scanned Scanned) →
      Means rule extra code fault answer → answer ≡ block_leader rule.measure extra code fault

-- condition 3, last clause: no scanned branch or switch lands after the leader and at or before the fault
abbrev pub NothingLandsBetween : Type 0
NothingLandsBetween =
    (rule : LengthRule) (extra code : List ℕ) → AreBytes code → (fault leader count : ℕ) → fault < length code →
    block_leader rule.measure extra code fault ≡ led_to leader count →
    (pc x : ℕ) → Reached rule code pc → x ∈ landings_at code pc → leader < x → x ≤ fault → ⊥

-- nor does one of the extra leaders lie there
abbrev pub NothingAddedBetween : Type 0
NothingAddedBetween =
    (rule : LengthRule) (extra code : List ℕ) → AreBytes code → (fault leader count : ℕ) →
    block_leader rule.measure extra code fault ≡ led_to leader count →
    (x : ℕ) → x ∈ extra → leader < x → x ≤ fault → ⊥

-- Extra leaders count by their greatest at or below the fault alone: two lists that have the same lead alike. So a list of them
-- can reach the scan as one number.
abbrev pub LedAlike : Type 0
LedAlike =
    (measure : List ℕ → ℕ → Result ℕ Unmeasured) (code : List ℕ) (fault : ℕ) (one another : List ℕ) →
    greatest fault one ≡ greatest fault another → block_leader measure one code fault ≡ block_leader measure another code fault

-- Document 01's rule gives the most lengths. What another has of it:
pub record LedByDocument : Type 0 where
  -- its scan reaches nothing else
  pub reaches_no_more : (rule : LengthRule) (code : List ℕ) (pc : ℕ) → Reached rule code pc → Reached document_rule code pc
  -- where it gives a length to all that its scan reaches and document 01 gives one to, the answer is document 01's
  pub same_lengths :
      (rule : LengthRule) (extra code : List ℕ) (fault : ℕ) →
      ((pc n : ℕ) → Reached rule code pc → document_length code pc ≡ Ok n → rule.measure code pc ≡ Ok n) →
      block_leader rule.measure extra code fault ≡ block_leader document_length extra code fault
  -- a leader that it gives is document 01's, with its count, and its scan reaches all that document 01's does
  pub same_leader :
      (rule : LengthRule) (extra code : List ℕ) (fault leader count : ℕ) →
      block_leader rule.measure extra code fault ≡ led_to leader count →
      block_leader document_length extra code fault ≡ led_to leader count
  pub reaches_all :
      (rule : LengthRule) (extra code : List ℕ) (fault leader count : ℕ) →
      block_leader rule.measure extra code fault ≡ led_to leader count →
      (pc : ℕ) → Reached document_rule code pc → Reached rule code pc

-- 0, a leader of every code, adds nothing
abbrev pub ZeroAddsNothing : Type 0
ZeroAddsNothing =
    (measure : List ℕ → ℕ → Result ℕ Unmeasured) (code : List ℕ) (fault : ℕ) (extra : List ℕ) →
    block_leader measure (0 ∷ extra) code fault ≡ block_leader measure extra code fault

-- the targets that document 01 gives an instruction are the indexes where JVMS lands it
abbrev pub TargetsAgree : Type 0
TargetsAgree = (code : List ℕ) → AreBytes code → (pc : ℕ) → targets_at code pc ≡ landings_at code pc
