-- Condition 3 of the tender, whole, over any length rule and any list of handlers; the one of a report is an instance (`Condition3`).
-- It is said of a walk in either model, so that "demand 3 holds for both" (document 02, request 1): one text, one theorem.
-- proofs/Condition.antt has the proof. A report lists no handlers, so it does not cover their entries: an exception handler
-- that begins inside the block enters it too (document 02, request 8).
-- Assumes nothing.
use Rattle.std.specs.Prelude.{ℕ, ◌+◌, ◌-◌, ◌≤◌, ◌<◌, ◌≡◌, List, [], ◌∷◌, T, length, take, get_or, Ok}
use Rattle.basics.specs.Bytes.{byte_at, u16_at, AreBytes}
use Rattle.basics.specs.Choice.{between}
use Rattle.basics.specs.Member.{◌∈◌}
use Rattle.jvms.specs.Branch.{landings_at}
use Rattle.jvms.specs.Descriptor.{render, render_method, WellFormed, WellFormedMethod}
use Rattle.jvms.specs.Machine.{Pool, target}
use Rattle.bytecode.specs.Length.{length_of}
use Rattle.bytecode.specs.Rule.{LengthRule, document_rule, length_rule}
use Rattle.leader.specs.Scan.{block_leader, led_to}
use Rattle.leaders.specs.Leader.{Reached}
use Rattle.effects.specs.Depth.{depth_of, at}
use Rattle.effects.specs.Lookup.{Lookup, lookup_in, known}
use Rattle.effects.specs.declared.Model.{Model}
use Rattle.walk.specs.Room.{block_walk_in, answer_of, cells_of}
use Rattle.walk.specs.declared.Walk.TheVariants.{Done}
use Rattle.truth.specs.Translation.{since, TrueTranslation}

-- an instruction of the block: the leader's, and the one after each that has a length
pub data InBlock (code : List ℕ) (leader : ℕ) : ℕ → Type 0 where
  first : InBlock code leader leader
  after : {pc n : ℕ} → InBlock code leader pc → length_of code pc ≡ Ok n → InBlock code leader (pc + n)

-- the descriptor that the instruction at an index cites is well formed: it is written from the pool's tree
pub record Described (lookup : Lookup) (pool : Pool) (code : List ℕ) (pc : ℕ) : Type 0 where
  pub field :
      T (between 178 181 (byte_at code pc)) → (d : List ℕ) → lookup 0 (u16_at code (pc + 1)) ≡ known d →
      (d ≡ render (pool.field (u16_at code (pc + 1)))) × WellFormed (pool.field (u16_at code (pc + 1)))
  pub method :
      T (between 182 185 (byte_at code pc)) → (d : List ℕ) → lookup 1 (u16_at code (pc + 1)) ≡ known d →
      (d ≡ render_method (pool.method (u16_at code (pc + 1)))) × WellFormedMethod (pool.method (u16_at code (pc + 1)))

-- the parts of a case, and what `block_leader` and, in a model, `simulate_block_in` answer of them
pub record Findings : Type 0 where
  -- the model of the walk
  pub model : Model
  pub code : List ℕ
  pub members : List ℕ
  pub member_count : ℕ
  pub fault : ℕ
  pub leader : ℕ
  pub height : ℕ
  pub count : ℕ
  -- the lent stack as the walk leaves it
  pub stack : List ℕ

-- rule: how the scan measures. handlers: indexes that are listed as entries, each a leader.
module _ (rule : LengthRule) (handlers : List ℕ) where
  -- pool: the trees whose writings are the cited descriptors
  pub record PremisesBy (f : Findings) (pool : Pool) : Type 0 where
    pub bytes : AreBytes f.code
    -- "the code is measured to its end"
    pub scan : ℕ
    pub measured : block_leader rule.measure handlers f.code f.fault ≡ led_to f.leader scan
    -- "the fault lies in it"
    pub inside : f.fault < length f.code
    -- "the block walk succeeds"
    pub room : ℕ
    pub walked :
        answer_of (block_walk_in f.model f.code f.members f.member_count f.leader f.fault room)
        ≡ Done f.height f.count
    pub left :
        f.stack ≡ cells_of room (block_walk_in f.model f.code f.members f.member_count f.leader f.fault room)
    -- "the descriptors of walk and fault are well formed"; "demand 3 loses its premise of one parenthesis" (document 02, request 2)
    pub described :
        (pc : ℕ) → InBlock f.code f.leader pc → pc ≤ f.fault →
        Described (lookup_in f.members f.member_count) pool f.code pc

  pub record ConcludedBy (f : Findings) (pool : Pool) : Type 1 where
    -- "the walk's slot list is a true translation of the block"
    pub translated : TrueTranslation f.code pool f.leader f.fault (take f.height f.stack) f.count
    -- "A cause is drawn from the very slot that the faulting instruction would dereference."
    pub very_slot :
        (Val : Type 0) (opaque : ℕ → ℕ → Val) (entering : List Val) (locals : ℕ → Val) (absent : Val) (depth : ℕ) →
        depth_of (lookup_in f.members f.member_count) f.code f.fault ≡ at depth → depth < f.height →
        target pool f.code (since pool f.code opaque f.leader entering locals f.count)
        ≡ get_or (since pool f.code opaque f.leader entering locals f.count).stack
        (length entering + (f.height - 1 - depth)) absent ∷ []
    -- "No scanned branch or switch lands after the leader and at or before the fault."
    pub nothing_lands :
        (pc x : ℕ) → Reached rule f.code pc → x ∈ landings_at f.code pc → f.leader < x → x ≤ f.fault → ⊥
    -- and no listed handler begins there
    pub no_handler : (x : ℕ) → x ∈ handlers → f.leader < x → x ≤ f.fault → ⊥

-- over any rule and any handlers
abbrev pub ConditionOver : Type 1
ConditionOver =
    (rule : LengthRule) (handlers : List ℕ) (f : Findings) (pool : Pool) → PremisesBy rule handlers f pool →
    ConcludedBy rule handlers f pool

-- ---- the condition of a report: the lengths in use, and no handler

abbrev pub Premises : Findings → Pool → Type 0
Premises f pool = PremisesBy length_rule [] f pool

abbrev pub Concluded : Findings → Pool → Type 1
Concluded f pool = ConcludedBy length_rule [] f pool

abbrev pub Condition3 : Type 1
Condition3 = (f : Findings) (pool : Pool) → Premises f pool → Concluded f pool

-- the same with a scan by document 01's own lengths, which have a leader for more codes (`LedByDocument`, crates/leaders)
abbrev pub DocumentCondition3 : Type 1
DocumentCondition3 = (f : Findings) (pool : Pool) → PremisesBy document_rule [] f pool → ConcludedBy document_rule [] f pool
