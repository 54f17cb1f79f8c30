-- What condition 3 says of a cause, and that it has force: wrong slot lists that are shut out (document 01, "Contracts").
-- Assumes nothing.
use Rattle.std.specs.Prelude.{ℕ, ◌-◌, ◌<◌, ◌≡◌, List, [], ◌∷◌, length, get_or}
use Rattle.jvms.specs.Machine.{Pool, target}
use Rattle.bytecode.specs.Rule.{LengthRule}
use Rattle.effects.specs.Depth.{depth_of, at}
use Rattle.effects.specs.Lookup.{lookup_in}
use Rattle.effects.specs.declared.Model.{Model}
use Rattle.effects.specs.declared.Model.TheVariants.{Document, Full}
use Rattle.walk.specs.Room.{block_walk_in, cells_of, fits}
use Rattle.cell.specs.Cell.{cell_of}
use Rattle.walk.specs.Walk.{done}
use Rattle.truth.specs.Condition.{Findings, PremisesBy, Premises}
use Rattle.truth.specs.Translation.{since, HeldWhen, TrueTranslation}

-- Where the slot at the depth is a load of local n at index b, the value that the faulting instruction would dereference is what
-- n held when b ran.
abbrev pub CauseNames : Findings → Pool → Type 1
CauseNames f pool =
    (depth b n : ℕ) → depth_of (lookup_in f.members f.member_count) f.code f.fault ≡ at depth → depth < f.height →
    n < 65536 →
    get_or f.stack (f.height - 1 - depth) 0 ≡ cell_of b n →
    (Val : Type 0) (opaque : ℕ → ℕ → Val) (entering : List Val) (locals : ℕ → Val) →
    (v : Val) × (target pool f.code (since pool f.code opaque f.leader entering locals f.count) ≡ v ∷ [])
    × HeldWhen (since pool f.code opaque f.leader entering locals) f.count b n v

-- over any rule and any handlers, and for a report
abbrev pub CauseTrueOver : Type 1
CauseTrueOver =
    (rule : LengthRule) (handlers : List ℕ) (f : Findings) (pool : Pool) → PremisesBy rule handlers f pool → CauseNames f pool

abbrev pub CauseTrue : Type 1
CauseTrue = (f : Findings) (pool : Pool) → Premises f pool → CauseNames f pool

-- ---- force

-- A model, and a block with no members, from 0 to a fault, in so many instructions; and the slot list that its walk leaves.
abbrev pub Leaves : Model → List ℕ → ℕ → ℕ → List ℕ → Type 0
Leaves model code fault count slots = block_walk_in model code [] 0 0 fault (length slots) ≡ fits (done slots count)

-- another list is no true translation of it, whatever the pool: demand 3 shuts it out
pub record Refuted (model : Model) (code : List ℕ) (fault count : ℕ) (slots wrong : List ℕ) : Type 1 where
  pub walked : Leaves model code fault count slots
  pub untrue : (pool : Pool) → TrueTranslation code pool 0 fault wrong count → ⊥

-- another list is not what the walk leaves in its cells: demand 2 shuts it out, where demand 3 alone would not
pub record Unequal (model : Model) (code : List ℕ) (fault count : ℕ) (slots wrong : List ℕ) : Type 0 where
  pub walked : Leaves model code fault count slots
  pub other : cells_of (length slots) (block_walk_in model code [] 0 0 fault (length slots)) ≡ wrong → ⊥

pub record HasForce : Type 1 where
  -- aconst_null, arraylength: its opaque slot marked as a load of local 0
  pub opaque_marked : Refuted Document (0x01 ∷ 0xbe ∷ []) 1 1 (0 ∷ []) (cell_of 0 0 ∷ [])
  -- aload_1, arraylength: its load's local changed to 0
  pub local_changed : Refuted Document (0x2b ∷ 0xbe ∷ []) 1 1 (cell_of 0 1 ∷ []) (cell_of 0 0 ∷ [])
  -- aload_0, aconst_null, arraylength, walked by a program that "walks the first instruction and .. marks [the rest] as loads"
  pub rest_marked : Refuted Document (0x2a ∷ 0x01 ∷ 0xbe ∷ []) 2 2 (cell_of 0 0 ∷ 0 ∷ []) (cell_of 0 0 ∷ cell_of 1 0 ∷ [])
  -- aload_0, aload_1, arraylength, walked by one that "walks the first instruction and marks the rest opaque"
  pub rest_opaque : Unequal Document (0x2a ∷ 0x2b ∷ 0xbe ∷ []) 2 2 (cell_of 0 0 ∷ cell_of 1 1 ∷ []) (cell_of 0 0 ∷ 0 ∷ [])
  -- ---- the full model
  -- aload_0, ineg, arraylength: the result of arithmetic marked as the load of its operand
  pub result_marked : Refuted Full (0x2a ∷ 0x74 ∷ 0xbe ∷ []) 2 2 (0 ∷ []) (cell_of 0 0 ∷ [])
  -- aload_0, aload_1, dup_x1, arraylength: the copy on top of the other value and not under it
  pub copy_misplaced :
      Refuted Full (0x2a ∷ 0x2b ∷ 0x5a ∷ 0xbe ∷ []) 3 3 (cell_of 1 1 ∷ cell_of 0 0 ∷ cell_of 1 1 ∷ [])
      (cell_of 0 0 ∷ cell_of 1 1 ∷ cell_of 1 1 ∷ [])
  -- wide aload 300, arraylength: its load's local by the last byte alone; and its load at the opcode behind `wide`
  pub local_cut : Refuted Full (0xc4 ∷ 0x19 ∷ 1 ∷ 44 ∷ 0xbe ∷ []) 4 1 (cell_of 0 300 ∷ []) (cell_of 0 44 ∷ [])
  pub load_moved : Refuted Full (0xc4 ∷ 0x19 ∷ 1 ∷ 44 ∷ 0xbe ∷ []) 4 1 (cell_of 0 300 ∷ []) (cell_of 1 300 ∷ [])
