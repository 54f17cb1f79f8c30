-- How many slots lie above the one that a cause is drawn from (document 01, "Action and cause").
-- Assumes nothing.
use Rattle.std.specs.Prelude.{ℕ, ◌+◌, List, [], ◌∷◌, eqb, ltb, length, Option, Some, None}
use Rattle.basics.specs.Bytes.{byte_at, u16_at}
use Rattle.basics.specs.Choice.{pick, one_of, between}
use Rattle.descriptor.specs.Readers.{parameters, field_slots}
use Rattle.descriptor.specs.declared.Params.{Params}
use Rattle.effects.specs.Lookup.{Known, missing, known, Lookup}

-- by the opcode: nothing is dereferenced; so many slots; those of the field that is assigned; those of the arguments
pub data Rule : Type 0 where
  none : Rule
  fixed : ℕ → Rule
  reads writes invokes : Rule

unfoldable pub rule_of : ℕ → Rule
rule_of op =
    -- "`getfield`: .. depth 0. `putfield`: .. depth the field's slots. Invokes 182, 183, 185: .. depth the argument slots"
    pick (eqb op 180) reads
    (pick (eqb op 181) writes
    (pick (one_of (182 ∷ 183 ∷ 185 ∷ []) op) invokes
    -- "Array loads: .. depth 1. Array stores: .. depth 2, or 3 for long and double"
    (pick (between 46 53 op) (fixed 1)
    (pick (one_of (80 ∷ 82 ∷ []) op) (fixed 3)
    (pick (between 79 86 op) (fixed 2)
    -- "Depth 0: Cannot read the array length; Cannot throw exception; Cannot enter .., Cannot exit synchronized block"
    (pick (one_of (190 ∷ 191 ∷ 194 ∷ 195 ∷ []) op) (fixed 0)
    none))))))

pub data Depth : Type 0 where
  nowhere : Depth
  at : ℕ → Depth

abbrev pub readable : Option Params → Depth
readable (Some p) = at p.slots
readable None = nowhere

abbrev pub field_depth : Known → (List ℕ → ℕ) → Depth
field_depth missing depth = nowhere
field_depth (known descriptor) depth = at (depth descriptor)

abbrev pub call_depth : Known → Depth
call_depth missing = nowhere
call_depth (known descriptor) = readable (parameters descriptor)

abbrev pub uncut : List ℕ → ℕ → Depth → Depth
uncut code last depth = pick (ltb last (length code)) depth nowhere

abbrev pub depth_by : Rule → Lookup → List ℕ → ℕ → Depth
depth_by none lookup code fault = nowhere
depth_by (fixed depth) lookup code fault = at depth
depth_by reads lookup code fault = uncut code (fault + 2) (field_depth (lookup 0 (u16_at code (fault + 1))) (λ d. 0))
depth_by writes lookup code fault = uncut code (fault + 2) (field_depth (lookup 0 (u16_at code (fault + 1))) field_slots)
depth_by invokes lookup code fault = uncut code (fault + 2) (call_depth (lookup 1 (u16_at code (fault + 1))))

-- the depth at the fault; none where answer 1 is given for "a fault outside the code, a cut member index, a member missing or of
-- the other kind, an unreadable parameter list", or where the opcode dereferences nothing
unfoldable pub depth_of : Lookup → List ℕ → ℕ → Depth
depth_of lookup code fault = uncut code fault (depth_by (rule_of (byte_at code fault)) lookup code fault)
