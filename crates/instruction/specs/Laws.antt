-- A table that serves the run changes no lookup; and an effect of the code is told by what it stands for, so `effect_of` has
-- one answer. Proved in proofs/Laws.antt.
-- Assumes nothing.
use Rattle.std.specs.Prelude.{ℕ, ◌≡◌, List, Option}
use Rattle.index.specs.Index.{Indexed}
use Rattle.effects.specs.Lookup.{lookup_in}
use Rattle.instruction.specs.Code.{effect_from}
use Rattle.instruction.specs.Lookup.{lookup_by}
use Rattle.instruction.specs.declared.Effect.{Effect}

abbrev pub LooksAlike : Type 0
LooksAlike =
    (members : List ℕ) (count : ℕ) (table : List ℕ) → Indexed members count table →
    lookup_by members count table ≡ lookup_in members count

abbrev pub EffectFromInjective : Type 0
EffectFromInjective = (one other : Option Effect) → effect_from one ≡ effect_from other → one ≡ other
