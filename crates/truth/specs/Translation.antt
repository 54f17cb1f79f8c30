-- When a slot list is a true translation of a block (tender, condition 3), on the plain machine of JVMS.
-- Assumes nothing.
use Rattle.std.specs.Prelude.{ℕ, ◌+◌, ◌<◌, ◌≡◌, List, length, take, get_or}
use Rattle.jvms.specs.Machine.{Pool, State, ran}
use Rattle.cell.specs.Cell.{cell_of}

-- the machine after so many instructions from the leader, with any opaque results, entering stack and locals
abbrev pub since : {Val : Type 0} → Pool → List ℕ → (ℕ → ℕ → Val) → ℕ → List Val → (ℕ → Val) → ℕ → State Val
since pool code opaque leader entering locals j = ran pool code opaque j (record { pc = leader; stack = entering; locals = locals })

-- the value is "what n held when b ran": b is one of the first instructions, so many
pub record HeldWhen {Val : Type 0} (machine : ℕ → State Val) (count b n : ℕ) (v : Val) : Type 0 where
  pub turn : ℕ
  pub ran : turn < count
  pub there : (machine turn).pc ≡ b
  pub held : v ≡ (machine turn).locals n

pub record Translates {Val : Type 0} (machine : ℕ → State Val) (fault : ℕ) (entering : List Val) (slots : List ℕ) (count : ℕ) :
    Type 0 where
  -- "running leader to fault"
  pub reached : (machine count).pc ≡ fault
  pub not_before : (j : ℕ) → j < count → (machine j).pc < fault
  -- "leaves the entering stack untouched below and one value per slot above"
  pub untouched : take (length entering) (machine count).stack ≡ entering
  pub one_each : length (machine count).stack ≡ length entering + length slots
  -- "a slot marked as a load of local n at index b holds what n held when b ran"
  pub holds :
      (k b n : ℕ) (absent : Val) → k < length slots → n < 65536 → get_or slots k 0 ≡ cell_of b n →
      HeldWhen machine count b n (get_or (machine count).stack (length entering + k) absent)

-- "On a plain stack machine, from any entering stack, locals and opaque results"
abbrev pub TrueTranslation : List ℕ → Pool → ℕ → ℕ → List ℕ → ℕ → Type 1
TrueTranslation code pool leader fault slots count =
    (Val : Type 0) (opaque : ℕ → ℕ → Val) (entering : List Val) (locals : ℕ → Val) →
    Translates (since pool code opaque leader entering locals) fault entering slots count
