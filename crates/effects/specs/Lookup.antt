-- What a case knows of a pool index: the walk and the fault ask for members through this alone.
-- Assumes nothing.
use Rattle.std.specs.Prelude.{ℕ, List, [], ◌∷◌}
use Rattle.items.specs.Text.{descriptor_of}
use Rattle.lookup.specs.Lookup.{member_found}

-- a descriptor, or nothing: "A member missing, or of the other kind"
pub data Known : Type 0 where
  missing : Known
  known : List ℕ → Known

-- by kind, 0 field and 1 method, and by pool index
abbrev pub Lookup : Type 0
Lookup = ℕ → ℕ → Known

-- of the part that holds a member's texts; it is empty where there is no such member
abbrev pub known_by : List ℕ → Known
known_by [] = missing
known_by (x ∷ xs) = known (descriptor_of (x ∷ xs))

-- in a member run of so many members
unfoldable pub lookup_in : List ℕ → ℕ → Lookup
lookup_in members count kind index = known_by (member_found members index kind count 0 0)
