-- The name search over local records (document 01, "Action and cause"): "N is the first record with that slot and start <= load
-- index < start + length".
-- Assumes nothing.
use Rattle.std.specs.Prelude.{ℕ, ◌+◌, ◌≤◌, Bool, List, [], ◌∷◌, eqb, leb, ltb, Option, Some, None}
use Rattle.basics.specs.Choice.{pick, both}
use Rattle.tables.specs.declared.RecordPlace.{RecordPlace}

-- a record of that slot, whose window holds the load's index
abbrev pub covers : ℕ → ℕ → ℕ → ℕ → ℕ → Bool
covers start size of slot load = both (eqb of slot) (both (leb start load) (ltb load (start + size)))

-- the first record that matches
unfoldable pub first_match : List RecordPlace → ℕ → ℕ → Option (ℕ × ℕ)
first_match [] slot load = None
first_match (r ∷ rs) slot load =
    pick (covers r.start r.length r.slot slot load) (Some (r.name, r.next)) (first_match rs slot load)

-- a name that is found lies in the records
abbrev pub name_inside : ℕ → Option (ℕ × ℕ) → Type 0
name_inside size (Some (from, to)) = (from ≤ to) × (to ≤ size)
name_inside size None = Unit
