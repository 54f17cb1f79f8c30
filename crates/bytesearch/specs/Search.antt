-- The first place of a byte in a text, and how often a text repeats a byte at its start.
-- Assumes nothing.
use Rattle.std.specs.Prelude.{ℕ, suc, ◌+◌, ◌≤◌, ◌<◌, List, [], ◌∷◌, eqb, length, drop, Option, Some, None}
use Rattle.basics.specs.Choice.{pick}

-- the first byte of a list that is the one wanted; the list's first byte stands at an index
unfoldable pub first_in : ℕ → List ℕ → ℕ → Option ℕ
first_in byte [] at = None
first_in byte (x ∷ xs) at = pick (eqb x byte) (Some at) (first_in byte xs (at + 1))

-- the first place at or after an index
unfoldable pub first_from : ℕ → List ℕ → ℕ → Option ℕ
first_from byte text from = first_in byte (drop from text) from

-- a place that is found lies in the text, at the index or after it
abbrev pub found_inside : Option ℕ → List ℕ → ℕ → Type 0
found_inside (Some at) text from = (from ≤ at) × (at < length text)
found_inside None text from = Unit

-- how many of one byte a text begins with
unfoldable pub run : ℕ → List ℕ → ℕ
run byte [] = 0
run byte (x ∷ xs) = pick (eqb x byte) (suc (run byte xs)) 0
