-- Membership in a list of numbers.
-- Assumes nothing.
use Rattle.std.specs.Prelude.{ℕ}
use mathlib.Core.List.{List, Memᴰ}

infix 4 ◌∈◌
-- the number stands somewhere in the list
abbrev pub ◌∈◌ : ℕ → List ℕ → Type 0
x ∈ xs = Memᴰ x xs
