-- The depth of an array store's reference, by its opcode (document 01, "Action and cause").
-- Assumes nothing.
use Rattle.std.specs.Prelude.{ℕ, [], ◌∷◌}
use Rattle.basics.specs.Choice.{pick, one_of}

-- "Array stores: .. depth 2, or 3 for long and double"
abbrev pub store_depth : ℕ → ℕ
store_depth op = pick (one_of (80 ∷ 82 ∷ []) op) 3 2
