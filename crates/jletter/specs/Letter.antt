-- The letters of a strict descriptor (document 01, "Descriptors"): the base types.
-- Assumes nothing.
use Rattle.std.specs.Prelude.{ℕ, Bool, [], ◌∷◌}
use Rattle.basics.specs.Choice.{one_of}

-- B C D F I J S Z
unfoldable pub is_base : ℕ → Bool
is_base letter = one_of (66 ∷ 67 ∷ 68 ∷ 70 ∷ 73 ∷ 74 ∷ 83 ∷ 90 ∷ []) letter
