-- The greatest number of a list at or below a limit, and a branch's target as such a list.
-- Assumes nothing.
use Rattle.std.specs.Prelude.{ℕ, ◌-◌, max, List, [], ◌∷◌, leb, ltb}
use Rattle.basics.specs.Choice.{pick}

-- a number at or below the limit, else 0
unfoldable pub up_to : ℕ → ℕ → ℕ
up_to limit x = pick (leb x limit) x 0

-- the greatest of 0 and the list's numbers at or below the limit
unfoldable pub greatest : ℕ → List ℕ → ℕ
greatest limit [] = 0
greatest limit (x ∷ xs) = max (up_to limit x) (greatest limit xs)

-- a target that is given plus half: "A target below 0 is no leader."
unfoldable pub target : ℕ → ℕ → List ℕ
target half lifted = pick (ltb lifted half) [] ((lifted - half) ∷ [])
