-- A part of a list that is written over.
-- Assumes nothing.
use Rattle.std.specs.Prelude.{ℕ, ◌+◌, List, ◌++◌, length, take, drop}

-- w over d from place k on, the rest unchanged
unfoldable pub overlaid : ℕ → List ℕ → List ℕ → List ℕ
overlaid k w d = take k d ++ (w ++ drop (k + length w) d)
