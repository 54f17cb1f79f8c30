-- Bytes that stand at a place of other bytes.
-- Assumes nothing.
use Rattle.std.specs.Prelude.{ℕ, ◌≡◌, List, ◌++◌, drop}

-- a run of bytes stands at a place: from there on come these bytes, and then any others
pub record Stands (bytes : List ℕ) (at : ℕ) (run : List ℕ) : Type 0 where
  pub rest : List ℕ
  pub is : drop at bytes ≡ run ++ rest
