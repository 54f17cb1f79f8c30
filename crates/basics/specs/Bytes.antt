-- A run of bytes as a list of numbers, and the numbers that stand in it, most significant byte first.
-- Assumes nothing.
use Rattle.std.specs.Prelude.{ℕ, ◌+◌, ◌*◌, ◌<◌, List, get_or}

-- the byte at an index, 0 past the end
abbrev pub byte_at : List ℕ → ℕ → ℕ
byte_at bytes at = get_or bytes at 0

-- the number of the two bytes at an index
unfoldable pub u16_at : List ℕ → ℕ → ℕ
u16_at bytes at = byte_at bytes at * 256 + byte_at bytes (at + 1)

-- the number of the four bytes at an index
unfoldable pub u32_at : List ℕ → ℕ → ℕ
u32_at bytes at = u16_at bytes at * 65536 + u16_at bytes (at + 2)

-- every number of the list is a byte, as in every slice of bytes
abbrev pub AreBytes : List ℕ → Type 0
AreBytes bytes = (i : ℕ) → byte_at bytes i < 256
