-- Signed numbers in the naturals: "A 16- or 32-bit offset is big-endian two's complement."
-- A signed number is kept lifted by half of its range, so that it is natural and keeps its order. Differences of two
-- lifted numbers are those of the integers, and a sum with one is lifted by as much.
-- Assumes nothing.
use Rattle.std.specs.Prelude.{ℕ, ◌+◌, ◌-◌, ◌^◌, List, ltb}
use Rattle.basics.specs.Bytes.{u16_at, u32_at}
use Rattle.basics.specs.Choice.{pick}

-- the two's complement reading of v, one of 2 * half values, plus half
unfoldable pub lifted : ℕ → ℕ → ℕ
lifted half v = pick (ltb v half) (v + half) (v - half)

-- the signed 16-bit number at an index, plus 2^15
unfoldable pub i16_at : List ℕ → ℕ → ℕ
i16_at code at = lifted (2 ^ 15) (u16_at code at)

-- the signed 32-bit number at an index, plus 2^31
unfoldable pub i32_at : List ℕ → ℕ → ℕ
i32_at code at = lifted (2 ^ 31) (u32_at code at)
