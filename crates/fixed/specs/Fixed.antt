-- The length that an opcode alone fixes, and that of `wide` before an opcode (document 01, "Measuring an instruction"): "Lengths are
-- those of JVMS 6.5".
-- Assumes nothing.
use Rattle.std.specs.Prelude.{ℕ, ◌+◌, ◌-◌, ◌<◌, ◌≡◌, List, eqb, ltb, length}
use Rattle.basics.specs.Bytes.{byte_at}
use Rattle.basics.specs.Choice.{pick}
use Rattle.jvms.specs.Format.{Format, fixed, tableswitch, lookupswitch, wide, reserved, widths, format_of}
use Rattle.jvms.specs.Stack.{key_at}

-- the bytes that the opcode alone fixes: "0 for the three variable ones", and for the reserved ones, whose length "shall be none"
-- (document 02, request 6)
abbrev pub fixed_by : Format → ℕ
fixed_by (fixed os) = 1 + widths os
fixed_by tableswitch = 0
fixed_by lookupswitch = 0
fixed_by wide = 0
fixed_by reserved = 0

unfoldable pub fixed_length : ℕ → ℕ
fixed_length op = fixed_by (format_of op)

-- "`wide` is 6 before `iinc`, else 4."
abbrev pub wide_by : ℕ → ℕ
wide_by op = pick (eqb op 132) 6 4

-- of a key: an opcode's, or that of `wide` before an opcode
abbrev pub key_length : ℕ → ℕ
key_length key = pick (ltb key 256) (fixed_length key) (wide_by (key - 256))

-- of the instruction at an index of a code
abbrev pub size_at : List ℕ → ℕ → ℕ
size_at code pc = key_length (key_at code pc)

-- a table of 256 entries that holds the fixed length of each opcode
pub record FixedLengths (lengths : List ℕ) : Type 0 where
  pub sized : length lengths ≡ 256
  pub entries : (op : ℕ) → op < 256 → byte_at lengths op ≡ fixed_length op
