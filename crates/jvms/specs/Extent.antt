-- How many bytes the instruction at an index takes, as JVMS 6.5 gives them, or why JVMS has no format there.
-- Written from JVMS alone, with its counts and offsets in the integers.
-- Assumes nothing.
use Rattle.std.specs.Prelude.{ℕ, zero, suc, ◌+◌, ◌-◌, ◌*◌, ◌%◌, List, [], ◌∷◌, eqb, ℤ, pos, negsuc, ◌+ℤ◌, ◌-ℤ◌}
use Rattle.std.proofs.Common.{to_z}
use Rattle.std.specs.Int.{w32}
use Rattle.basics.specs.Bytes.{byte_at, u32_at}
use Rattle.basics.specs.Choice.{pick, one_of}
use Rattle.jvms.specs.Format.{Format, fixed, tableswitch, lookupswitch, wide, reserved, widths, format_of}

pub data Extent : Type 0 where
  takes : ℕ → Extent
  reserved_opcode : Extent
  not_widened : Extent
  low_above_high : Extent
  negative_pairs : Extent

-- "Immediately after the opcode, between zero and three bytes must act as padding, such that defaultbyte1 begins at an
-- address that is a multiple of four bytes from the start of the current method"
abbrev pub padding : ℕ → ℕ
padding pc = 3 - pc % 4

-- where a switch's defaultbyte1 stands
abbrev pub default_at : ℕ → ℕ
default_at pc = pc + 1 + padding pc

-- "a signed 32-bit value"
abbrev pub signed32_at : List ℕ → ℕ → ℤ
signed32_at code at = to_z w32 (u32_at code at)

-- the number itself, 0 where it is negative
abbrev pub natural : ℤ → ℕ
natural (pos n) = n
natural (negsuc n) = 0

-- tableswitch: high - low + 1
abbrev pub span : List ℕ → ℕ → ℤ
span code pc = signed32_at code (default_at pc + 8) -ℤ signed32_at code (default_at pc + 4) +ℤ pos 1

-- tableswitch: opcode and padding; default, low, high; span offsets. "The value low must be less than or equal to high"
abbrev pub table_extent : ℕ → ℤ → Extent
table_extent pc (pos zero) = low_above_high
table_extent pc (pos (suc n)) = takes (1 + padding pc + 4 + 4 + 4 + 4 * suc n)
table_extent pc (negsuc n) = low_above_high

-- lookupswitch: opcode and padding; default, npairs; npairs pairs of a match and an offset.
-- "The npairs must be greater than or equal to 0"
abbrev pub lookup_extent : ℕ → ℤ → Extent
lookup_extent pc (pos n) = takes (1 + padding pc + 4 + 4 + (4 + 4) * n)
lookup_extent pc (negsuc n) = negative_pairs

-- wide, first form: iload, lload, fload, dload, aload; istore, lstore, fstore, dstore, astore; ret
abbrev pub widened_locals : List ℕ
widened_locals = 21 ∷ 22 ∷ 23 ∷ 24 ∷ 25 ∷ 54 ∷ 55 ∷ 56 ∷ 57 ∷ 58 ∷ 169 ∷ []

-- wide: the opcode that it widens, indexbyte1, indexbyte2; in the second form, of iinc, also constbyte1, constbyte2
abbrev pub wide_extent : ℕ → Extent
wide_extent op = pick (eqb op 132) (takes (1 + 1 + 2 + 2)) (pick (one_of widened_locals op) (takes (1 + 1 + 2)) not_widened)

abbrev pub extent_by : Format → List ℕ → ℕ → Extent
extent_by (fixed os) code pc = takes (1 + widths os)
extent_by tableswitch code pc = table_extent pc (span code pc)
extent_by lookupswitch code pc = lookup_extent pc (signed32_at code (default_at pc + 4))
extent_by wide code pc = wide_extent (byte_at code (pc + 1))
extent_by reserved code pc = reserved_opcode

-- the instruction at pc
unfoldable pub extent_at : List ℕ → ℕ → Extent
extent_at code pc = extent_by (format_of (byte_at code pc)) code pc
