-- The length of the instruction at an index of a code: document 01's rule ("Measuring an instruction"), and the one in use, by which a
-- reserved byte has none (document 02, request 6).
-- "These are whole numbers that never wrap."
-- Assumes nothing.
use Rattle.std.specs.Prelude.{ℕ, ◌+◌, ◌-◌, ◌*◌, ◌/◌, ◌^◌, Bool, List, [], ◌∷◌, eqb, leb, length, Result, Ok, Err}
use Rattle.basics.specs.Bytes.{byte_at}
use Rattle.basics.specs.Choice.{pick}
use Rattle.jvms.specs.Format.{Format, fixed, tableswitch, lookupswitch, wide, reserved, widths, format_of}
use Rattle.reads.specs.Signed.{i32_at}
use Rattle.fixed.specs.Fixed.{wide_by}
use Rattle.bytecode.specs.declared.Unmeasured.{Unmeasured}
use Rattle.bytecode.specs.declared.Unmeasured.TheVariants.{NoLength, Reserved}

-- the first multiple of 4 from an index on
abbrev pub aligned : ℕ → ℕ
aligned at = (at + 3) / 4 * 4

-- "Switch operands start at the next multiple of 4, counted from code start."
abbrev pub operands_at : ℕ → ℕ
operands_at pc = aligned (pc + 1)

-- "`tableswitch` has high - low + 1 entries, none if high < low"
unfoldable pub table_entries : List ℕ → ℕ → ℕ
table_entries code pc = i32_at code (operands_at pc + 8) + 1 - i32_at code (operands_at pc + 4)

-- "`lookupswitch` has its count of pairs, none if negative"
unfoldable pub lookup_pairs : List ℕ → ℕ → ℕ
lookup_pairs code pc = i32_at code (operands_at pc + 4) - 2 ^ 31

-- opcode and padding; default, low, high; four bytes an entry
unfoldable pub table_bytes : List ℕ → ℕ → ℕ
table_bytes code pc = operands_at pc - pc + 12 + 4 * table_entries code pc

-- opcode and padding; default, count; eight bytes a pair
unfoldable pub lookup_bytes : List ℕ → ℕ → ℕ
lookup_bytes code pc = operands_at pc - pc + 8 + 8 * lookup_pairs code pc

-- the bytes of the `wide` at pc
unfoldable pub wide_bytes : List ℕ → ℕ → ℕ
wide_bytes code pc = wide_by (byte_at code (pc + 1))

-- "Lengths are those of JVMS 6.5, except that 202 to 255 count one byte."
abbrev pub bytes_by : Format → List ℕ → ℕ → ℕ
bytes_by (fixed os) code pc = 1 + widths os
bytes_by tableswitch code pc = table_bytes code pc
bytes_by lookupswitch code pc = lookup_bytes code pc
bytes_by wide code pc = wide_bytes code pc
bytes_by reserved code pc = 1

-- the bytes of the instruction at pc, also where they pass the end
unfoldable pub bytes_of : List ℕ → ℕ → ℕ
bytes_of code pc = bytes_by (format_of (byte_at code pc)) code pc

-- "An instruction that would pass the end has no length."
unfoldable pub within : List ℕ → ℕ → ℕ → Result ℕ Unmeasured
within code pc n = pick (leb (pc + n) (length code)) (Ok n) (Err NoLength)

-- document 01's length of the instruction at pc
unfoldable pub document_length : List ℕ → ℕ → Result ℕ Unmeasured
document_length code pc = within code pc (bytes_of code pc)

-- "202 to 255"
abbrev pub reserved_byte : ℕ → Bool
reserved_byte op = leb 202 op

-- "The length of 202 to 255 shall be none, with an answer that tells a reserved byte from a cut instruction." Past the end there is no
-- byte, so none that is reserved.
unfoldable pub length_of : List ℕ → ℕ → Result ℕ Unmeasured
length_of code pc = pick (reserved_byte (byte_at code pc)) (Err Reserved) (document_length code pc)

-- the length by a table: what its entry for the opcode fixes, and where the entry is 0 `length_of`
unfoldable pub length_by : List ℕ → List ℕ → ℕ → Result ℕ Unmeasured
length_by lengths code pc =
    let n = byte_at lengths (byte_at code pc) in
    pick (eqb n 0) (length_of code pc) (within code pc n)

-- an answer as numbers: 0 and the length, 1 for a cut instruction, 2 for a reserved byte
unfoldable pub numbered : Result ℕ Unmeasured → List ℕ
numbered (Ok n) = 0 ∷ n ∷ []
numbered (Err NoLength) = 1 ∷ []
numbered (Err Reserved) = 2 ∷ []
