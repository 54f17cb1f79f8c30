-- Where an instruction may go on (JVMS 6.5): which opcodes branch, by which offsets, and where these lead.
-- Written from JVMS alone, with its offsets in the integers.
-- Assumes nothing.
use Rattle.std.specs.Prelude.{ℕ, zero, suc, ◌+◌, Bool, true, false, List, [], ◌∷◌, ◌++◌, eqb, ℤ, pos, negsuc, ◌+ℤ◌}
use Rattle.std.proofs.Common.{to_z}
use Rattle.std.specs.Int.{w16}
use Rattle.basics.specs.Bytes.{byte_at, u16_at}
use Rattle.basics.specs.Choice.{pick, one_of}
use Rattle.jvms.specs.Extent.{natural, default_at, signed32_at, span}
use Rattle.jvms.specs.Format.{Operand, byte, index, const, branch, count, zeros, atype, dimensions, width, Format, fixed, tableswitch, lookupswitch, wide, reserved, format_of}

abbrev pub is_branch : Operand → Bool
is_branch (byte n) = false
is_branch (index n) = false
is_branch (const n) = false
is_branch (branch n) = true
is_branch (count n) = false
is_branch (zeros n) = false
is_branch (atype n) = false
is_branch (dimensions n) = false

-- "branchbyte1 and branchbyte2 are used to construct a signed 16-bit offset"; four bytes, "a signed 32-bit" one
abbrev pub offset_at : ℕ → List ℕ → ℕ → ℤ
offset_at bytes code at = pick (eqb bytes 2) (to_z w16 (u16_at code at)) (signed32_at code at)

-- the offsets among operands that start at an index
abbrev pub offsets_in : List Operand → List ℕ → ℕ → List ℤ
offsets_in [] code at = []
offsets_in (o ∷ os) code at = pick (is_branch o) (offset_at (width o) code at ∷ []) [] ++ offsets_in os code (at + width o)

-- n offsets of 32 bits, the first at an index, step bytes from each to the next
abbrev pub offsets_from : ℕ → ℕ → List ℕ → ℕ → List ℤ
offsets_from step zero code at = []
offsets_from step (suc n) code at = signed32_at code at ∷ offsets_from step n code (at + step)

-- A switch: default, and an offset for each entry. Those of a tableswitch follow on default, low and high; a lookupswitch has
-- default, npairs, and pairs of a match and an offset.
abbrev pub offsets_by : Format → List ℕ → ℕ → List ℤ
offsets_by (fixed os) code pc = offsets_in os code (pc + 1)
offsets_by tableswitch code pc =
    signed32_at code (default_at pc) ∷ offsets_from 4 (natural (span code pc)) code (default_at pc + 12)
offsets_by lookupswitch code pc =
    signed32_at code (default_at pc) ∷ offsets_from 8 (natural (signed32_at code (default_at pc + 4))) code (default_at pc + 12)
offsets_by wide code pc = []
offsets_by reserved code pc = []

-- the index that an integer is, none where it is negative
abbrev pub landing : ℤ → List ℕ
landing (pos n) = n ∷ []
landing (negsuc n) = []

-- "Execution proceeds at that offset from the address of the opcode of this instruction", a switch's own too
abbrev pub landings : ℕ → List ℤ → List ℕ
landings pc [] = []
landings pc (offset ∷ offsets) = landing (pos pc +ℤ offset) ++ landings pc offsets

-- where the branch or switch at pc lands; nowhere for any other instruction
unfoldable pub landings_at : List ℕ → ℕ → List ℕ
landings_at code pc = landings pc (offsets_by (format_of (byte_at code pc)) code pc)

-- some operand is a branch offset
abbrev pub branch_among : List Operand → Bool
branch_among [] = false
branch_among (o ∷ os) = pick (is_branch o) true (branch_among os)

-- the opcode is a branch or a switch
abbrev pub branches_by : Format → Bool
branches_by (fixed os) = branch_among os
branches_by tableswitch = true
branches_by lookupswitch = true
branches_by wide = false
branches_by reserved = false

-- ret; ireturn, lreturn, freturn, dreturn, areturn, return; athrow: execution does not go on behind them
abbrev pub leaves : ℕ → Bool
leaves = one_of (169 ∷ 172 ∷ 173 ∷ 174 ∷ 175 ∷ 176 ∷ 177 ∷ 191 ∷ [])

-- a branch, a switch, a return, a throw or a ret
unfoldable pub ends_block : ℕ → Bool
ends_block op = pick (branches_by (format_of op)) true (leaves op)
