-- Instructions are measured by JVMS's formats, and by document 01's counts where JVMS has none; a reserved opcode by none. Rests on
-- the signed reading.
-- Assumes nothing.
use Rattle.std.specs.Prelude.{Err}
use Prim.Native.Nat.{ℕ, zero, suc, ◌+◌, ◌*◌, ◌^◌}
use native.Mathlib.Omega.{arith}
use mathlib.Core.Path.{◌≡◌, refl, ◌∙◌, ap}
use mathlib.Core.Bool.{Bool, true, false}
use mathlib.Core.List.{List}
use lib.Dec.{eqb}
use lib.IntN.{ℤ, pos, negsuc}
use Rattle.basics.specs.Bytes.{byte_at, AreBytes}
use Rattle.basics.specs.Choice.{pick, one_of}
use Rattle.jvms.specs.Format.{Format, fixed, tableswitch, lookupswitch, wide, reserved, format_of}
use Rattle.jvms.specs.Extent.{Extent, takes, reserved_opcode, not_widened, low_above_high, negative_pairs}
use Rattle.jvms.specs.Extent.{natural, padding, default_at, signed32_at, span, table_extent, lookup_extent, widened_locals, extent_by, extent_at}
use Rattle.bytecode.specs.Length.{operands_at, table_entries, lookup_pairs, table_bytes, lookup_bytes, wide_bytes}
use Rattle.bytecode.specs.Length.{bytes_by, bytes_of, within, document_length, length_of}
use Rattle.bytecode.specs.declared.Unmeasured.TheVariants.{Reserved}
use Rattle.reads.specs.Signed.{i32_at}
use Rattle.jvms.proofs.Reserved.{is_reserved, reserved_from_202}
use Rattle.lengths.specs.Agreement.{told, LengthsAgree, Tells}
use Rattle.lengths.proofs.Signed.{signed_reading, count_is, span_is}

-- JVMS's padding ends at the next multiple of 4
pub padded : (pc : ℕ) → default_at pc ≡ operands_at pc
padded pc = omega arith

module _ (code : List ℕ) (pc : ℕ) where
  table_told : (z : ℤ) → within code pc (1 + padding pc + 4 + 4 + 4 + 4 * natural z) ≡ told (table_extent pc z) code pc
  table_told (pos zero) = ap (within code pc) (omega arith)
  table_told (pos (suc n)) = refl
  table_told (negsuc n) = ap (within code pc) (omega arith)

  lookup_told : (z : ℤ) → within code pc (1 + padding pc + 4 + 4 + 8 * natural z) ≡ told (lookup_extent pc z) code pc
  lookup_told (pos n) = refl
  lookup_told (negsuc n) = ap (within code pc) (omega arith)

  wide_told :
      (iinc local : Bool) →
      within code pc (pick iinc 6 4) ≡ told (pick iinc (takes 6) (pick local (takes 4) not_widened)) code pc
  wide_told true local = refl
  wide_told false true = refl
  wide_told false false = refl

module _ (code : List ℕ) (are : AreBytes code) (pc : ℕ) where
  pub entries_agree : natural (span code pc) ≡ table_entries code pc
  unfolding table_entries
  entries_agree =
      rw (padded pc)
      (span_is (signed32_at code (operands_at pc + 8)) (signed32_at code (operands_at pc + 4)) (2 ^ 31)
      (i32_at code (operands_at pc + 8)) (i32_at code (operands_at pc + 4))
      (signed_reading.of32 code are (operands_at pc + 8)) (signed_reading.of32 code are (operands_at pc + 4)))

  pub pairs_agree : natural (signed32_at code (default_at pc + 4)) ≡ lookup_pairs code pc
  unfolding lookup_pairs
  pairs_agree =
      rw (padded pc)
      (count_is (signed32_at code (operands_at pc + 4)) (2 ^ 31) (i32_at code (operands_at pc + 4))
      (signed_reading.of32 code are (operands_at pc + 4)))

  by_format : (f : Format) → pick (is_reserved f) (Err Reserved) (within code pc (bytes_by f code pc)) ≡ told (extent_by f code pc) code pc
  unfolding table_bytes lookup_bytes wide_bytes
  by_format (fixed os) = refl
  by_format tableswitch =
      ap (within code pc) (omega (arith, entries_agree, padded pc)) ∙ table_told code pc (span code pc)
  by_format lookupswitch =
      ap (within code pc) (omega (arith, pairs_agree, padded pc)) ∙ lookup_told code pc (signed32_at code (default_at pc + 4))
  by_format wide = wide_told code pc (eqb (byte_at code (pc + 1)) 132) (one_of widened_locals (byte_at code (pc + 1)))
  by_format reserved = refl

pub lengths_agree : LengthsAgree
unfolding length_of document_length bytes_of extent_at
lengths_agree code are pc =
    rw (← reserved_from_202 (byte_at code pc) (are pc)) (by_format code are pc (format_of (byte_at code pc)))

-- at each thing that JVMS can say of the instruction at an index
where_jvms_says : (said : Extent) → Tells said
where_jvms_says said code are pc e = lengths_agree code are pc ∙ ap (λ (x : Extent). told x code pc) e

-- where JVMS has a format, its length
pub jvms_length : (n : ℕ) → Tells (takes n)
jvms_length n = where_jvms_says (takes n)

-- 202 to 255
pub reserved_has_none : Tells reserved_opcode
reserved_has_none = where_jvms_says reserved_opcode

-- `wide` before an opcode that JVMS does not widen
pub wide_else_is_four : Tells not_widened
wide_else_is_four = where_jvms_says not_widened

-- low above high
pub falling_table_is_empty : Tells low_above_high
falling_table_is_empty = where_jvms_says low_above_high

-- a negative count of pairs
pub negative_pairs_are_none : Tells negative_pairs
negative_pairs_are_none = where_jvms_says negative_pairs
