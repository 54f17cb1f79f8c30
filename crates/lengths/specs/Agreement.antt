-- Lengths and signed numbers against JVMS, as statements. proofs/ of this crate has a proof of each.
-- Assumes nothing.
use Rattle.std.specs.Prelude.{ℕ, ◌+◌, ◌^◌, ◌≡◌, List, pos, ◌+ℤ◌, Result, Err}
use Rattle.std.proofs.Common.{to_z}
use Rattle.std.specs.Int.{w16, w32}
use Rattle.basics.specs.Bytes.{u16_at, u32_at, AreBytes}
use Rattle.jvms.specs.Extent.{Extent, takes, reserved_opcode, not_widened, low_above_high, negative_pairs, padding, extent_at}
use Rattle.bytecode.specs.Length.{within, length_of}
use Rattle.bytecode.specs.declared.Unmeasured.{Unmeasured}
use Rattle.bytecode.specs.declared.Unmeasured.TheVariants.{Reserved}
use Rattle.reads.specs.Signed.{i16_at, i32_at}

-- What measuring answers: JVMS's length where it has a format. Where it has none: that the opcode is reserved; four bytes for `wide`
-- before an opcode that it does not widen, a `tableswitch` without entries, a `lookupswitch` without pairs.
abbrev pub told : Extent → List ℕ → ℕ → Result ℕ Unmeasured
told (takes n) code pc = within code pc n
told reserved_opcode code pc = Err Reserved
told not_widened code pc = within code pc 4
told low_above_high code pc = within code pc (1 + padding pc + 4 + 4 + 4)
told negative_pairs code pc = within code pc (1 + padding pc + 4 + 4)

-- every code and every index, in JVMS's formats and outside them
abbrev pub LengthsAgree : Type 0
LengthsAgree = (code : List ℕ) → AreBytes code → (pc : ℕ) → length_of code pc ≡ told (extent_at code pc) code pc

-- the same where JVMS says one thing of the instruction at an index
abbrev pub Tells : Extent → Type 0
Tells said = (code : List ℕ) → AreBytes code → (pc : ℕ) → extent_at code pc ≡ said → length_of code pc ≡ told said code pc

-- the natural reading of a signed number is the integers', plus half of the range
pub record SignedReading : Type 0 where
  pub of16 : (code : List ℕ) → AreBytes code → (at : ℕ) → to_z w16 (u16_at code at) +ℤ pos (2 ^ 15) ≡ pos (i16_at code at)
  pub of32 : (code : List ℕ) → AreBytes code → (at : ℕ) → to_z w32 (u32_at code at) +ℤ pos (2 ^ 31) ≡ pos (i32_at code at)
