-- What is said of reserved bytes holds: by JVMS's table, and by the rule's one test.
-- Assumes nothing.
use Rattle.std.specs.Prelude.{Result, Ok, Err}
use Prim.Native.Nat.{ℕ, ◌+◌, ◌≤◌, ◌<◌}
use native.Mathlib.Omega.{arith}
use mathlib.Core.Path.{◌≡◌, refl, ◌∙◌, sym, ap}
use mathlib.Core.Bool.{Bool, true, false}
use mathlib.Core.List.{List}
use lib.Dec.{leb}
use lib.ListN.{length}
use borrow.Author.Tests.{leb-true, leb-false, le-leb, ne_eqb}
use Rattle.basics.specs.Bytes.{byte_at}
use Rattle.basics.specs.Choice.{pick}
use Rattle.basics.proofs.Bytes.{byte_past}
use Rattle.jvms.specs.Format.{Format, fixed, tableswitch, lookupswitch, wide, reserved, format_of}
use Rattle.jvms.proofs.Reserved.{is_reserved, reserved_from_202}
use Rattle.bytecode.specs.Length.{wide_bytes, bytes_of, within, document_length, reserved_byte, length_of}
use Rattle.bytecode.proofs.Measuring.{is-reserved, not_reserved, fits, passes, none_past}
use Rattle.bytecode.specs.declared.Unmeasured.{Unmeasured}
use Rattle.bytecode.specs.declared.Unmeasured.TheVariants.{NoLength, Reserved}
use Rattle.lengths.specs.Reserved.{ReservedBytes}

-- ---- JVMS's table

is_none : (f : Format) → is_reserved f ≡ true → f ≡ reserved
is_none (fixed os) e = let z : ◌≡◌ {A = ℕ} 0 1 = cc in absurd (omega arith)
is_none tableswitch e = let z : ◌≡◌ {A = ℕ} 0 1 = cc in absurd (omega arith)
is_none lookupswitch e = let z : ◌≡◌ {A = ℕ} 0 1 = cc in absurd (omega arith)
is_none wide e = let z : ◌≡◌ {A = ℕ} 0 1 = cc in absurd (omega arith)
is_none reserved e = refl

no-instruction : (op : ℕ) → op < 256 → 202 ≤ op → format_of op ≡ reserved
no-instruction op below high = is_none (format_of op) (reserved_from_202 op below ∙ le-leb 202 op high)

-- ---- what measuring answers

module _ (code : List ℕ) (pc : ℕ) where
  inside : 202 ≤ byte_at code pc → pc < length code
  inside high = by_test (leb (length code) pc) refl
    where
      by_test : (t : Bool) → leb (length code) pc ≡ t → pc < length code
      by_test true e = absurd (omega (arith, byte_past code pc (leb-true (length code) pc e)))
      by_test false e = omega (arith, leb-false (length code) pc e)

  -- which answer the rule gave: of a reserved byte, of an instruction that passes the end, of one that does not
  data Answered : (Result ℕ Unmeasured) → Type 0 where
    as_reserved : 202 ≤ byte_at code pc → Answered (Err Reserved)
    as_cut : byte_at code pc < 202 → length code < pc + bytes_of code pc → Answered (Err NoLength)
    as_whole : byte_at code pc < 202 → pc + bytes_of code pc ≤ length code → Answered (Ok (bytes_of code pc))

  answered : Answered (length_of code pc)
  unfolding length_of document_length within
  answered =
      by_test (reserved_byte (byte_at code pc)) refl (leb (pc + bytes_of code pc) (length code)) refl
    where
      by_test :
          (r : Bool) → reserved_byte (byte_at code pc) ≡ r → (t : Bool) → leb (pc + bytes_of code pc) (length code) ≡ t →
          Answered (pick r (Err Reserved) (pick t (Ok (bytes_of code pc)) (Err NoLength)))
      by_test true high t e = as_reserved (leb-true 202 (byte_at code pc) high)
      by_test false low true e =
          as_whole (omega (arith, leb-false 202 (byte_at code pc) low)) (leb-true (pc + bytes_of code pc) (length code) e)
      by_test false low false e =
          as_cut (omega (arith, leb-false 202 (byte_at code pc) low)) (omega (arith, leb-false (pc + bytes_of code pc) (length code) e))

  reserved_only : {answer : Result ℕ Unmeasured} → Answered answer → answer ≡ Err Reserved → (pc < length code) × (202 ≤ byte_at code pc)
  reserved_only (as_reserved high) e = (inside high, high)
  reserved_only (as_cut low past) e = let z : ◌≡◌ {A = ℕ} 0 1 = cc in absurd (omega arith)
  reserved_only (as_whole low within) e = let z : ◌≡◌ {A = ℕ} 0 1 = cc in absurd (omega arith)

  cut_only :
      {answer : Result ℕ Unmeasured} → Answered answer → answer ≡ Err NoLength → (byte_at code pc < 202) × (length code < pc + bytes_of code pc)
  cut_only (as_reserved high) e = let z : ◌≡◌ {A = ℕ} 0 1 = cc in absurd (omega arith)
  cut_only (as_cut low past) e = (low, past)
  cut_only (as_whole low within) e = let z : ◌≡◌ {A = ℕ} 0 1 = cc in absurd (omega arith)

  cut_is : byte_at code pc < 202 → length code < pc + bytes_of code pc → length_of code pc ≡ Err NoLength
  unfolding document_length
  cut_is low past = sym (passes code pc (bytes_of code pc) past ∙ not_reserved code pc low)

  widened_is : byte_at code pc ≡ 196 → 202 ≤ byte_at code (pc + 1) → length_of code pc ≡ within code pc 4
  unfolding document_length bytes_of format_of wide_bytes
  widened_is is high =
      sym (not_reserved code pc (omega arith))
      ∙ rw (is, ne_eqb (byte_at code (pc + 1)) 132 (λ s. omega arith))

  was-one : byte_at code pc < 256 → 202 ≤ byte_at code pc → document_length code pc ≡ Ok 1
  unfolding document_length bytes_of
  was-one below high =
      rw (no-instruction (byte_at code pc) below high) (sym (fits code pc 1 (omega (arith, inside high))))

pub reserved_bytes : ReservedBytes
reserved_bytes =
    record {
      no_instruction = no-instruction;
      no_other = λ op below e.
          leb-true 202 op (sym (reserved_from_202 op below) ∙ ap is_reserved e);
      always = λ code pc high. sym (is-reserved code pc high);
      only = λ code pc e. reserved_only code pc (answered code pc) e;
      elsewhere = λ code pc low. sym (not_reserved code pc low);
      cut = cut_is;
      only_cut = λ code pc e. cut_only code pc (answered code pc) e;
      past_end = λ code pc past. sym (none_past code pc past);
      widened = widened_is;
      was_one = was-one;
    }
