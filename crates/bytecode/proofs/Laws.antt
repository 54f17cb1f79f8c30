-- The laws of a length, for document 01's rule and for any other, and that an answer is told by its numbers.
-- Assumes nothing.
use Rattle.std.specs.Prelude.{Result, Ok, Err}
use Prim.Native.Nat.{ℕ, ◌+◌, ◌≤◌, ◌<◌}
use native.Mathlib.Omega.{arith}
use mathlib.Core.Path.{◌≡◌, refl, ◌∙◌, sym, ap}
use mathlib.Core.Bool.{Bool, true, false}
use mathlib.Core.List.{List}
use lib.Dec.{eqb, leb}
use lib.ListN.{length, get_or}
use borrow.Author.Tests.{leb-true, ne_eqb}
use Rattle.basics.specs.Bytes.{byte_at}
use Rattle.basics.specs.Choice.{pick}
use Rattle.jvms.specs.Format.{Format, fixed, tableswitch, lookupswitch, wide, reserved, widths, format_of}
use Rattle.jvms.proofs.Reserved.{is_reserved, reserved_from_202}
use Rattle.bytecode.specs.Length.{table_bytes, lookup_bytes, wide_bytes, bytes_by, bytes_of, within, document_length, length_of, numbered}
use Rattle.fixed.specs.Fixed.{fixed_by, fixed_length, FixedLengths}
use Rattle.bytecode.specs.Length.{length_by}
use Rattle.bytecode.specs.Rule.{LengthRule}
use Rattle.bytecode.specs.declared.Unmeasured.{Unmeasured}
use Rattle.bytecode.specs.declared.Unmeasured.TheVariants.{NoLength, Reserved}

-- a length that is given is the rule's, and stays in the code
pub record Given (code : List ℕ) (pc n : ℕ) : Type 0 where
  pub bytes : n ≡ bytes_of code pc
  pub inside : pc + n ≤ length code

pub given : (code : List ℕ) (pc n : ℕ) → document_length code pc ≡ Ok n → Given code pc n
unfolding document_length within
given code pc n e = by_test (leb (pc + bytes_of code pc) (length code)) refl e
  where
    by_test :
        (t : Bool) → leb (pc + bytes_of code pc) (length code) ≡ t → pick t (Ok (bytes_of code pc)) (Err NoLength) ≡ Ok n →
        Given code pc n
    by_test true h q =
        let same : n ≡ bytes_of code pc = cc in
        record { bytes = same; inside = omega (arith, same, leb-true (pc + bytes_of code pc) (length code) h) }
    by_test false h q = let z : ◌≡◌ {A = ℕ} 0 1 = cc in absurd (omega arith)

four_at_least : (iinc : Bool) → 4 ≤ pick iinc 6 4
four_at_least true = omega arith
four_at_least false = omega arith

one_at_least : (f : Format) (code : List ℕ) (pc : ℕ) → 1 ≤ bytes_by f code pc
unfolding table_bytes lookup_bytes wide_bytes
one_at_least (fixed os) code pc = omega arith
one_at_least tableswitch code pc = omega arith
one_at_least lookupswitch code pc = omega arith
one_at_least wide code pc = omega (arith, four_at_least (eqb (byte_at code (pc + 1)) 132))
one_at_least reserved code pc = omega arith

pub bytes_positive : (code : List ℕ) (pc : ℕ) → 1 ≤ bytes_of code pc
unfolding bytes_of
bytes_positive code pc = one_at_least (format_of (byte_at code pc)) code pc

-- the length by the table of all fixed lengths is the rule's
pub by_fixed_lengths :
    (lengths code : List ℕ) (pc : ℕ) → FixedLengths lengths → byte_at code pc < 256 → length_by lengths code pc ≡ length_of code pc
unfolding length_by length_of document_length bytes_of fixed_length
by_fixed_lengths lengths code pc table below =
    rw (table.entries (byte_at code pc) below, ← reserved_from_202 (byte_at code pc) below)
    (by_format (format_of (byte_at code pc)))
  where
    by_rule : Format → Result ℕ Unmeasured
    by_rule f = pick (is_reserved f) (Err Reserved) (within code pc (bytes_by f code pc))

    by_format : (f : Format) → pick (eqb (fixed_by f) 0) (by_rule f) (within code pc (fixed_by f)) ≡ by_rule f
    by_format (fixed os) = rw (ne_eqb (1 + widths os) 0 (omega arith))
    by_format tableswitch = refl
    by_format lookupswitch = refl
    by_format wide = refl
    by_format reserved = refl

-- by any rule a length is at least 1
pub rule_positive : (rule : LengthRule) (code : List ℕ) (pc n : ℕ) → rule.measure code pc ≡ Ok n → 1 ≤ n
rule_positive rule code pc n e =
    omega (arith, bytes_positive code pc, (given code pc n (rule.documented code pc n e)).bytes)

-- and passes no end
pub rule_inside : (rule : LengthRule) (code : List ℕ) (pc n : ℕ) → rule.measure code pc ≡ Ok n → pc + n ≤ length code
rule_inside rule code pc n e = (given code pc n (rule.documented code pc n e)).inside

-- measured implies in bounds: by any rule, each byte of an instruction that has a length lies in the code
pub measured_in_bounds :
    (rule : LengthRule) (code : List ℕ) (pc n : ℕ) → rule.measure code pc ≡ Ok n →
    (k : ℕ) → k < bytes_of code pc → pc + k < length code
measured_in_bounds rule code pc n e k below =
    omega (arith, (given code pc n (rule.documented code pc n e)).bytes, rule_inside rule code pc n e)

-- two answers with the same numbers are the same: the numbers are read back
abbrev answered : List ℕ → Result ℕ Unmeasured
answered l = pick (eqb (get_or l 0 0) 0) (Ok (get_or l 1 0)) (pick (eqb (get_or l 0 0) 1) (Err NoLength) (Err Reserved))

back : (answer : Result ℕ Unmeasured) → answered (numbered answer) ≡ answer
unfolding numbered
back (Ok n) = refl
back (Err NoLength) = refl
back (Err Reserved) = refl

pub numbered_injective : (one another : Result ℕ Unmeasured) → numbered one ≡ numbered another → one ≡ another
numbered_injective one another e = sym (back one) ∙ ap answered e ∙ back another
