-- What the code's own proofs need of the length rule: the opcodes that fix the length, the reserved ones, and the answers at the
-- code's end.
-- Assumes nothing.
use Rattle.std.specs.Prelude.{Ok, Err}
use Prim.Native.Nat.{ℕ, zero, suc, ◌+◌, ◌≤◌, ◌<◌}
use native.Mathlib.Omega.{arith}
use mathlib.Core.Path.{◌≡◌, refl, ◌∙◌, sym}
use mathlib.Core.Bool.{Bool, true}
use mathlib.Core.List.{List}
use lib.Dec.{T, eqb, eqb→eq, leb→le}
use lib.ListN.{length}
use borrow.Author.Tests.{le-leb, lt-leb, eq-eqb, ne_eqb}
use Rattle.basics.specs.Bytes.{byte_at}
use Rattle.basics.proofs.Bytes.{byte_past}
use Rattle.basics.proofs.Every.{every_at}
use Rattle.jvms.specs.Format.{Format, fixed, tableswitch, lookupswitch, wide, reserved, format_of}
use Rattle.bytecode.specs.Length.{bytes_by, bytes_of, within, document_length, reserved_byte, length_of, length_by}
use Rattle.bytecode.specs.declared.Unmeasured.TheVariants.{NoLength, Reserved}
use Rattle.fixed.specs.Fixed.{fixed_by, fixed_length}

-- an opcode whose format leaves its length open is one of three, or reserved
abbrev opens : Format → ℕ → Bool
opens (fixed os) op = true
opens tableswitch op = eqb op 170
opens lookupswitch op = eqb op 171
opens wide op = eqb op 196
opens reserved op = reserved_byte op

few_are_open : (op : ℕ) → op < 256 → T (opens (format_of op) op)
unfolding format_of
few_are_open op below = every_at (λ k. opens (format_of k) k) 256 tt op below

by_format :
    (f : Format) (op : ℕ) (code : List ℕ) (pc : ℕ) →
    T (opens f op) → op < 202 → (op ≡ 170 → ⊥) → (op ≡ 171 → ⊥) → (op ≡ 196 → ⊥) → fixed_by f ≡ bytes_by f code pc
by_format (fixed os) op code pc t below not-IsTable not-lookup not_wide = refl
by_format tableswitch op code pc t below not-IsTable not-lookup not_wide = absurd (not-IsTable (eqb→eq op 170 t))
by_format lookupswitch op code pc t below not-IsTable not-lookup not_wide = absurd (not-lookup (eqb→eq op 171 t))
by_format wide op code pc t below not-IsTable not-lookup not_wide = absurd (not_wide (eqb→eq op 196 t))
by_format reserved op code pc t below not-IsTable not-lookup not_wide = absurd (omega (arith, leb→le 202 op t))

-- any other opcode fixes the length by itself
pub opcode_fixes :
    (code : List ℕ) (pc : ℕ) → byte_at code pc < 202 →
    (byte_at code pc ≡ 170 → ⊥) → (byte_at code pc ≡ 171 → ⊥) → (byte_at code pc ≡ 196 → ⊥) →
    fixed_length (byte_at code pc) ≡ bytes_of code pc
unfolding fixed_length bytes_of
opcode_fixes code pc below =
    by_format (format_of (byte_at code pc)) (byte_at code pc) code pc (few_are_open (byte_at code pc) (omega arith)) below

-- ---- reserved, and not

pub is-reserved : (code : List ℕ) (pc : ℕ) → 202 ≤ byte_at code pc → Err Reserved ≡ length_of code pc
unfolding length_of
is-reserved code pc high = simp (le-leb _ _ high)

pub not_reserved : (code : List ℕ) (pc : ℕ) → byte_at code pc < 202 → document_length code pc ≡ length_of code pc
unfolding length_of
not_reserved code pc low = simp (lt-leb _ _ low)

-- ---- the code's end

pub fits : (code : List ℕ) (pc n : ℕ) → pc + n ≤ length code → Ok n ≡ within code pc n
unfolding within
fits code pc n inside = simp (le-leb _ _ inside)

pub passes : (code : List ℕ) (pc n : ℕ) → length code < pc + n → Err NoLength ≡ within code pc n
unfolding within
passes code pc n past = simp (lt-leb _ _ past)

-- past the end there is no instruction
pub none_past : (code : List ℕ) (pc : ℕ) → length code ≤ pc → Err NoLength ≡ length_of code pc
unfolding length_of document_length bytes_of format_of
none_past code pc past = rw (byte_past code pc past) (passes code pc 1 (omega arith))

-- ---- by a table whose entry for the opcode is n

module _ (lengths code : List ℕ) (pc n : ℕ) (is : n ≡ byte_at lengths (byte_at code pc)) where
  pub entry_open : n ≡ 0 → length_of code pc ≡ length_by lengths code pc
  unfolding length_by
  entry_open none = rw (← is, eq-eqb n 0 none)

  pub entry_taken : 0 < n → within code pc n ≡ length_by lengths code pc
  unfolding length_by
  entry_taken some = rw (← is, ne_eqb n 0 (λ z. omega arith))

-- past the end it does not matter which table
pub past_by_table : (lengths code : List ℕ) (pc : ℕ) → length code ≤ pc → length_of code pc ≡ length_by lengths code pc
past_by_table lengths code pc past = by_entry (byte_at lengths (byte_at code pc)) refl
  where
    by_entry : (n : ℕ) → n ≡ byte_at lengths (byte_at code pc) → length_of code pc ≡ length_by lengths code pc
    by_entry zero is = entry_open lengths code pc zero is refl
    by_entry (suc n) is =
        sym (none_past code pc past) ∙ passes code pc (suc n) (omega arith) ∙ entry_taken lengths code pc (suc n) is (omega arith)
