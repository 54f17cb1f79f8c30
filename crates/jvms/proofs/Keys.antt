-- The key of an instruction: what it is, and that it is one of the tables' keys.
-- Assumes nothing.
use Prim.Native.Nat.{ℕ, ◌+◌, ◌≤◌, ◌<◌}
use native.Mathlib.Omega.{arith}
use mathlib.Core.Path.{◌≡◌, refl, subst}
use mathlib.Core.Bool.{Bool, true, false}
use mathlib.Core.List.{List}
use lib.Dec.{eqb, ltb}
use lib.ListN.{length}
use borrow.Author.Tests.{eq-eqb, ne_eqb, eqb-true, lt-ltb, le-ltb}
use Rattle.basics.specs.Bytes.{byte_at, AreBytes}
use Rattle.basics.specs.Choice.{pick}
use Rattle.jvms.specs.Stack.{key_at, key_count}

module _ (code : List ℕ) (pc : ℕ) where
  pub plain-key : (byte_at code pc ≡ 196 → ⊥) → key_at code pc ≡ byte_at code pc
  plain-key other = rw (ne_eqb (byte_at code pc) 196 other)

  pub wide-key : byte_at code pc ≡ 196 → pc + 1 < length code → key_at code pc ≡ 256 + byte_at code (pc + 1)
  wide-key e inside = rw (eq-eqb (byte_at code pc) 196 e, lt-ltb (pc + 1) (length code) inside)

  pub cut-key : byte_at code pc ≡ 196 → length code ≤ pc + 1 → key_at code pc ≡ 196
  cut-key e end = rw (eq-eqb (byte_at code pc) 196 e, le-ltb (pc + 1) (length code) end)

  -- it is the opcode, or behind `wide` 256 and the opcode there
  pub data Keyed : ℕ → Type 0 where
    plain : Keyed (byte_at code pc)
    behind_wide : byte_at code pc ≡ 196 → Keyed (256 + byte_at code (pc + 1))

  pub keyed : Keyed (key_at code pc)
  keyed = by_wide (eqb (byte_at code pc) 196) refl
    where
      by_end : (b : Bool) → byte_at code pc ≡ 196 → Keyed (pick b (256 + byte_at code (pc + 1)) 196)
      by_end true e = behind_wide e
      by_end false e = subst Keyed e plain

      by_wide :
          (b : Bool) → eqb (byte_at code pc) 196 ≡ b →
          Keyed (pick b (pick (ltb (pc + 1) (length code)) (256 + byte_at code (pc + 1)) 196) (byte_at code pc))
      by_wide true e = by_end (ltb (pc + 1) (length code)) (eqb-true (byte_at code pc) 196 e)
      by_wide false e = plain

  -- below 256 it is the opcode
  pub key_plain : key_at code pc < 256 → byte_at code pc ≡ key_at code pc
  key_plain small = by_key (key_at code pc) keyed small
    where
      by_key : (key : ℕ) → Keyed key → key < 256 → byte_at code pc ≡ key
      by_key key plain small = refl
      by_key key (behind_wide e) small = absurd (omega arith)

  -- from 256 on the instruction is a `wide`, and 256 less is the opcode behind it
  pub key_far : 256 ≤ key_at code pc → AreBytes code → (byte_at code pc ≡ 196) × (key_at code pc ≡ 256 + byte_at code (pc + 1))
  key_far large are = by_key (key_at code pc) keyed large
    where
      by_key : (key : ℕ) → Keyed key → 256 ≤ key → (byte_at code pc ≡ 196) × (key ≡ 256 + byte_at code (pc + 1))
      by_key key plain large = absurd (omega (arith, are pc))
      by_key key (behind_wide e) large = (e, refl)

pub key_below : (code : List ℕ) → AreBytes code → (pc : ℕ) → key_at code pc < key_count
key_below code are pc = by_key (key_at code pc) (keyed code pc)
  where
    by_key : (key : ℕ) → Keyed code pc key → key < key_count
    by_key key plain = omega (arith, are pc)
    by_key key (behind_wide e) = omega (arith, are (pc + 1))
