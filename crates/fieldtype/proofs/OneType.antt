-- The type at an index, once its brackets are passed.
-- Assumes nothing.
use Rattle.std.specs.Prelude.{Some, None}
use Prim.Native.Nat.{ℕ, ◌+◌, ◌-◌, ◌≤◌, ◌<◌}
use native.Mathlib.Omega.{arith}
use mathlib.Core.Path.{◌≡◌, sym, ap₂}
use mathlib.Core.List.{List}
use lib.ListN.{length, drop}
use borrow.Author.Tests.{le-leb, lt-leb, eq-eqb, ne_eqb}
use Rattle.basics.specs.Ascii.{ascii}
use Rattle.basics.specs.Bytes.{byte_at}
use Rattle.bytesearch.specs.Search.{first_from}
use Rattle.fieldtype.specs.Types.{brackets, type_behind, field_type_at}

module _ (text : List ℕ) (at base : ℕ) (passed : base ≡ at + brackets (drop at text)) where
  behind : field_type_at text at ≡ type_behind text (base - at) base
  unfolding field_type_at
  behind = let dims : brackets (drop at text) ≡ base - at = omega (arith, passed) in ap₂ (type_behind text) dims (sym passed)

  pub nothing_behind : length text ≤ base → None ≡ field_type_at text at
  unfolding type_behind
  nothing_behind past = rw (behind, le-leb (length text) base past)

  pub class_unended :
      base < length text → byte_at text base ≡ 76 → None ≡ first_from 59 text (base + 1) → None ≡ field_type_at text at
  unfolding type_behind
  class_unended inside named none = rw (behind, lt-leb (length text) base inside, eq-eqb (byte_at text base) 76 named, ← none)

  pub class_ended :
      (to : ℕ) → base < length text → byte_at text base ≡ 76 → Some to ≡ first_from 59 text (base + 1) →
      Some (record { letter = byte_at text base; dims = base - at; from = base + 1; to = to; next = to + 1 }) ≡ field_type_at text at
  unfolding type_behind
  class_ended to inside named some =
      rw (behind, lt-leb (length text) base inside, eq-eqb (byte_at text base) 76 named, ← some, named)

  pub no_letter :
      base < length text → (byte_at text base ≡ 76 → ⊥) → None ≡ first_from (byte_at text base) (ascii "BCDFIJSZ") 0 →
      None ≡ field_type_at text at
  unfolding type_behind
  no_letter inside other none = rw (behind, lt-leb (length text) base inside, ne_eqb (byte_at text base) 76 other, ← none)

  pub base_letter :
      (k : ℕ) → base < length text → (byte_at text base ≡ 76 → ⊥) → Some k ≡ first_from (byte_at text base) (ascii "BCDFIJSZ") 0 →
      Some (record { letter = byte_at text base; dims = base - at; from = base + 1; to = base + 1; next = base + 1 }) ≡ field_type_at text at
  unfolding type_behind
  base_letter k inside other some =
      rw (behind, lt-leb (length text) base inside, ne_eqb (byte_at text base) 76 other, ← some)

-- for `parse_field_type`
pub ruleset read = (nothing_behind, class_unended, class_ended, no_letter, base_letter)
