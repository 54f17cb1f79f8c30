-- A store to a field takes few slots: a field has two at most.
-- Assumes nothing.
use Rattle.std.specs.Prelude.{Some, None}
use Rattle.std.proofs.lemmas.Option.{same_Some, none-some}
use Prim.Native.Nat.{ℕ, ◌+◌, ◌≤◌}
use native.Mathlib.Omega.{arith}
use mathlib.Core.Path.{◌≡◌}
use mathlib.Core.Bool.{Bool, true, false}
use mathlib.Core.List.{List}
use lib.Dec.{ltb}
use lib.ListN.{length}
use Rattle.basics.specs.Bytes.{byte_at, u16_at}
use Rattle.basics.specs.Choice.{pick}
use Rattle.descriptor.specs.Readers.{field_slots}
use Rattle.fieldtype.specs.Types.{is_wide}
use Rattle.effects.specs.Lookup.{Known, missing, known, Lookup}
use Rattle.instruction.specs.Lookup.{slots_known, cited_slots}

few_field : (descriptor : List ℕ) → field_slots descriptor ≤ 2
unfolding field_slots
few_field descriptor = by_test (is_wide (byte_at descriptor 0))
  where
    by_test : (b : Bool) → pick b 2 1 ≤ 2
    by_test true = omega arith
    by_test false = omega arith

pub few_cited :
    (lookup : Lookup) (code : List ℕ) (pc slots : ℕ) → cited_slots lookup code pc ≡ Some slots → slots ≤ 2
few_cited lookup code pc slots e = by_test (ltb (pc + 2) (length code)) (lookup 0 (u16_at code (pc + 1))) e
  where
    by_test : (b : Bool) (k : Known) → pick b (slots_known k) None ≡ Some slots → slots ≤ 2
    by_test true missing e = absurd (none-some slots e)
    by_test true (known descriptor) e = omega (arith, same_Some _ slots e, few_field descriptor)
    by_test false k e = absurd (none-some slots e)
