-- A call has few slots: a byte of a method's descriptor gives two at most.
-- Assumes nothing.
use Rattle.std.specs.Prelude.{Option, Some, None}
use Rattle.std.proofs.lemmas.Option.{same_Some, none-some}
use Prim.Native.Nat.{ℕ, zero, suc, ◌*◌, ◌≤◌}
use native.Mathlib.Omega.{arith}
use mathlib.Core.Path.{◌≡◌, ap}
use mathlib.Core.Bool.{Bool, true, false}
use mathlib.Core.List.{List}
use lib.Dec.{eqb}
use lib.ListN.{length}
use Rattle.basics.specs.Bytes.{byte_at}
use Rattle.basics.specs.Choice.{pick}
use Rattle.fieldtype.specs.Types.{field_type_at, Types, over, unread, one, types_step, list_over, types_from, types_at, types_of}
use Rattle.fieldtype.specs.declared.FieldType.{FieldType}
use Rattle.descriptor.specs.Readers.{slots_of, judged, parameters}
use Rattle.descriptor.specs.declared.Params.{Params}
use Rattle.descriptor.proofs.Listing.{one_or_two}

few_from : (text : List ℕ) (k at : ℕ) → slots_of (types_from text k at) ≤ 2 * k
unfolding types_from slots_of
few_from text zero at = omega arith
few_from text (suc k) at = by_step (list_over text at) (field_type_at text at) (λ next. few_from text k next)
  where
    by_step :
        (b : Bool) (t : Option FieldType) → ((next : ℕ) → slots_of (types_from text k next) ≤ 2 * k) →
        slots_of (types_step b t at (λ next. types_from text k next)) ≤ 2 * suc k
    by_step true t fewer = omega arith
    by_step false (Some t) fewer = omega (arith, (one_or_two t).1, fewer t.next)
    by_step false None fewer = omega arith

judged_slots : (types : Types) (n : ℕ) (p : Params) → judged types n ≡ Some p → n ≡ p.slots
unfolding judged
judged_slots (over at) n p e = ap (λ (q : Params). q.slots) (same_Some _ p e)
judged_slots (unread at) n p e = absurd (none-some p e)
judged_slots (one t rest) n p e = judged_slots rest n p e

pub few_slots : (text : List ℕ) (p : Params) → parameters text ≡ Some p → p.slots ≤ 2 * length text
unfolding parameters types_of types_at
few_slots text p e = by_test (eqb (byte_at text 0) 40) e
  where
    by_test :
        (b : Bool) → pick b (judged (types_of text) (slots_of (types_of text))) None ≡ Some p →
        p.slots ≤ 2 * length text
    by_test true e = omega (arith, judged_slots (types_of text) (slots_of (types_of text)) p e, few_from text (length text) 1)
    by_test false e = absurd (none-some p e)
