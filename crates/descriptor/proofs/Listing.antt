-- Types one after the other: what stands at an index decides how the list goes on.
-- Assumes nothing.
use Rattle.std.specs.Prelude.{Option, Some, None}
use Prim.Native.Nat.{ℕ, zero, suc, ◌+◌, ◌≤◌, ◌<◌}
use native.Mathlib.Omega.{arith}
use mathlib.Core.Path.{◌≡◌, refl, ◌∙◌, ap}
use mathlib.Core.Bool.{Bool, true, false}
use mathlib.Core.List.{List}
use lib.Dec.{eqb}
use lib.ListN.{length}
use borrow.Author.Tests.{le-leb, lt-leb, eq-eqb, ne_eqb}
use Rattle.basics.specs.Bytes.{byte_at}
use Rattle.basics.specs.Choice.{pick, both}
use Rattle.fieldtype.specs.Types.{field_type_at, taken_inside, is_wide, type_slots, over, unread, one, types_step, list_over, types_from, types_at}
use Rattle.fieldtype.specs.declared.FieldType.{FieldType}
use Rattle.fieldtype.proofs.Bounds.{taken-inside}

-- more turns than there are bytes change nothing
enough :
    (text : List ℕ) (k j at : ℕ) → length text ≤ at + k → length text ≤ at + j → types_from text k at ≡ types_from text j at
unfolding types_from
enough text zero zero at p q = refl
enough text zero (suc j) at p q = let past : length text ≤ at = omega arith in rw (le-leb (length text) at past)
enough text (suc k) zero at p q = let past : length text ≤ at = omega arith in rw (le-leb (length text) at past)
enough text (suc k) (suc j) at p q =
    same_step (list_over text at) (field_type_at text at) (taken-inside text at) (λ n onward. enough text k j n (omega arith) (omega arith))
  where
    same_step :
        (t : Bool) (taken : Option FieldType) → taken_inside taken text at →
        ((n : ℕ) → at < n → types_from text k n ≡ types_from text j n) →
        types_step t taken at (λ n. types_from text k n) ≡ types_step t taken at (λ n. types_from text j n)
    same_step true taken inside rest = refl
    same_step false (Some t) inside rest = ap (one t) (rest t.next (omega (arith, inside.onward)))
    same_step false None inside rest = refl

module _ (text : List ℕ) (at : ℕ) where
  -- the list without its count of turns
  pub list_is : types_at text at ≡ types_step (list_over text at) (field_type_at text at) at (λ next. types_at text next)
  unfolding types_at types_from
  list_is = enough text (length text) (suc (length text)) at (omega arith) (omega arith)

  -- the end of the text
  pub list_past : length text ≤ at → types_at text at ≡ over at
  list_past past = list_is ∙ rw (le-leb (length text) at past)

  -- `)`
  pub list_closed : at < length text → byte_at text at ≡ 41 → types_at text at ≡ over at
  list_closed inside e = list_is ∙ rw (lt-leb (length text) at inside, eq-eqb (byte_at text at) 41 e)

  module _ (inside : at < length text) (going : byte_at text at ≡ 41 → ⊥) where
    pub list_unread : field_type_at text at ≡ None → types_at text at ≡ unread at
    list_unread e = list_is ∙ rw (lt-leb (length text) at inside, ne_eqb (byte_at text at) 41 going, e)

    pub list_one : (t : FieldType) → field_type_at text at ≡ Some t → types_at text at ≡ one t (types_at text t.next)
    list_one t e = list_is ∙ rw (lt-leb (length text) at inside, ne_eqb (byte_at text at) 41 going, e)

pub one_or_two : (t : FieldType) → (1 ≤ type_slots t) × (type_slots t ≤ 2)
unfolding type_slots
one_or_two t = by_test (both (eqb t.dims 0) (is_wide t.letter))
  where
    by_test : (b : Bool) → (1 ≤ pick b 2 1) × (pick b 2 1 ≤ 2)
    by_test true = (omega arith, omega arith)
    by_test false = (omega arith, omega arith)
