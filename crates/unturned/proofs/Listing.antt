-- Types one after the other, at two places from which on two texts are alike.
-- Rests on: one type (OneType).
-- Assumes nothing.
use Rattle.std.specs.Prelude.{Option, Some, None}
use Prim.Native.Nat.{ℕ, zero, suc, ◌+◌, ◌≤◌, ◌<◌}
use native.Mathlib.Omega.{arith}
use mathlib.Core.Bool.{Bool, true, false}
use mathlib.Core.List.{List}
use mathlib.Core.Path.{◌≡◌, refl, ◌∙◌, sym, ap₂}
use lib.Dec.{eqb}
use lib.ListN.{length, drop, drop_of_length-le}
use borrow.Author.Tests.{eqb-true, eqb-false}
use Rattle.basics.specs.Bytes.{byte_at}
use Rattle.fieldtype.specs.Types.{field_type_at, taken_inside, type_slots, Types, over, unread, one, types_at}
use Rattle.fieldtype.proofs.Bounds.{taken-inside}
use Rattle.fieldtype.specs.declared.FieldType.{FieldType}
use Rattle.descriptor.specs.Readers.{slots_of, judged}
use Rattle.descriptor.specs.declared.Params.{Params}
use Rattle.descriptor.proofs.Listing.{list_past, list_closed, list_unread, list_one}
use Rattle.unturned.proofs.Alike.{not_asked, both_end, Start, no_byte, one_byte, strange_bytes, start}
use Rattle.unturned.proofs.OneType.{past, inside, byte_is, rest_is, Meet, TakenAlike, none_taken, both_taken, taken_alike}

module _ (text turned : List ℕ) where
  -- the same slots, and an end, behind which they are alike, in both or in neither
  pub data TypesAlike : Types → Types → Type 0 where
    both_over : {i j : ℕ} → Meet text turned (i + 1) (j + 1) → TypesAlike (over i) (over j)
    both_unread : {i j : ℕ} → TypesAlike (unread i) (unread j)
    both_one :
        {f g : FieldType} {rest others : Types} → type_slots f ≡ type_slots g → TypesAlike rest others →
        TypesAlike (one f rest) (one g others)

  -- both texts are at their end
  ended : (i j : ℕ) → length text ≤ i → length turned ≤ j → TypesAlike (types_at text i) (types_at turned j)
  ended i j p q =
      let m : length text ≤ i + 1 = omega arith in
      let n : length turned ≤ j + 1 = omega arith in
      let meet : Meet text turned (i + 1) (j + 1) = rw (drop_of_length-le text m, drop_of_length-le turned n) both_end in
      rw (list_past text i p, list_past turned j q) (both_over meet)

  -- a type, or what can't be read
  module _ (i j : ℕ) (p : i < length text) (q : j < length turned) where
    one_step :
        (byte_at text i ≡ 41 → ⊥) → (byte_at turned j ≡ 41 → ⊥) →
        {f g : Option FieldType} → TakenAlike text turned f g → field_type_at text i ≡ f → field_type_at turned j ≡ g → taken_inside f text i →
        ((m n : ℕ) → i < m → Meet text turned m n → TypesAlike (types_at text m) (types_at turned n)) →
        TypesAlike (types_at text i) (types_at turned j)
    one_step going going' none_taken e f within onward = rw (list_unread text i p going e, list_unread turned j q going' f) both_unread
    one_step going going' (both_taken {f = a} {g = b} same meet) e f within onward =
        rw (list_one text i p going a e, list_one turned j q going' b f)
        (both_one same (onward a.next b.next (omega (arith, within.onward)) meet))

  -- a place's text has at most k bytes
  pub types_alike : (k i j : ℕ) → length text ≤ i + k → Meet text turned i j → TypesAlike (types_at text i) (types_at turned j)
  types_alike zero i j few meet = of (start meet)
    where
      of : Start (drop i text) (drop j turned) → TypesAlike (types_at text i) (types_at turned j)
      of (no_byte p q) = ended i j (past text i p) (past turned j q)
      of (one_byte x xs ys p q next) = absurd (omega (arith, few, inside text i p))
      of (strange_bytes h k) = absurd (omega (arith, few, inside text i h.is))
  types_alike (suc k) i j few meet = of (start meet) (λ m n more meet'. types_alike k m n (omega (arith, few, more)) meet')
    where
      Onward : Type 0
      Onward = (m n : ℕ) → i < m → Meet text turned m n → TypesAlike (types_at text m) (types_at turned n)

      going_on :
          i < length text → j < length turned → (byte_at text i ≡ 41 → ⊥) → (byte_at turned j ≡ 41 → ⊥) → Onward →
          TypesAlike (types_at text i) (types_at turned j)
      going_on p q r s = one_step i j p q r s (taken_alike text turned i j meet) refl refl (taken-inside text i)

      of : Start (drop i text) (drop j turned) → Onward → TypesAlike (types_at text i) (types_at turned j)
      of (no_byte p q) onward = ended i j (past text i p) (past turned j q)
      of (one_byte x xs ys p q next) onward = by_byte (eqb x 41) refl
        where
          by_byte : (b : Bool) → eqb x 41 ≡ b → TypesAlike (types_at text i) (types_at turned j)
          by_byte true e =
              let closing = eqb-true x 41 e in
              let meet : Meet text turned (i + 1) (j + 1) = rw (rest_is text i p, rest_is turned j q) next in
              rw (
                list_closed text i (inside text i p) (byte_is text i p ∙ closing),
                list_closed turned j (inside turned j q) (byte_is turned j q ∙ closing),
              )
              (both_over meet)
          by_byte false e =
              going_on (inside text i p) (inside turned j q)
              (λ f. eqb-false x 41 e (sym (byte_is text i p) ∙ f)) (λ f. eqb-false x 41 e (sym (byte_is turned j q) ∙ f)) onward
      of (strange_bytes h k) onward =
          going_on (inside text i h.is) (inside turned j k.is)
          (λ f. not_asked h.strange 41 tt (sym (byte_is text i h.is) ∙ f))
          (λ f. not_asked k.strange 41 tt (sym (byte_is turned j k.is) ∙ f)) onward

  -- ---- what is made of them

  pub same_slots : {types others : Types} → TypesAlike types others → slots_of types ≡ slots_of others
  unfolding slots_of
  same_slots (both_over meet) = refl
  same_slots both_unread = refl
  same_slots (both_one same rest) = ap₂ ◌+◌ same (same_slots rest)

  -- read with the same slots, and alike behind the end, or not
  pub data CallAlike : Option Params → Option Params → Type 0 where
    none_read : CallAlike None None
    both_read : {p q : Params} → q.slots ≡ p.slots → Meet text turned (p.end + 1) (q.end + 1) → CallAlike (Some p) (Some q)

  pub judged_alike : {types others : Types} → TypesAlike types others → (slots : ℕ) → CallAlike (judged types slots) (judged others slots)
  unfolding judged
  judged_alike (both_over meet) slots = both_read refl meet
  judged_alike both_unread slots = none_read
  judged_alike (both_one same rest) slots = judged_alike rest slots
