-- The readers of descriptors answer the same of two texts that are alike, so also of a text of a class file and what it turns to.
-- Rests on: such texts are alike (Turning), and types one after the other (Listing).
-- Assumes nothing.
use Rattle.std.specs.Prelude.{Option, Some, None}
use Prim.Native.Nat.{ℕ, ◌+◌}
use native.Mathlib.Omega.{arith}
use mathlib.Core.Bool.{Bool, true, false}
use mathlib.Core.List.{List, [], ◌∷◌}
use mathlib.Core.Path.{◌≡◌, refl, ◌∙◌, sym, ap}
use lib.Dec.{eqb}
use lib.ListN.{length, drop}
use borrow.Author.Tests.{le-leb, lt-leb}
use Rattle.basics.specs.Bytes.{byte_at}
use Rattle.basics.specs.Choice.{pick}
use Rattle.fieldtype.specs.Types.{types_at, types_of}
use Rattle.descriptor.specs.Readers.{slots_of, judged, parameters, end_of, closing, byte_slots, slots_behind, return_slots, field_slots}
use Rattle.descriptor.specs.declared.Params.{Params}
use Rattle.utf8.specs.Turning.{turned as turned_text}
use Rattle.unturned.specs.Unturned.{call_slots, SlotsAsTurned}
use Rattle.unturned.proofs.Alike.{is_other, Alike, Headed, Start, no_byte, one_byte, strange_bytes, start}
use Rattle.unturned.proofs.OneType.{past, inside, byte_is, Meet}
use Rattle.unturned.proofs.Listing.{TypesAlike, types_alike, same_slots, CallAlike, none_read, both_read, judged_alike}
use Rattle.unturned.proofs.Turning.{alike_turned}

module _ (text turned : List ℕ) where
  -- ---- a field

  same_field : Alike text turned → field_slots turned ≡ field_slots text
  unfolding field_slots
  same_field alike = of (start alike)
    where
      narrow : (whole : List ℕ) → Headed whole → field_slots whole ≡ 1
      narrow whole h = rw (h.is, is_other h.strange 74 tt, is_other h.strange 68 tt)

      of : Start text turned → field_slots turned ≡ field_slots text
      of (no_byte p q) = rw (p, q)
      of (one_byte x xs ys p q next) = rw (p, q)
      of (strange_bytes h k) = narrow turned k ∙ sym (narrow text h)

  -- ---- the parameters of a call

  call_alike : Alike text turned → CallAlike text turned (parameters text) (parameters turned)
  unfolding parameters types_of
  call_alike alike = of (start alike)
    where
      none_opened : (whole : List ℕ) → Headed whole → parameters whole ≡ None
      none_opened whole h = rw (h.is, is_other h.strange 40 tt)

      read :
          (b : Bool) → Meet text turned 1 1 →
          CallAlike text turned (pick b (judged (types_at text 1) (slots_of (types_at text 1))) None)
          (pick b (judged (types_at turned 1) (slots_of (types_at turned 1))) None)
      read true meet =
          let types : TypesAlike text turned (types_at text 1) (types_at turned 1) =
          types_alike text turned (length text) 1 1 (omega arith) meet in
          rw (sym (same_slots text turned types)) (judged_alike text turned types (slots_of (types_at text 1)))
      read false meet = none_read

      of : Start text turned → CallAlike text turned (parameters text) (parameters turned)
      of (no_byte p q) = rw (p, q) none_read
      of (one_byte x xs ys p q next) =
          let first : byte_at text 0 ≡ x = rw p in
          let second : byte_at turned 0 ≡ x = rw q in
          rw (first, second) (read (eqb x 40) (rw (p, q) next))
      of (strange_bytes h k) = rw (none_opened text h, none_opened turned k) none_read

  -- ---- the return

  same_behind : (i j : ℕ) → Meet text turned (i + 1) (j + 1) → slots_behind turned (Some j) ≡ slots_behind text (Some i)
  unfolding slots_behind
  same_behind i j meet = of (start meet)
    where
      none_behind : (whole : List ℕ) (end : ℕ) → drop (end + 1) whole ≡ [] → slots_behind whole (Some end) ≡ None
      none_behind whole end e = rw (le-leb (length whole) (end + 1) (past whole (end + 1) e))

      some_behind :
          (whole : List ℕ) (end x : ℕ) (rest : List ℕ) → drop (end + 1) whole ≡ x ∷ rest →
          slots_behind whole (Some end) ≡ Some (byte_slots x)
      some_behind whole end x rest e =
          rw (lt-leb (length whole) (end + 1) (inside whole (end + 1) e), byte_is whole (end + 1) e)

      one_slot : (whole : List ℕ) (end : ℕ) → Headed (drop (end + 1) whole) → slots_behind whole (Some end) ≡ Some 1
      one_slot whole end h =
          some_behind whole end h.byte h.rest h.is
          ∙ rw (is_other h.strange 86 tt, is_other h.strange 74 tt, is_other h.strange 68 tt)

      of : Start (drop (i + 1) text) (drop (j + 1) turned) → slots_behind turned (Some j) ≡ slots_behind text (Some i)
      of (no_byte p q) = none_behind turned j q ∙ sym (none_behind text i p)
      of (one_byte x xs ys p q next) = some_behind turned j x ys q ∙ sym (some_behind text i x xs p)
      of (strange_bytes h k) = one_slot turned j k ∙ sym (one_slot text i h)

  same_call : {p q : Option Params} → CallAlike text turned p q → call_slots q ≡ call_slots p
  same_call none_read = refl
  same_call (both_read same meet) = ap Some same

  same_return : {p q : Option Params} → CallAlike text turned p q → slots_behind turned (end_of q) ≡ slots_behind text (end_of p)
  unfolding slots_behind
  same_return none_read = refl
  same_return (both_read {p} {q} same meet) = same_behind p.end q.end meet

-- ---- the statement

pub slots_as_turned : SlotsAsTurned
unfolding return_slots closing
slots_as_turned =
    record {
      field = λ text right. same_field text (turned_text text) (alike_turned text right);
      arguments = λ text right. same_call text (turned_text text) (call_alike text (turned_text text) (alike_turned text right));
      returns = λ text right. same_return text (turned_text text) (call_alike text (turned_text text) (alike_turned text right));
    }
