-- A run of members or of local records, one of them at a time.
-- Assumes nothing.
use Rattle.std.specs.Prelude.{Option, Some, None, Result, Ok, Err}
use Prim.Native.Nat.{ℕ, suc, ◌+◌}
use mathlib.Core.Path.{◌≡◌, refl}
use mathlib.Core.Bool.{Bool, true, false}
use mathlib.Core.List.{List}
use lib.Dec.{ltb, leb}
use Rattle.number.specs.Number.{greatest, number_at}
use Rattle.items.specs.Text.{text_at, then_text}
use Rattle.tables.specs.Layout.{Layout, text, three_texts, member_then, members_then, record_then, records_then, ended, run_by, then_run}
use Rattle.tables.specs.LocalRecord.{record_at, then_record}
use Rattle.tables.specs.Member.{member_at, then_member}

-- three texts and what follows them
pub texts_then :
    (following : Layout) (bytes : List ℕ) (at : ℕ) →
    run_by (three_texts following) bytes at
    ≡ then_run (run_by (three_texts ended) bytes at) (λ wrong. Err wrong) (λ end. run_by following bytes end)
unfolding run_by
texts_then following bytes at = first (text_at bytes at)
  where
    onward : ℕ → Result ℕ ℕ
    onward end = run_by following bytes end

    third :
        (t : Option (ℕ × ℕ)) (there : ℕ) →
        then_text t (Err there) (λ start size. onward (start + size))
        ≡ then_run (then_text t (Err there) (λ start size. Ok (start + size))) (λ wrong. Err wrong) onward
    third (Some (start, size)) there = refl
    third None there = refl

    second :
        (t : Option (ℕ × ℕ)) (there : ℕ) →
        then_text t (Err there) (λ start size. run_by (text following) bytes (start + size))
        ≡ then_run (then_text t (Err there) (λ start size. run_by (text ended) bytes (start + size))) (λ wrong. Err wrong) onward
    second (Some (start, size)) there = third (text_at bytes (start + size)) (start + size)
    second None there = refl

    first :
        (t : Option (ℕ × ℕ)) →
        then_text t (Err at) (λ start size. run_by (text (text following)) bytes (start + size))
        ≡ then_run (then_text t (Err at) (λ start size. run_by (text (text ended)) bytes (start + size))) (λ wrong. Err wrong) onward
    first (Some (start, size)) = second (text_at bytes (start + size)) (start + size)
    first None = refl

-- a member and what follows it
module _ (bytes : List ℕ) (last at : ℕ) (following : ℕ → Layout) where
  abbrev MemberThen : Type 0
  MemberThen =
      run_by (member_then last following) bytes at
      ≡ then_member (member_at bytes last at) (λ wrong. Err wrong) (λ place. run_by (following place.index) bytes place.next)

  pub member-then : MemberThen
  unfolding run_by member_at
  member-then = by_index (number_at greatest bytes at) refl
    where
      by_texts :
          (index kind_at kind texts : ℕ) → number_at greatest bytes at ≡ Some (index, kind_at) → ltb last index ≡ true →
          number_at greatest bytes kind_at ≡ Some (kind, texts) → leb kind 1 ≡ true →
          (r : Result ℕ ℕ) → run_by (three_texts ended) bytes texts ≡ r → MemberThen
      by_texts index kind_at kind texts e f g h (Ok next) i = rw (e, f, g, h, texts_then (following index) bytes texts, i)
      by_texts index kind_at kind texts e f g h (Err wrong) i = rw (e, f, g, h, texts_then (following index) bytes texts, i)

      by_kind_rule :
          (index kind_at kind texts : ℕ) → number_at greatest bytes at ≡ Some (index, kind_at) → ltb last index ≡ true →
          number_at greatest bytes kind_at ≡ Some (kind, texts) → (t : Bool) → leb kind 1 ≡ t → MemberThen
      by_kind_rule index kind_at kind texts e f g true h =
          by_texts index kind_at kind texts e f g h (run_by (three_texts ended) bytes texts) refl
      by_kind_rule index kind_at kind texts e f g false h = rw (e, f, g, h)

      by_kind :
          (index kind_at : ℕ) → number_at greatest bytes at ≡ Some (index, kind_at) → ltb last index ≡ true →
          (n : Option (ℕ × ℕ)) → number_at greatest bytes kind_at ≡ n → MemberThen
      by_kind index kind_at e f (Some (kind, texts)) g = by_kind_rule index kind_at kind texts e f g (leb kind 1) refl
      by_kind index kind_at e f None g = rw (e, f, g)

      by_index_rule :
          (index kind_at : ℕ) → number_at greatest bytes at ≡ Some (index, kind_at) → (t : Bool) → ltb last index ≡ t → MemberThen
      by_index_rule index kind_at e true f = by_kind index kind_at e f (number_at greatest bytes kind_at) refl
      by_index_rule index kind_at e false f = rw (e, f)

      by_index : (n : Option (ℕ × ℕ)) → number_at greatest bytes at ≡ n → MemberThen
      by_index (Some (index, kind_at)) e = by_index_rule index kind_at e (ltb last index) refl
      by_index None e = rw e

-- a local record and what follows it
module _ (bytes : List ℕ) (at : ℕ) (following : Layout) where
  abbrev RecordThen : Type 0
  RecordThen =
      run_by (record_then following) bytes at
      ≡ then_record (record_at bytes at) (λ wrong. Err wrong) (λ place. run_by following bytes place.next)

  pub record-then : RecordThen
  unfolding run_by record_at
  record-then = by_start (number_at greatest bytes at) refl
    where
      by_name :
          (start length_at size slot_at slot name_at : ℕ) → number_at greatest bytes at ≡ Some (start, length_at) →
          number_at greatest bytes length_at ≡ Some (size, slot_at) → number_at greatest bytes slot_at ≡ Some (slot, name_at) →
          (t : Option (ℕ × ℕ)) → text_at bytes name_at ≡ t → RecordThen
      by_name start length_at size slot_at slot name_at e f g (Some (name, n)) h = rw (e, f, g, h)
      by_name start length_at size slot_at slot name_at e f g None h = rw (e, f, g, h)

      by_slot :
          (start length_at size slot_at : ℕ) → number_at greatest bytes at ≡ Some (start, length_at) →
          number_at greatest bytes length_at ≡ Some (size, slot_at) → (n : Option (ℕ × ℕ)) → number_at greatest bytes slot_at ≡ n → RecordThen
      by_slot start length_at size slot_at e f (Some (slot, name_at)) g =
          by_name start length_at size slot_at slot name_at e f g (text_at bytes name_at) refl
      by_slot start length_at size slot_at e f None g = rw (e, f, g)

      by_length :
          (start length_at : ℕ) → number_at greatest bytes at ≡ Some (start, length_at) →
          (n : Option (ℕ × ℕ)) → number_at greatest bytes length_at ≡ n → RecordThen
      by_length start length_at e (Some (size, slot_at)) f =
          by_slot start length_at size slot_at e f (number_at greatest bytes slot_at) refl
      by_length start length_at e None f = rw (e, f)

      by_start : (n : Option (ℕ × ℕ)) → number_at greatest bytes at ≡ n → RecordThen
      by_start (Some (start, length_at)) e = by_length start length_at e (number_at greatest bytes length_at) refl
      by_start None e = rw e

-- ---- one turn of each loop, and of a search over the local records

pub members_turn :
    (bytes : List ℕ) (left rest last at : ℕ) → left ≡ suc rest →
    run_by (members_then left last ended) bytes at
    ≡ then_member (member_at bytes last at) (λ wrong. Err wrong)
    (λ place. run_by (members_then rest place.index ended) bytes place.next)
unfolding members_then
members_turn bytes left rest last at e = rw e (member-then bytes last at (λ index. members_then rest index ended))

pub records_turn :
    (bytes : List ℕ) (left rest at : ℕ) → left ≡ suc rest →
    run_by (records_then left ended) bytes at
    ≡ then_record (record_at bytes at) (λ wrong. Err wrong) (λ place. run_by (records_then rest ended) bytes place.next)
unfolding records_then
records_turn bytes left rest at e = rw e (record-then bytes at (records_then rest ended))
