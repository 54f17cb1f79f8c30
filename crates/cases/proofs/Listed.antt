-- Going from each local record of a run to the next lists exactly the records of the run.
-- Rests on: what stands is read (Reading).
-- Assumes nothing.
use Rattle.std.specs.Prelude.{Ok}
use Prim.Native.Nat.{ℕ, ◌+◌}
use native.Mathlib.Omega.{arith}
use mathlib.Core.Path.{◌≡◌, refl, sym, ap₂, subst}
use mathlib.Core.List.{List, [], ◌∷◌, ◌++◌, append-nil}
use lib.ListN.{length, length-append}
use Rattle.number.specs.Number.{greatest, number_bytes}
use Rattle.items.specs.Text.{text_bytes}
use Rattle.tables.specs.LocalRecord.{record_at, records_in}
use Rattle.tables.specs.declared.RecordPlace.{RecordPlace}
use Rattle.cases.specs.LaidOut.{Local, record_bytes, records_bytes, RightLocal, RightLocals}
use Rattle.cases.specs.LaidOut as laid
use Rattle.cases.specs.Listed.{local_at, locals_at, RecordsListed}
use Rattle.cases.specs.Standing.{Stands}
use Rattle.cases.proofs.Reading.{first_stands, second_stands, number_reads, text_reads, text_part_is}

module _ (bytes : List ℕ) (at : ℕ) (r : Local) where
  abbrev size_at : ℕ
  size_at = at + length (number_bytes r.start)

  abbrev slot_at : ℕ
  slot_at = size_at + length (number_bytes r.size)

  abbrev name_at : ℕ
  name_at = slot_at + length (number_bytes r.slot)

  -- where the record lies
  abbrev place_of : RecordPlace
  place_of =
      record {
        start = r.start;
        length = r.size;
        slot = r.slot;
        name = name_at + length (number_bytes (length r.name));
        name_length = length r.name;
        next = name_at + length (number_bytes (length r.name)) + length r.name;
      }

  abbrev from_slot : List ℕ
  from_slot = number_bytes r.slot ++ text_bytes r.name

  abbrev from_size : List ℕ
  from_size = number_bytes r.size ++ from_slot

  size_stands : Stands bytes at (record_bytes r) → Stands bytes size_at from_size
  unfolding record_bytes
  size_stands stands = second_stands bytes at (number_bytes r.start) from_size stands

  slot_stands : Stands bytes at (record_bytes r) → Stands bytes slot_at from_slot
  slot_stands stands = second_stands bytes size_at (number_bytes r.size) from_slot (size_stands stands)

  name_stands : Stands bytes at (record_bytes r) → Stands bytes name_at (text_bytes r.name)
  name_stands stands = second_stands bytes slot_at (number_bytes r.slot) (text_bytes r.name) (slot_stands stands)

  -- a record that stands is read
  record_reads : RightLocal r → Stands bytes at (record_bytes r) → record_at bytes at ≡ Ok place_of
  unfolding record_at record_bytes
  record_reads right stands =
      rw (
        number_reads greatest bytes at r.start right.start (first_stands bytes at (number_bytes r.start) from_size stands),
        number_reads greatest bytes size_at r.size right.size
            (first_stands bytes size_at (number_bytes r.size) from_slot (size_stands stands)),
        number_reads greatest bytes slot_at r.slot right.slot
            (first_stands bytes slot_at (number_bytes r.slot) (text_bytes r.name) (slot_stands stands)),
        text_reads bytes name_at r.name right.name (name_stands stands),
      )

  place_ends : place_of.next ≡ at + length (record_bytes r)
  unfolding record_bytes text_bytes
  place_ends =
      omega (
        arith,
        length-append (number_bytes r.start) from_size,
        length-append (number_bytes r.size) from_slot,
        length-append (number_bytes r.slot) (text_bytes r.name),
        length-append (number_bytes (length r.name)) r.name,
      )

  local_is : Stands bytes at (record_bytes r) → local_at bytes place_of ≡ r
  local_is stands = rw (text_part_is bytes name_at r.name (name_stands stands))

listed :
    (bytes : List ℕ) (at : ℕ) (rs : List Local) → RightLocals rs → Stands bytes at (records_bytes rs) →
    locals_at bytes (records_in bytes (length rs) at) ≡ rs
unfolding records_in records_bytes
listed bytes at [] right stands = refl
listed bytes at (r ∷ rs) (laid.RightLocals.more right rest) stands =
    let own = first_stands bytes at (record_bytes r) (records_bytes rs) stands in
    let others = second_stands bytes at (record_bytes r) (records_bytes rs) stands in
    let next = (place_of bytes at r).next in
    rw (record_reads bytes at r right own)
    (ap₂ (λ (x : Local) (xs : List Local). x ∷ xs) (local_is bytes at r own)
    (listed bytes next rs rest
    (subst (λ (n : ℕ). Stands bytes n (records_bytes rs)) (sym (place_ends bytes at r)) others)))

pub records_listed : RecordsListed
records_listed rs right = listed (records_bytes rs) 0 rs right (record { rest = []; is = sym (append-nil (records_bytes rs)) })
