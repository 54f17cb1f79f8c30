-- Local records (document 01, "The case"): "A local record: start, length, slot, name text."
-- Assumes nothing.
use Rattle.std.specs.Prelude.{ℕ, zero, suc, ◌+◌, ◌≤◌, ◌<◌, List, [], ◌∷◌, ◌≡◌, Result, Ok, Err}
use Rattle.number.specs.Number.{greatest, number_at, then_number}
use Rattle.items.specs.Text.{text_at, then_text}
use Rattle.tables.specs.declared.RecordPlace.{RecordPlace}

-- the record at a place, or the place of its first wrong item
unfoldable pub record_at : List ℕ → ℕ → Result RecordPlace ℕ
record_at bytes at =
    then_number (number_at greatest bytes at) (Err at) (λ start length_at.
    then_number (number_at greatest bytes length_at) (Err length_at) (λ size slot_at.
    then_number (number_at greatest bytes slot_at) (Err slot_at) (λ slot name_at.
    then_text (text_at bytes name_at) (Err name_at) (λ name n.
    Ok (record { start = start; length = size; slot = slot; name = name; name_length = n; next = name + n })))))

-- what follows a record, or the answer at its first wrong item
abbrev pub then_record : {A : Type 0} → Result RecordPlace ℕ → (ℕ → A) → (RecordPlace → A) → A
then_record (Ok place) wrong following = following place
then_record (Err place) wrong following = wrong place

-- a record that is read has numbers of a case, and its name, which ends where the next record begins, lies in the bytes
abbrev pub record_within : ℕ → ℕ → Result RecordPlace ℕ → Type 0
record_within size at (Ok place) =
    (place.start ≤ greatest) × (place.length ≤ greatest) × (place.slot ≤ greatest) × (place.name_length ≤ greatest)
    × (at < place.name) × (place.next ≡ place.name + place.name_length) × (place.next ≤ size)
record_within size at (Err place) = Unit {0}

-- the records of a run, at most so many, from a place on: "a record that can't be read ends" them
unfoldable pub records_in : List ℕ → ℕ → ℕ → List RecordPlace
records_in bytes zero at = []
records_in bytes (suc count) at =
    then_record (record_at bytes at) (λ place. []) (λ place. place ∷ records_in bytes count place.next)
