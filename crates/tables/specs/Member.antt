-- Members (document 01, "The case").
-- Assumes nothing.
use Rattle.std.specs.Prelude.{ℕ, ◌≤◌, ◌<◌, List, ltb, leb, Result, Ok, Err}
use Rattle.basics.specs.Choice.{pick}
use Rattle.number.specs.Number.{greatest, number_at, then_number}
use Rattle.tables.specs.Layout.{three_texts, ended, run_by, then_run}
use Rattle.tables.specs.declared.MemberPlace.{MemberPlace}

-- the member at a place, whose pool index is above the last, or the place of its first wrong item
unfoldable pub member_at : List ℕ → ℕ → ℕ → Result MemberPlace ℕ
member_at bytes last at =
    then_number (number_at greatest bytes at) (Err at) (λ index kind_at.
    pick (ltb last index)
    (then_number (number_at greatest bytes kind_at) (Err kind_at) (λ kind texts.
    pick (leb kind 1)
    (then_run (run_by (three_texts ended) bytes texts) (λ place. Err place) (λ next.
    Ok (record { index = index; kind = kind; texts = texts; next = next })))
    (Err kind_at)))
    (Err at))

-- what follows a member, or the answer at its first wrong item
abbrev pub then_member : {A : Type 0} → Result MemberPlace ℕ → (ℕ → A) → (MemberPlace → A) → A
then_member (Ok place) wrong following = following place
then_member (Err place) wrong following = wrong place

-- a member that is read lies in the bytes
abbrev pub member_within : ℕ → ℕ → Result MemberPlace ℕ → Type 0
member_within size at (Ok place) = (at < place.texts) × (place.texts ≤ place.next) × (place.next ≤ size)
member_within size at (Err place) = Unit {0}
