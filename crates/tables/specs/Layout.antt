-- The layout of a case (document 01, "The case"): which item is due, number or text, in which order and by which rule; and
-- how bytes are read by a layout.
-- Assumes nothing.
use Rattle.std.specs.Prelude.{ℕ, zero, suc, ◌+◌, ◌≤◌, Bool, true, List, ltb, leb, length, Result, Ok, Err}
use Rattle.basics.specs.Choice.{pick}
use Rattle.number.specs.Number.{greatest, number_at, then_number}
use Rattle.items.specs.Text.{text_at, then_text}

-- what is due, and what is due after it: a number that passes a test, or a text, whose length decides what is due next; the
-- bytes may end here, and else what follows is due; or nothing more
pub data Layout : Type 0 where
  number : (ℕ → Bool) → (ℕ → Layout) → Layout
  sized : (ℕ → Layout) → Layout
  may_end : Layout → Layout
  ended : Layout

-- a text whose length decides nothing
abbrev pub text : Layout → Layout
text following = sized (λ size. following)

-- a number with no rule of its own
abbrev pub any : ℕ → Bool
any v = true

-- "class text, name text, descriptor text"
abbrev pub three_texts : Layout → Layout
three_texts following = text (text (text following))

-- "A member: pool index, kind (0 field, 1 method), class text, name text, descriptor text." Its pool index is above the last.
abbrev pub member_then : ℕ → (ℕ → Layout) → Layout
member_then last following =
    number (λ index. ltb last index) (λ index. number (λ kind. leb kind 1) (λ kind. three_texts (following index)))

-- so many members: "Pool indexes are above 0 and strictly rise."
unfoldable pub members_then : ℕ → ℕ → Layout → Layout
members_then zero last following = following
members_then (suc count) last following = member_then last (λ index. members_then count index following)

-- "A local record: start, length, slot, name text."
abbrev pub record_then : Layout → Layout
record_then following = number any (λ start. number any (λ size. number any (λ slot. text following)))

-- so many local records
unfoldable pub records_then : ℕ → Layout → Layout
records_then zero following = following
records_then (suc count) following = record_then (records_then count following)

-- "member count, members, record count, local records"
unfoldable pub tables_then : Layout → Layout
tables_then following = number any (λ members. members_then members 0 (number any (λ records. records_then records following)))

-- "A case holds, in order: access flags, faulting index, code text, name signature text, .., and nothing after."
unfoldable pub case_layout : Layout
case_layout = number any (λ flags. number any (λ fault. text (text (tables_then ended))))

-- ---- reading by a layout

-- from a place on: the place after the last item, or the place of the first wrong one
unfoldable pub run_by : Layout → List ℕ → ℕ → Result ℕ ℕ
run_by ended bytes at = Ok at
run_by (number right following) bytes at =
    then_number (number_at greatest bytes at) (Err at) (λ v next. pick (right v) (run_by (following v) bytes next) (Err at))
run_by (sized following) bytes at =
    then_text (text_at bytes at) (Err at) (λ start size. run_by (following size) bytes (start + size))
run_by (may_end following) bytes at = pick (ltb at (length bytes)) (run_by following bytes at) (Ok at)

-- what follows a run, or the answer at its first wrong item
abbrev pub then_run : {A : Type 0} → Result ℕ ℕ → (ℕ → A) → (ℕ → A) → A
then_run (Ok end) wrong following = following end
then_run (Err place) wrong following = wrong place

-- a run that starts in the bytes ends in them
abbrev pub run_within : ℕ → ℕ → Result ℕ ℕ → Type 0
run_within size at (Ok end) = (at ≤ end) × (at ≤ size → end ≤ size)
run_within size at (Err place) = Unit {0}
