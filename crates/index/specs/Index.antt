-- An index over a member run: where a lookup may begin. It changes nothing of what a lookup finds.
-- Assumes nothing.
use Rattle.std.specs.Prelude.{ℕ, zero, suc, ◌+◌, ◌*◌, ◌/◌, ◌≤◌, ◌<◌, List, ◌≡◌, ltb, leb, length, get_or}
use Rattle.basics.specs.Choice.{pick}
use Rattle.tables.specs.Member.{member_at, then_member}
use Rattle.lookup.specs.Lookup.{member_found}
use Rattle.index.specs.declared.Rest.{Rest}

-- the bucket of a pool index: so many indexes share one
abbrev pub bucket_of : ℕ → ℕ
bucket_of index = index / 64

-- what is left of so many members from a place on, whose indexes are above the last: from the first member on whose bucket is
-- at least this one, or that can't be read
unfoldable pub skipped : List ℕ → ℕ → ℕ → ℕ → ℕ → Rest
skipped bytes bucket zero last at = record { at = at; last = last; left = 0 }
skipped bytes bucket (suc count) last at =
    then_member (member_at bytes last at) (λ wrong. record { at = at; last = last; left = suc count }) (λ place.
    pick (leb bucket (bucket_of place.index))
    (record { at = at; last = last; left = suc count })
    (skipped bytes bucket count place.index place.next))

-- ---- tables: three cells a bucket

abbrev pub entry : List ℕ → ℕ → Rest
entry table bucket =
    record { at = get_or table (3 * bucket) 0; last = get_or table (3 * bucket + 1) 0; left = get_or table (3 * bucket + 2) 0 }

-- the lookup in what is left of a run
abbrev pub found_in : List ℕ → Rest → ℕ → ℕ → List ℕ
found_in members rest index kind = member_found members index kind rest.left rest.last rest.at

-- each bucket that a table has whole holds what is left of the run behind the buckets before it; the cells behind are kept
pub record Tabled (members : List ℕ) (count : ℕ) (before after : List ℕ) : Type 0 where
  pub long : length after ≡ length before
  pub filled : (bucket : ℕ) → 3 * bucket + 2 < length before → entry after bucket ≡ skipped members bucket count 0 0
  pub kept : (cell : ℕ) → length before / 3 * 3 ≤ cell → get_or after cell 0 ≡ get_or before cell 0

abbrev pub TabledOnce : Type 0
TabledOnce =
    (members : List ℕ) (count : ℕ) (before one other : List ℕ) →
    Tabled members count before one → Tabled members count before other → one ≡ other

-- in each bucket that a table has whole, a lookup of an index of that bucket finds what it finds in the whole run
abbrev pub Indexed : List ℕ → ℕ → List ℕ → Type 0
Indexed members count table =
    (index kind : ℕ) → 3 * bucket_of index + 2 < length table →
    found_in members (entry table (bucket_of index)) index kind ≡ member_found members index kind count 0 0

-- the lookup by a table: in the entry of the index's bucket where the table has it, else in the whole run
unfoldable pub found_by : List ℕ → ℕ → List ℕ → ℕ → ℕ → List ℕ
found_by members count table index kind =
    pick (ltb (bucket_of index) (length table / 3))
    (found_in members (entry table (bucket_of index)) index kind)
    (member_found members index kind count 0 0)
