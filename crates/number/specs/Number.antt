-- A number of a case (document 01, "The case").
-- Assumes nothing.
use Rattle.std.specs.Prelude.{ℕ, zero, suc, ◌+◌, ◌-◌, ◌*◌, ◌/◌, ◌%◌, ◌≤◌, ◌<◌, Bool, true, false, List, [], ◌∷◌, eqb, ltb, leb, drop, Option, Some, None}
use Rattle.basics.specs.Choice.{pick}

-- "A number is 0 to 65,535"
abbrev pub greatest : ℕ
greatest = 65535

-- ---- the bytes of a number

-- one group where it holds the number, else the low group with its top bit set, and what is to follow
abbrev pub group_or_more : Bool → ℕ → (ℕ → List ℕ) → List ℕ
group_or_more true v following = v ∷ []
group_or_more false v following = (128 + v % 128) ∷ following (v / 128)

-- in at most k groups more
unfoldable pub groups_of : ℕ → ℕ → List ℕ
groups_of zero v = v ∷ []
groups_of (suc k) v = group_or_more (ltb v 128) v (λ high. groups_of k high)

-- "seven bits to a byte, low group first, top bit set when another byte follows, in its fewest bytes". Dividing by 128
-- makes a number less, so v groups are enough for v.
unfoldable pub number_bytes : ℕ → List ℕ
number_bytes v = groups_of v v

-- ---- reading a number

-- a low group before a number: in the fewest bytes only where that number is above 0
abbrev pub further : ℕ → Option (ℕ × ℕ) → Option (ℕ × ℕ)
further low (Some (high, next)) = pick (eqb high 0) None (Some (low + 128 * high, next))
further low None = None

-- a byte below 128 ends the number, any other goes before what follows
abbrev pub grouped : Bool → ℕ → ℕ → (ℕ → Option (ℕ × ℕ)) → Option (ℕ × ℕ)
grouped true group at following = Some (group, at + 1)
grouped false group at following = further (group - 128) (following (at + 1))

-- the number that a run of bytes starts with, whose first byte has this place
unfoldable pub number_from : List ℕ → ℕ → Option (ℕ × ℕ)
number_from [] at = None
number_from (group ∷ rest) at = grouped (ltb group 128) group at (λ next. number_from rest next)

-- a number at most the limit
abbrev pub limited : ℕ → Option (ℕ × ℕ) → Option (ℕ × ℕ)
limited limit (Some (v, next)) = pick (leb v limit) (Some (v, next)) None
limited limit None = None

-- the number at a place, at most the limit
unfoldable pub number_at : ℕ → List ℕ → ℕ → Option (ℕ × ℕ)
number_at limit bytes at = limited limit (number_from (drop at bytes) at)

-- what follows a number, or the answer where there is none
abbrev pub then_number : {A : Type 0} → Option (ℕ × ℕ) → A → (ℕ → ℕ → A) → A
then_number (Some (v, next)) otherwise following = following v next
then_number None otherwise following = otherwise

-- a number that is read is at most the limit, and lies in the bytes
abbrev pub number_within : ℕ → ℕ → ℕ → Option (ℕ × ℕ) → Type 0
number_within limit size at (Some (v, next)) = (v ≤ limit) × (at < next) × (next ≤ size)
number_within limit size at None = Unit {0}

-- a number behind a first group: the greatest has 511 there
abbrev pub rest_within : Option (ℕ × ℕ) → Type 0
rest_within (Some (v, next)) = v ≤ 511
rest_within None = Unit {0}
