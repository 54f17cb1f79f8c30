-- One type of a descriptor, and types one after the other (document 01, "Descriptors", lenient).
-- Assumes nothing.
use Rattle.std.specs.Prelude.{ℕ, zero, suc, ◌+◌, ◌≤◌, ◌<◌, Bool, true, false, List, eqb, leb, length, drop, Option, Some, None}
use Rattle.basics.specs.Ascii.{ascii}
use Rattle.basics.specs.Bytes.{byte_at}
use Rattle.basics.specs.Choice.{pick, both}
use Rattle.bytesearch.specs.Search.{first_from, run}
use Rattle.fieldtype.specs.declared.FieldType.{FieldType}

-- the opening brackets that a text starts with: "Any number of dimensions"
abbrev pub brackets : List ℕ → ℕ
brackets xs = run 91 xs

-- a class, named up to a semicolon
abbrev pub class_type : ℕ → ℕ → Option ℕ → Option FieldType
class_type dims from (Some to) = Some (record { letter = 76; dims = dims; from = from; to = to; next = to + 1 })
class_type dims from None = None

-- a base type, where the letter is one of the eight
abbrev pub base_type : ℕ → ℕ → ℕ → Option ℕ → Option FieldType
base_type letter dims from (Some k) = Some (record { letter = letter; dims = dims; from = from; to = from; next = from })
base_type letter dims from None = None

-- behind the brackets: "`L;` is an empty name; `V` as a parameter fails"
unfoldable pub type_behind : List ℕ → ℕ → ℕ → Option FieldType
type_behind text dims base =
    pick (leb (length text) base) None
    (pick (eqb (byte_at text base) 76) (class_type dims (base + 1) (first_from 59 text (base + 1)))
    (base_type (byte_at text base) dims (base + 1) (first_from (byte_at text base) (ascii "BCDFIJSZ") 0)))

-- the type at an index
unfoldable pub field_type_at : List ℕ → ℕ → Option FieldType
field_type_at text at = type_behind text (brackets (drop at text)) (at + brackets (drop at text))

-- a type that is read lies in the text, and takes at least a byte
pub record Inside (t : FieldType) (text : List ℕ) (at : ℕ) : Type 0 where
  pub onward : at + t.dims < t.next
  pub within : t.next ≤ length text
  pub named : t.from ≤ t.to
  pub ended : t.to ≤ length text

abbrev pub taken_inside : Option FieldType → List ℕ → ℕ → Type 0
taken_inside (Some t) text at = Inside t text at
taken_inside None text at = Unit

-- J or D
abbrev pub is_wide : ℕ → Bool
is_wide letter = pick (eqb letter 74) true (eqb letter 68)

-- long and double have two slots, an array of them one
unfoldable pub type_slots : FieldType → ℕ
type_slots t = pick (both (eqb t.dims 0) (is_wide t.letter)) 2 1

-- types one after the other: up to `)` or the end of the text, or up to one that can't be read
pub data Types : Type 0 where
  over : ℕ → Types
  unread : ℕ → Types
  one : FieldType → Types → Types

abbrev pub types_step : Bool → Option FieldType → ℕ → (ℕ → Types) → Types
types_step true taken at following = over at
types_step false (Some t) at following = one t (following t.next)
types_step false None at following = unread at

-- "types until `)` or the end"
abbrev pub list_over : List ℕ → ℕ → Bool
list_over text at = pick (leb (length text) at) true (eqb (byte_at text at) 41)

-- from an index on, at most k types
unfoldable pub types_from : List ℕ → ℕ → ℕ → Types
types_from text zero at = over at
types_from text (suc k) at = types_step (list_over text at) (field_type_at text at) at (λ next. types_from text k next)

-- a type takes a byte at least, so a text has at most as many types as bytes
unfoldable pub types_at : List ℕ → ℕ → Types
types_at text at = types_from text (length text) at

-- behind the first byte
unfoldable pub types_of : List ℕ → Types
types_of text = types_at text 1
