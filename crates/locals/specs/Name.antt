-- The name of a local (document 01, "Action and cause"): "N is the first record with that slot and start <= load index < start +
-- length; else `this` for local 0 of a non-static method (flag 8 clear); else `<parameterK>` when a parameter starts at that
-- slot; else `<localN>`."
-- Assumes nothing.
use Rattle.std.specs.Prelude.{ℕ, ◌+◌, ◌-◌, ◌/◌, ◌%◌, Bool, List, ◌++◌, eqb, take, drop, Option, Some, None}
use Rattle.basics.specs.Ascii.{ascii}
use Rattle.basics.specs.Choice.{pick, both}
use Rattle.tables.specs.LocalRecord.{records_in}
use Rattle.descriptor.specs.Readers.{parameter_at}
use Rattle.bytesearch.specs.Search.{first_from}
use Rattle.text.specs.Decimal.{decimal}
use Rattle.search.specs.Search.{first_match}

-- ---- methods

-- "a non-static method (flag 8 clear)"
unfoldable pub is_instance : ℕ → Bool
is_instance flags = eqb (flags / 8 % 2) 0

-- ---- parameters: "from what follows the first colon of the name signature (none without it)"

abbrev pub parameter_behind : List ℕ → Bool → ℕ → Option ℕ → Option ℕ
parameter_behind signature instance slot (Some colon) = parameter_at (drop (colon + 1) signature) instance slot
parameter_behind signature instance slot None = None

unfoldable pub signature_parameter : List ℕ → Bool → ℕ → Option ℕ
signature_parameter signature instance slot = parameter_behind signature instance slot (first_from 58 signature 0)

-- ---- names

unfoldable pub numbered_name : List ℕ → ℕ → List ℕ
numbered_name word n = word ++ decimal n ++ ascii ">"

-- `<parameterK>` or `<localN>`
abbrev pub parameter_name : Option ℕ → ℕ → List ℕ
parameter_name (Some k) slot = numbered_name (ascii "<parameter") k
parameter_name None slot = numbered_name (ascii "<local") slot

-- without a record
abbrev pub unnamed : List ℕ → Bool → ℕ → List ℕ
unnamed signature instance slot =
    pick (both instance (eqb slot 0)) (ascii "this") (parameter_name (signature_parameter signature instance slot) slot)

-- a record's own name, else `this`, else a parameter's or a local's
abbrev pub name_by : (Option (ℕ × ℕ)) → List ℕ → List ℕ → Bool → ℕ → List ℕ
name_by (Some (from, to)) records signature instance slot = take (to - from) (drop from records)
name_by None records signature instance slot = unnamed signature instance slot

-- the name of a local whose load stands at an index, by so many records
unfoldable pub local_name : List ℕ → ℕ → List ℕ → Bool → ℕ → ℕ → List ℕ
local_name records count signature instance slot load =
    name_by (first_match (records_in records count 0) slot load) records signature instance slot
