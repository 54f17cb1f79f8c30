-- The parts of a row.
-- Assumes nothing.
use Rattle.std.specs.Prelude.{ℕ, ◌+◌, ◌-◌, min, Bool, true, false, List, eqb, length, Option, Some, None}
use Rattle.basics.specs.Bytes.{byte_at}
use Rattle.basics.specs.Choice.{pick}
use Rattle.bytesearch.specs.Search.{first_from}
use Rattle.items.specs.Text.{part_at}
use Rattle.text.specs.Writing.{most}

abbrev pub up_to : Option ℕ → List ℕ → ℕ → List ℕ
up_to (Some end) text at = part_at text at (end - at)
up_to None text at = part_at text at (length text)

-- the part of a text from a place to the next such byte, or to the text's end
unfoldable pub part_to : ℕ → List ℕ → ℕ → List ℕ
part_to byte text at = up_to (first_from byte text at) text at

-- the place behind a part and the byte that ends it, or the greatest number
abbrev pub behind : ℕ → List ℕ → ℕ
behind at part = min (at + min (length part + 1) most) most

-- a line is a row: it is not empty and does not start with #
abbrev pub is_row : List ℕ → Bool
is_row line = pick (eqb (length line) 0) false (pick (eqb (byte_at line 0) 35) false true)
