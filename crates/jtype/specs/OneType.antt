-- One type of a strict descriptor (document 01, "Descriptors"): what stands at a place of a text where a type is due.
-- A text is read from its left, so the first refusal that is met is the answer.
-- The bytes: 40 `(`, 41 `)`, 59 `;`, 76 `L`, 86 `V`, 91 `[`.
-- Assumes nothing.
use Rattle.std.specs.Prelude.{ℕ, ◌+◌, ◌-◌, List, [], ◌∷◌, eqb, ltb, drop, Option, Some, None, Result, Ok, Err}
use Rattle.basics.specs.Choice.{pick}
use Rattle.bytesearch.specs.Search.{first_in, first_from, run}
use Rattle.jletter.specs.Letter.{is_base}
use Rattle.refusal.specs.declared.Refusal.{Refusal}
use Rattle.refusal.specs.declared.Refusal.TheVariants.{UnexpectedEnd, TooManyDimensions, EmptyClassName}
use Rattle.refusal.specs.declared.Refusal.TheVariants.{MissingSemicolon, CloseAfterBracket, ArrayOfVoid, Unrecognised}
use Rattle.jtype.specs.declared.TypeRecord.{TypeRecord}

-- what stands where a type is due: a type, and the place after it; or a `)`, which ends the parameters; or a refusal
abbrev pub Next : Type 0
Next = Result (Option (TypeRecord × ℕ)) Refusal

-- how many `[` a text begins with
abbrev pub brackets : List ℕ → ℕ
brackets text = run 91 text

-- the place of the first `;` of a text whose first byte stands at the place given
abbrev pub semicolon_in : List ℕ → ℕ → Option ℕ
semicolon_in text at = first_in 59 text at

-- the place of the first `;` at or after a place
abbrev pub semicolon_from : List ℕ → ℕ → Option ℕ
semicolon_from text from = first_from 59 text from

-- "base letter, dimensions, name start in the descriptor, name length"
abbrev pub type_record : ℕ → ℕ → ℕ → ℕ → TypeRecord
type_record letter depth start size = record { letter = letter; dimensions = depth; start = start; size = size }

-- "(0 and 0 without a name)"
unfoldable pub unnamed_type : ℕ → ℕ → ℕ → Next
unnamed_type letter depth next = Ok (Some (type_record letter depth 0 0, next))

-- a class type whose name starts at a place, with the semicolon found from there: "5 empty class name, 6 no semicolon"
unfoldable pub class_type : ℕ → ℕ → Option ℕ → Next
class_type depth from None = Err MissingSemicolon
class_type depth from (Some end) =
    pick (eqb end from) (Err EmptyClassName) (Ok (Some (type_record 76 depth from (end - from), end + 1)))

-- what stands behind brackets, its first byte at the place given: "1 unexpected end", "7 `)` after `[`, 8 array of void,
-- 9 unrecognised"
unfoldable pub element : ℕ → List ℕ → ℕ → Next
element depth [] at = Err UnexpectedEnd
element depth (x ∷ rest) at =
    pick (eqb x 76) (class_type depth (at + 1) (semicolon_in rest (at + 1)))
    (pick (eqb x 41) (pick (eqb depth 0) (Ok None) (Err CloseAfterBracket))
    (pick (eqb x 86) (pick (ltb 0 depth) (Err ArrayOfVoid) (unnamed_type x depth (at + 1)))
    (pick (is_base x) (unnamed_type x depth (at + 1)) (Err Unrecognised))))

-- the type that a text begins with, its first byte at the place given: "2 over 255 dimensions"
unfoldable pub type_in : List ℕ → ℕ → Next
type_in text at =
    pick (ltb 255 (brackets text))
    (Err TooManyDimensions)
    (element (brackets text) (drop (brackets text) text) (at + brackets text))

-- the type at a place of a text
unfoldable pub type_at : List ℕ → ℕ → Next
type_at text at = type_in (drop at text) at
