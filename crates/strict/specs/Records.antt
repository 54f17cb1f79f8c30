-- The records of a grammar tree (document 01: "four numbers a type, in order, the return last .. base letter, dimensions,
-- name start in the descriptor, name length (0 and 0 without a name)"), and the text that records give back.
-- The bytes: 40 `(`, 41 `)`, 59 `;`, 76 `L`, 86 `V`, 91 `[`.
-- Assumes nothing.
use Rattle.std.specs.Prelude.{ℕ, ◌+◌, List, [], ◌∷◌, ◌++◌, eqb, length, take, drop, replicate}
use Rattle.basics.specs.Choice.{pick}
use Rattle.jvms.specs.Descriptor.{FieldType, base, class, array, ReturnType, void, typed, MethodType}
use Rattle.jvms.specs.Descriptor.{letter, render, render_all, dimensions}
use Rattle.jtype.specs.OneType.{type_record}
use Rattle.jtype.specs.declared.TypeRecord.{TypeRecord}

abbrev pub letter_of : FieldType → ℕ
letter_of (base b) = letter b
letter_of (class name) = 76
letter_of (array t) = letter_of t

-- where the name stands in a type that is written from a place on: behind its brackets and the `L`
abbrev pub name_start : ℕ → FieldType → ℕ
name_start at (base b) = 0
name_start at (class name) = at + 1
name_start at (array t) = name_start (at + 1) t

abbrev pub name_length : FieldType → ℕ
name_length (base b) = 0
name_length (class name) = length name
name_length (array t) = name_length t

-- the record of a type that is written from a place on
abbrev pub record_of : ℕ → FieldType → TypeRecord
record_of at t = type_record (letter_of t) (dimensions t) (name_start at t) (name_length t)

abbrev pub return_record : ℕ → ReturnType → TypeRecord
return_record at void = type_record 86 0 0 0
return_record at (typed t) = record_of at t

-- the records of types that are written one behind the other from a place on
unfoldable pub records_at : ℕ → List FieldType → List TypeRecord
records_at at [] = []
records_at at (t ∷ ts) = record_of at t ∷ records_at (at + length (render t)) ts

-- `(`, the parameters, `)`, the return
unfoldable pub method_records : MethodType → List TypeRecord
method_records m =
    records_at 1 m.parameters ++ (return_record (1 + length (render_all m.parameters) + 1) m.result ∷ [])

-- ---- the text that records give back, with the names that they place in a text

unfoldable pub name_in : List ℕ → TypeRecord → List ℕ
name_in text t = take t.size (drop t.start text)

unfoldable pub spelled : List ℕ → TypeRecord → List ℕ
spelled text t =
    replicate t.dimensions 91 ++ (t.letter ∷ pick (eqb t.letter 76) (name_in text t ++ (59 ∷ [])) [])

-- a record, and those behind it; the last is the return, which has the `)` before it
unfoldable pub spelled_from : List ℕ → TypeRecord → List TypeRecord → List ℕ
spelled_from text t [] = 41 ∷ spelled text t
spelled_from text t (u ∷ us) = spelled text t ++ spelled_from text u us

unfoldable pub spelled_method : List ℕ → List TypeRecord → List ℕ
spelled_method text [] = []
spelled_method text (t ∷ ts) = 40 ∷ spelled_from text t ts
