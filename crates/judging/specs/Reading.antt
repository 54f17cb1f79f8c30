-- A whole type and a whole method (document 01, "Descriptors", strict): the types that a text is read as, or the first
-- refusal that is met from the left.
-- The bytes: 40 `(`, 86 `V`.
-- Assumes nothing.
use Rattle.std.specs.Prelude.{ℕ, zero, suc, ◌+◌, List, [], ◌∷◌, eqb, ltb, length, get_or, Some, None, Ok, Err}
use Rattle.basics.specs.Choice.{pick}
use Rattle.jtype.specs.OneType.{Next, type_at}
use Rattle.refusal.specs.declared.Refusal.{Refusal}
use Rattle.refusal.specs.declared.Refusal.TheVariants.{UnexpectedEnd, LoneClose, TrailingAfterType, MissingOpening}
use Rattle.refusal.specs.declared.Refusal.TheVariants.{VoidParameter, MissingReturn, TrailingAfterMethod}
use Rattle.jtype.specs.declared.TypeRecord.{TypeRecord}

-- the types in order, the return last; or the refusal
pub data Reading : Type 0 where
  types : List TypeRecord → Reading
  refused : Refusal → Reading

-- with one more type in front
abbrev pub after : TypeRecord → Reading → Reading
after t (types ts) = types (t ∷ ts)
after t (refused r) = refused r

-- one type and then the end of a text of this length; the refusals are those of a `)` and of what trails
abbrev pub last_type : Refusal → Refusal → ℕ → Next → Reading
last_type close trailing size (Ok (Some (t, end))) = pick (ltb end size) (refused trailing) (types (t ∷ []))
last_type close trailing size (Ok None) = refused close
last_type close trailing size (Err r) = refused r

-- "3 lone `)` as a type, 4 trailing after a type"
unfoldable pub type_reading : List ℕ → Reading
type_reading text = last_type LoneClose TrailingAfterType (length text) (type_at text 0)

-- "12 missing return (a second `)`), 13 trailing after a method"
unfoldable pub return_at : List ℕ → ℕ → Reading
return_at text at = last_type MissingReturn TrailingAfterMethod (length text) (type_at text at)

-- one parameter and what follows it, or behind a `)` the return: "11 void parameter"
abbrev pub parameter : Next → (ℕ → Reading) → Reading → Reading
parameter (Ok (Some (t, end))) following result = pick (eqb t.letter 86) (refused VoidParameter) (after t (following end))
parameter (Ok None) following result = result
parameter (Err r) following result = refused r

-- the parameters from a place on, then the return. A type has a byte, so a text of n bytes takes fewer than n turns.
unfoldable pub parameters_at : ℕ → List ℕ → ℕ → Reading
parameters_at zero text at = refused UnexpectedEnd
parameters_at (suc turns) text at = parameter (type_at text at) (parameters_at turns text) (return_at text (at + 1))

-- "10 no opening `(`"
unfoldable pub method_reading : List ℕ → Reading
method_reading text = pick (eqb (get_or text 0 0) 40) (parameters_at (length text) text 1) (refused MissingOpening)
