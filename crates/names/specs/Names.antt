-- Names as the messages print them (document 01, "Action and cause").
-- Assumes nothing.
use Rattle.std.specs.Prelude.{ℕ, zero, suc, ◌-◌, List, [], ◌∷◌, ◌++◌, eqb, take, drop, get_or, Option, Some, None}
use Rattle.basics.specs.Ascii.{ascii}
use Rattle.basics.specs.Choice.{pick}
use Rattle.classname.specs.ClassName.{class_name}
use Rattle.bytesearch.specs.Search.{first_from}
use Rattle.fieldtype.specs.Types.{Types, over, unread, one, types_of}
use Rattle.fieldtype.specs.declared.FieldType.{FieldType}

-- ---- types

-- in the order of their letters B C D F I J S Z
unfoldable pub base_names : List (List ℕ)
base_names =
    ascii "byte" ∷ ascii "char" ∷ ascii "double" ∷ ascii "float" ∷ ascii "int" ∷ ascii "long" ∷ ascii "short" ∷ ascii "boolean" ∷ []

abbrev pub name_at : Option ℕ → List ℕ
name_at (Some k) = get_or base_names k []
name_at None = []

unfoldable pub base_name : ℕ → List ℕ
base_name letter = name_at (first_from letter (ascii "BCDFIJSZ") 0)

-- a base type or a class, whose name is a part of the descriptor
unfoldable pub element_name : List ℕ → FieldType → List ℕ
element_name text t =
    pick (eqb t.letter 76) (class_name (take (t.to - t.from) (drop t.from text))) (base_name t.letter)

-- "An array type adds `[]` per dimension."
unfoldable pub bracket_pairs : ℕ → List ℕ
bracket_pairs zero = []
bracket_pairs (suc n) = 91 ∷ 93 ∷ bracket_pairs n

unfoldable pub type_name : List ℕ → FieldType → List ℕ
type_name text t = element_name text t ++ bracket_pairs t.dims

-- ---- parameter lists: "(P, P)"

unfoldable pub type_names : List ℕ → Types → List (List ℕ)
type_names text (over end) = []
type_names text (unread at) = []
type_names text (one t rest) = type_name text t ∷ type_names text rest

-- each name behind a comma
unfoldable pub commaed : List (List ℕ) → List ℕ
commaed [] = []
commaed (name ∷ names) = ascii ", " ++ (name ++ commaed names)

unfoldable pub joined : List (List ℕ) → List ℕ
joined [] = []
joined (name ∷ names) = name ++ commaed names

-- the names of a descriptor's parameters
unfoldable pub parameter_names : List ℕ → List ℕ
parameter_names text = joined (type_names text (types_of text))
