-- Descriptors (JVMS 4.3) as trees, and how each is written. A descriptor is well formed where it is written from a well-formed
-- tree. Written from JVMS alone, no reader in mind.
-- A class name here is any run of bytes that is not empty and holds no `;`: JVMS 4.2 forbids more.
-- Assumes nothing.
use Rattle.std.specs.Prelude.{ℕ, suc, ◌+◌, ◌≤◌, ◌≡◌, List, [], ◌∷◌, ◌++◌}

-- "BaseType: one of B C D F I J S Z"
pub data BaseType : Type 0 where
  byte char double float int long short boolean : BaseType

-- "FieldType: BaseType, ClassType, ArrayType"; "ArrayType: [ ComponentType", and a component is a field type
pub data FieldType : Type 0 where
  base : BaseType → FieldType
  class : List ℕ → FieldType
  array : FieldType → FieldType

-- "ReturnDescriptor: FieldType, VoidDescriptor"
pub data ReturnType : Type 0 where
  void : ReturnType
  typed : FieldType → ReturnType

-- "MethodDescriptor: ( {ParameterDescriptor} ) ReturnDescriptor"
pub record MethodType : Type 0 where
  pub parameters : List FieldType
  pub result : ReturnType

-- ---- how a tree is written

abbrev pub letter : BaseType → ℕ
letter byte = 66
letter char = 67
letter double = 68
letter float = 70
letter int = 73
letter long = 74
letter short = 83
letter boolean = 90

-- "ClassType: L ClassName ;"
unfoldable pub render : FieldType → List ℕ
render (base b) = letter b ∷ []
render (class name) = 76 ∷ (name ++ (59 ∷ []))
render (array t) = 91 ∷ render t

-- "VoidDescriptor: V"
unfoldable pub render_return : ReturnType → List ℕ
render_return void = 86 ∷ []
render_return (typed t) = render t

unfoldable pub render_all : List FieldType → List ℕ
render_all [] = []
render_all (t ∷ ts) = render t ++ render_all ts

unfoldable pub render_method : MethodType → List ℕ
render_method m = 40 ∷ (render_all m.parameters ++ (41 ∷ render_return m.result))

-- ---- which trees are well formed

abbrev pub dimensions : FieldType → ℕ
dimensions (base b) = 0
dimensions (class name) = 0
dimensions (array t) = suc (dimensions t)

abbrev pub NoSemicolon : List ℕ → Type 0
NoSemicolon [] = Unit
NoSemicolon (x ∷ xs) = (x ≡ 59 → ⊥) × NoSemicolon xs

abbrev pub ClassName : List ℕ → Type 0
ClassName [] = ⊥
ClassName (x ∷ xs) = NoSemicolon (x ∷ xs)

abbrev pub Named : FieldType → Type 0
Named (base b) = Unit
Named (class name) = ClassName name
Named (array t) = Named t

-- "it represents a type with 255 or fewer dimensions"
pub record WellFormed (t : FieldType) : Type 0 where
  pub named : Named t
  pub shallow : dimensions t ≤ 255

abbrev pub AllWellFormed : List FieldType → Type 0
AllWellFormed [] = Unit
AllWellFormed (t ∷ ts) = WellFormed t × AllWellFormed ts

abbrev pub WellFormedReturn : ReturnType → Type 0
WellFormedReturn void = Unit
WellFormedReturn (typed t) = WellFormed t

pub record WellFormedMethod (m : MethodType) : Type 0 where
  pub parameters : AllWellFormed m.parameters
  pub result : WellFormedReturn m.result

-- ---- slots: "a parameter of type long or double contributes two units .. and any other one unit" (JVMS 4.3.3)

abbrev pub base_slots : BaseType → ℕ
base_slots byte = 1
base_slots char = 1
base_slots double = 2
base_slots float = 1
base_slots int = 1
base_slots long = 2
base_slots short = 1
base_slots boolean = 1

abbrev pub slots : FieldType → ℕ
slots (base b) = base_slots b
slots (class name) = 1
slots (array t) = 1

abbrev pub slots_all : List FieldType → ℕ
slots_all [] = 0
slots_all (t ∷ ts) = slots t + slots_all ts

abbrev pub return_slots : ReturnType → ℕ
return_slots void = 0
return_slots (typed t) = slots t
