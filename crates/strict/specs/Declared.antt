-- The strict readers, declared (document 01, "Descriptors", strict): which texts are accepted, as JVMS 4.3's grammar writes
-- them; what is wrong with every other text, at the first place from the left where it goes wrong; and what an answer means.
-- The statements at the end are proved in proofs/ of this crate.
-- The bytes: 40 `(`, 41 `)`, 59 `;`, 76 `L`, 86 `V`, 91 `[`.
-- Assumes nothing.
use Rattle.std.specs.Prelude.{ℕ, ◌*◌, ◌≤◌, ◌<◌, ◌≡◌, List, [], ◌∷◌, ◌++◌, ◌⊎◌, length, replicate, Ok, Err}
use Rattle.basics.specs.Parts.{overlaid}
use Rattle.jvms.specs.Descriptor.{BaseType, FieldType, ReturnType, MethodType}
use Rattle.jvms.specs.Descriptor.{letter, render, render_all, render_return, render_method}
use Rattle.jvms.specs.Descriptor.{NoSemicolon, WellFormed, AllWellFormed, WellFormedReturn, WellFormedMethod}
use Rattle.refusal.specs.Refusal.{number_of}
use Rattle.refusal.specs.declared.Refusal.{Refusal}
use Rattle.refusal.specs.declared.Refusal.TheVariants.{UnexpectedEnd, TooManyDimensions, LoneClose, TrailingAfterType}
use Rattle.refusal.specs.declared.Refusal.TheVariants.{EmptyClassName, MissingSemicolon, CloseAfterBracket, ArrayOfVoid}
use Rattle.refusal.specs.declared.Refusal.TheVariants.{Unrecognised, MissingOpening, VoidParameter, MissingReturn}
use Rattle.refusal.specs.declared.Refusal.TheVariants.{TrailingAfterMethod, NoRoom}
use Rattle.jtype.specs.declared.TypeRecord.{TypeRecord}
use Rattle.judging.specs.Judged.{Answer}
use Rattle.judging.specs.Reading.{Reading, types, refused, type_reading, method_reading}
use Rattle.jdescriptor.specs.Answer.{numbers_of, answer, written, IsTypes}
use Rattle.strict.specs.Records.{method_records, return_record, spelled, spelled_method}

-- ---- what is wrong where a type is due

-- so many `[`, and what follows them
abbrev pub bracketed : ℕ → List ℕ → List ℕ
bracketed depth rest = replicate depth 91 ++ rest

-- a byte that begins no type and is neither `V` nor `)`
pub record Strange (x : ℕ) : Type 0 where
  pub bracket : x ≡ 91 → ⊥
  pub class : x ≡ 76 → ⊥
  pub close : x ≡ 41 → ⊥
  pub void : x ≡ 86 → ⊥
  pub base : (b : BaseType) → x ≡ letter b → ⊥

-- the text from a place on where a type is due, and the refusal for what stands there
pub data WrongType (rest : List ℕ) : Refusal → Type 0 where
  -- "1 unexpected end"
  ended : (depth : ℕ) → depth ≤ 255 → rest ≡ bracketed depth [] → WrongType rest UnexpectedEnd
  -- "2 over 255 dimensions"
  deep : (more : List ℕ) → rest ≡ bracketed 256 more → WrongType rest TooManyDimensions
  -- "5 empty class name"
  nameless : (depth : ℕ) (more : List ℕ) → depth ≤ 255 → rest ≡ bracketed depth (76 ∷ (59 ∷ more)) → WrongType rest EmptyClassName
  -- "6 no semicolon"
  unended :
      (depth : ℕ) (name : List ℕ) → depth ≤ 255 → NoSemicolon name → rest ≡ bracketed depth (76 ∷ name) →
      WrongType rest MissingSemicolon
  -- "7 `)` after `[`"
  closed :
      (depth : ℕ) (more : List ℕ) → 0 < depth → depth ≤ 255 → rest ≡ bracketed depth (41 ∷ more) →
      WrongType rest CloseAfterBracket
  -- "8 array of void"
  voids : (depth : ℕ) (more : List ℕ) → 0 < depth → depth ≤ 255 → rest ≡ bracketed depth (86 ∷ more) → WrongType rest ArrayOfVoid
  -- "9 unrecognised"
  strange :
      (depth x : ℕ) (more : List ℕ) → depth ≤ 255 → Strange x → rest ≡ bracketed depth (x ∷ more) →
      WrongType rest Unrecognised

-- ---- what is wrong with a whole text

-- A text that is to be one type, and the refusal for the first place from the left where it goes wrong. What stands before
-- that place was read whole: nothing, or a type.
pub data WrongAlone (text : List ℕ) : Refusal → Type 0 where
  wrong_type : {r : Refusal} → WrongType text r → WrongAlone text r
  -- "3 lone `)` as a type"
  lone : (more : List ℕ) → text ≡ 41 ∷ more → WrongAlone text LoneClose
  -- "4 trailing after a type"
  type_trails :
      (t : ReturnType) (x : ℕ) (more : List ℕ) → WellFormedReturn t → text ≡ render_return t ++ (x ∷ more) →
      WrongAlone text TrailingAfterType

abbrev pub Unopened : List ℕ → Type 0
Unopened [] = Unit {0}
Unopened (x ∷ more) = x ≡ 40 → ⊥

-- A text that is to be a method, likewise. What was read whole is nothing; or `(` and parameters; or these, `)` and perhaps
-- the return.
pub data WrongMethod (text : List ℕ) : Refusal → Type 0 where
  -- "10 no opening `(`"
  unopened : Unopened text → WrongMethod text MissingOpening
  wrong_parameter :
      {r : Refusal} (ts : List FieldType) (rest : List ℕ) → AllWellFormed ts → text ≡ 40 ∷ (render_all ts ++ rest) →
      WrongType rest r → WrongMethod text r
  -- "11 void parameter"
  void_parameter :
      (ts : List FieldType) (more : List ℕ) → AllWellFormed ts → text ≡ 40 ∷ (render_all ts ++ (86 ∷ more)) →
      WrongMethod text VoidParameter
  wrong_return :
      {r : Refusal} (ts : List FieldType) (rest : List ℕ) → AllWellFormed ts → text ≡ 40 ∷ (render_all ts ++ (41 ∷ rest)) →
      WrongType rest r → WrongMethod text r
  -- "12 missing return (a second `)`)"
  second_close :
      (ts : List FieldType) (more : List ℕ) → AllWellFormed ts → text ≡ 40 ∷ (render_all ts ++ (41 ∷ (41 ∷ more))) →
      WrongMethod text MissingReturn
  -- "13 trailing after a method"
  method_trails :
      (m : MethodType) (x : ℕ) (more : List ℕ) → WellFormedMethod m → text ≡ render_method m ++ (x ∷ more) →
      WrongMethod text TrailingAfterMethod

-- ---- what an answer means

-- JVMS 4.3 writes the text from this tree, and these are the tree's records
pub record MethodText (text : List ℕ) (ts : List TypeRecord) : Type 0 where
  pub tree : MethodType
  pub well_formed : WellFormedMethod tree
  pub is_written : text ≡ render_method tree
  pub records : ts ≡ method_records tree

-- A return descriptor is a field descriptor or `V`: `V` alone as a type is the listed difference.
pub record TypeText (text : List ℕ) (ts : List TypeRecord) : Type 0 where
  pub tree : ReturnType
  pub well_formed : WellFormedReturn tree
  pub is_written : text ≡ render_return tree
  pub records : ts ≡ return_record 0 tree ∷ []

abbrev pub MethodMeans : List ℕ → Reading → Type 0
MethodMeans text (types ts) = MethodText text ts
MethodMeans text (refused r) = WrongMethod text r

abbrev pub TypeMeans : List ℕ → Reading → Type 0
TypeMeans text (types ts) = TypeText text ts
TypeMeans text (refused r) = WrongAlone text r

-- an answer, and the lent buffer at the end: "answers 0 with the count of types; 14 (added) if they don't fit, after 1 to 13.
-- A refusal leaves it unchanged."
pub data Outcome (Means : Reading → Type 0) (buffer : List ℕ) : Answer → List ℕ → Type 0 where
  fits :
      (ts : List TypeRecord) → Means (types ts) → 4 * length ts ≤ length buffer →
      Outcome Means buffer (Ok (length ts)) (overlaid 0 (numbers_of ts) buffer)
  too_small :
      (ts : List TypeRecord) → Means (types ts) → length buffer < 4 * length ts → Outcome Means buffer (Err NoRoom) buffer
  refuses : (r : Refusal) → Means (refused r) → Outcome Means buffer (Err r) buffer

-- ---- the statements

-- What a reader answers and writes means what it says, and no other answer and buffer do. With `MethodMeans` this is: accepted
-- exactly where the grammar writes the text, with the tree's records; refused with the number of the first wrong place.
pub record Declared (Means : List ℕ → Reading → Type 0) (reading : List ℕ → Reading) : Type 0 where
  pub means :
      (text buffer : List ℕ) →
      Outcome (Means text) buffer (answer (reading text) (length buffer)) (written (reading text) buffer)
  pub only :
      (text buffer : List ℕ) (a : Answer) (end : List ℕ) → Outcome (Means text) buffer a end →
      (a ≡ answer (reading text) (length buffer)) × (end ≡ written (reading text) buffer)

abbrev pub MethodDeclared : Type 0
MethodDeclared = Declared MethodMeans method_reading

abbrev pub TypeDeclared : Type 0
TypeDeclared = Declared TypeMeans type_reading

-- accepted exactly where the text is the rendering of a well-formed tree
pub record ExactlyTheGrammar : Type 0 where
  pub accepted : (text : List ℕ) → IsTypes (method_reading text) → (m : MethodType) × WellFormedMethod m × (text ≡ render_method m)
  pub taken : (m : MethodType) → WellFormedMethod m → method_reading (render_method m) ≡ types (method_records m)

-- a type is accepted exactly where it is the rendering of a well-formed tree, or `V` alone
pub record ExactlyAType : Type 0 where
  pub accepted :
      (text : List ℕ) → IsTypes (type_reading text) →
      (text ≡ 86 ∷ []) ⊎ ((t : FieldType) × WellFormed t × (text ≡ render t))
  pub taken : (t : FieldType) → WellFormed t → IsTypes (type_reading (render t))
  pub taken_void : IsTypes (type_reading (86 ∷ []))

-- JVMS 4.3 writes a text from one tree only, so "the tree" of an accepted text is one
pub record OneTree : Type 0 where
  pub of_method : (text : List ℕ) (ts us : List TypeRecord) (a : MethodText text ts) (b : MethodText text us) → a.tree ≡ b.tree
  pub of_type : (text : List ℕ) (ts us : List TypeRecord) (a : TypeText text ts) (b : TypeText text us) → a.tree ≡ b.tree

-- at most one number is declared for a text
pub record OneNumber : Type 0 where
  pub of_method : (text : List ℕ) (r q : Refusal) → WrongMethod text r → WrongMethod text q → number_of r ≡ number_of q
  pub of_type : (text : List ℕ) (r q : Refusal) → WrongAlone text r → WrongAlone text q → number_of r ≡ number_of q

-- the records, with the names that they place in the text, give the text back
pub record SpelledBack : Type 0 where
  pub method : (text : List ℕ) (ts : List TypeRecord) → method_reading text ≡ types ts → spelled_method text ts ≡ text
  pub alone : (text : List ℕ) (t : TypeRecord) → type_reading text ≡ types (t ∷ []) → spelled text t ≡ text
