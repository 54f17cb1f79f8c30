-- What the definitions read where the text is written out: behind brackets, a name up to its semicolon, a whole type.
-- Assumes nothing.
use Rattle.std.specs.Prelude.{Some, None, Ok, Err}
use Prim.Native.Nat.{ℕ, zero, suc, ◌+◌, ◌-◌, ◌≤◌}
use native.Mathlib.Nat.{add-zero, zero-add}
use native.Mathlib.Omega.{arith}
use mathlib.Core.Path.{◌≡◌, refl, ◌∙◌, sym, ap}
use mathlib.Core.Bool.{true, false}
use mathlib.Core.List.{List, [], ◌∷◌, ◌++◌, append_assoc}
use lib.ListN.{length, replicate, length-append, length-replicate}
use lib.Seq.{drop_at}
use borrow.Author.Tests.{lt-ltb, le-ltb, eq-eqb, ne_eqb}
use Rattle.jvms.specs.Descriptor.{BaseType, byte, char, double, float, int, long, short, boolean, letter}
use Rattle.jvms.specs.Descriptor.{FieldType, base, class, array, ReturnType, void, typed, render, render_return, dimensions}
use Rattle.jvms.specs.Descriptor.{NoSemicolon, ClassName, Named, WellFormed, WellFormedReturn}
use Rattle.bytesearch.specs.Search.{first_in, run}
use Rattle.jletter.specs.Letter.{is_base}
use Rattle.jtype.specs.OneType.{brackets, semicolon_in, type_record, unnamed_type, class_type, element, type_in}
use Rattle.refusal.specs.declared.Refusal.{Refusal}
use Rattle.refusal.specs.declared.Refusal.TheVariants.{UnexpectedEnd, TooManyDimensions, EmptyClassName, MissingSemicolon, CloseAfterBracket, ArrayOfVoid, Unrecognised}
use Rattle.refusal.specs.declared.Refusal.TheVariants.{LoneClose, TrailingAfterType, MissingOpening, VoidParameter, MissingReturn, TrailingAfterMethod, NoRoom}
use Rattle.strict.specs.Declared.{bracketed, WrongType, ended, deep, nameless, unended, closed, voids, strange}
use Rattle.strict.specs.Records.{letter_of, name_start, name_length, record_of, return_record}

-- ---- behind brackets

brackets_of : (depth : ℕ) (rest : List ℕ) → brackets (bracketed depth rest) ≡ depth + brackets rest
unfolding run
brackets_of zero rest = sym (zero-add (brackets rest))
brackets_of (suc depth) rest = let more = brackets_of depth rest in omega arith

-- the first byte, if there is one, is no `[`
abbrev pub Stops : List ℕ → Type 0
Stops [] = Unit {0}
Stops (x ∷ rest) = x ≡ 91 → ⊥

no_brackets : (rest : List ℕ) → Stops rest → brackets rest ≡ 0
unfolding run
no_brackets [] h = refl
no_brackets (x ∷ rest) h = rw (ne_eqb x 91 h)

behind :
    (depth : ℕ) (rest : List ℕ) (at : ℕ) → depth ≤ 255 → Stops rest →
    type_in (bracketed depth rest) at ≡ element depth rest (at + depth)
unfolding type_in
behind depth rest at few stops =
    let size : brackets (bracketed depth rest) ≡ depth =
    brackets_of depth rest ∙ ap (λ (n : ℕ). depth + n) (no_brackets rest stops) ∙ add-zero depth in
    rw (size, le-ltb 255 depth few, drop_at (replicate depth 91) rest depth (length-replicate depth 91))

-- ---- names

no_semicolon : (name : List ℕ) (at : ℕ) → NoSemicolon name → semicolon_in name at ≡ None
unfolding first_in
no_semicolon [] at h = refl
no_semicolon (x ∷ name) at h = rw (ne_eqb x 59 h.0) (no_semicolon name (at + 1) h.1)

semicolon_behind : (name rest : List ℕ) (at : ℕ) → NoSemicolon name → semicolon_in (name ++ (59 ∷ rest)) at ≡ Some (at + length name)
unfolding first_in
semicolon_behind [] rest at h = rw add-zero
semicolon_behind (x ∷ name) rest at h =
    let far : at + 1 + length name ≡ at + suc (length name) = omega arith in
    rw (ne_eqb x 59 h.0) (semicolon_behind name rest (at + 1) h.1 ∙ ap Some far)

-- ---- base letters

pub base_is : (b : BaseType) → is_base (letter b) ≡ true
unfolding is_base
base_is byte = refl
base_is char = refl
base_is double = refl
base_is float = refl
base_is int = refl
base_is long = refl
base_is short = refl
base_is boolean = refl

pub not_base : (x : ℕ) → ((b : BaseType) → x ≡ letter b → ⊥) → is_base x ≡ false
unfolding is_base
not_base x h =
    rw (
      ne_eqb x 66 (h byte),
      ne_eqb x 67 (h char),
      ne_eqb x 68 (h double),
      ne_eqb x 70 (h float),
      ne_eqb x 73 (h int),
      ne_eqb x 74 (h long),
      ne_eqb x 83 (h short),
      ne_eqb x 90 (h boolean),
    )

-- ---- a well-formed type

base_element :
    (b : BaseType) (rest : List ℕ) (depth at : ℕ) →
    element depth (letter b ∷ rest) at ≡ Ok (Some (type_record (letter b) depth 0 0, at + 1))
unfolding element is_base unnamed_type
base_element byte rest depth at = refl
base_element char rest depth at = refl
base_element double rest depth at = refl
base_element float rest depth at = refl
base_element int rest depth at = refl
base_element long rest depth at = refl
base_element short rest depth at = refl
base_element boolean rest depth at = refl

base_stops : (b : BaseType) → letter b ≡ 91 → ⊥
base_stops byte e = omega arith
base_stops char e = omega arith
base_stops double e = omega arith
base_stops float e = omega arith
base_stops int e = omega arith
base_stops long e = omega arith
base_stops short e = omega arith
base_stops boolean e = omega arith

class_element :
    (name rest : List ℕ) (depth at : ℕ) → ClassName name →
    element depth (76 ∷ (name ++ (59 ∷ rest))) at ≡
    Ok (Some (type_record 76 depth (at + 1) (length name), at + length (render (class name))))
unfolding element class_type render
class_element [] rest depth at h = absurd h
class_element (x ∷ name) rest depth at h =
    let end = at + 1 + suc (length name) in
    let size : end - (at + 1) ≡ suc (length name) = omega arith in
    let some : end ≡ at + 1 → ⊥ = λ z. omega arith in
    let next : end + 1 ≡ at + suc (suc (length (name ++ (59 ∷ [])))) = omega (arith, length-append name (59 ∷ [])) in
    rw (semicolon_behind (x ∷ name) rest (at + 1) h, ne_eqb end (at + 1) some, size, next)

one_more_bracket : (depth : ℕ) (rest : List ℕ) → bracketed depth (91 ∷ rest) ≡ bracketed (suc depth) rest
one_more_bracket zero rest = refl
one_more_bracket (suc depth) rest = ap (λ (l : List ℕ). 91 ∷ l) (one_more_bracket depth rest)

type_behind :
    (t : FieldType) (rest : List ℕ) (depth at : ℕ) → depth + dimensions t ≤ 255 → Named t →
    type_in (bracketed depth (render t ++ rest)) at ≡
    Ok (Some (type_record (letter_of t) (depth + dimensions t) (name_start (at + depth) t) (name_length t), at + depth + length (render t)))
unfolding render
type_behind (base b) rest depth at few named =
    behind depth (letter b ∷ rest) at (omega arith) (base_stops b) ∙ base_element b rest depth (at + depth) ∙ rw add-zero
type_behind (class name) rest depth at few named =
    ap (λ (l : List ℕ). type_in (bracketed depth (76 ∷ l)) at) (append_assoc name (59 ∷ []) rest)
    ∙ behind depth (76 ∷ (name ++ (59 ∷ rest))) at (omega arith) (λ z. omega arith)
    ∙ class_element name rest depth (at + depth) named ∙ rw add-zero
type_behind (array t) rest depth at few named =
    let deeper : suc depth + dimensions t ≡ depth + suc (dimensions t) = omega arith in
    let further : at + suc depth ≡ at + depth + 1 = omega arith in
    let next : at + depth + 1 + length (render t) ≡ at + depth + suc (length (render t)) = omega arith in
    ap (λ (l : List ℕ). type_in l at) (one_more_bracket depth (render t ++ rest))
    ∙ type_behind t rest (suc depth) at (omega arith) named ∙ rw (deeper, further, next)

pub reads_field :
    (t : FieldType) (rest : List ℕ) (at : ℕ) → WellFormed t →
    type_in (render t ++ rest) at ≡ Ok (Some (record_of at t, at + length (render t)))
reads_field t rest at w =
    let shallow = w.shallow in
    type_behind t rest 0 at (omega arith) w.named ∙ rw (zero-add, add-zero)

pub reads_return :
    (t : ReturnType) (rest : List ℕ) (at : ℕ) → WellFormedReturn t →
    type_in (render_return t ++ rest) at ≡ Ok (Some (return_record at t, at + length (render_return t)))
unfolding render_return type_in run element unnamed_type
reads_return void rest at w = rw add-zero
reads_return (typed t) rest at w = reads_field t rest at w

pub reads_close : (rest : List ℕ) (at : ℕ) → type_in (41 ∷ rest) at ≡ Ok None
unfolding type_in run element
reads_close rest at = refl

-- ---- a wrong type

too_deep : (more : List ℕ) (at : ℕ) → type_in (bracketed 256 more) at ≡ Err TooManyDimensions
unfolding type_in
too_deep more at = rw (lt-ltb 255 (brackets (bracketed 256 more)) (omega (arith, brackets_of 256 more)))

pub reads_wrong : (rest : List ℕ) (at : ℕ) (r : Refusal) → WrongType rest r → type_in rest at ≡ Err r
unfolding element class_type
reads_wrong rest at UnexpectedEnd (ended depth few e) =
    ap (λ (l : List ℕ). type_in l at) e ∙ behind depth [] at few tt
reads_wrong rest at EmptyClassName (nameless depth more few e) =
    ap (λ (l : List ℕ). type_in l at) e ∙ behind depth (76 ∷ (59 ∷ more)) at few (λ z. omega arith)
    ∙ rw (semicolon_behind [] more (at + depth + 1) tt, add-zero, eq-eqb (at + depth + 1) (at + depth + 1) refl)
reads_wrong rest at MissingSemicolon (unended depth name few free e) =
    ap (λ (l : List ℕ). type_in l at) e ∙ behind depth (76 ∷ name) at few (λ z. omega arith)
    ∙ rw (no_semicolon name (at + depth + 1) free)
reads_wrong rest at CloseAfterBracket (closed depth more some few e) =
    ap (λ (l : List ℕ). type_in l at) e ∙ behind depth (41 ∷ more) at few (λ z. omega arith)
    ∙ rw (ne_eqb depth 0 (λ z. omega arith))
reads_wrong rest at ArrayOfVoid (voids depth more some few e) =
    ap (λ (l : List ℕ). type_in l at) e ∙ behind depth (86 ∷ more) at few (λ z. omega arith) ∙ rw (lt-ltb 0 depth some)
reads_wrong rest at Unrecognised (strange depth x more few s e) =
    ap (λ (l : List ℕ). type_in l at) e ∙ behind depth (x ∷ more) at few s.bracket
    ∙ rw (ne_eqb x 76 s.class, ne_eqb x 41 s.close, ne_eqb x 86 s.void, not_base x s.base)
reads_wrong rest at TooManyDimensions (deep more e) =
    ap (λ (l : List ℕ). type_in l at) e ∙ too_deep more at
reads_wrong rest at LoneClose w = elim w [ ]
reads_wrong rest at TrailingAfterType w = elim w [ ]
reads_wrong rest at MissingOpening w = elim w [ ]
reads_wrong rest at VoidParameter w = elim w [ ]
reads_wrong rest at MissingReturn w = elim w [ ]
reads_wrong rest at TrailingAfterMethod w = elim w [ ]
reads_wrong rest at NoRoom w = elim w [ ]
