-- The lenient readers on a text that is written from a tree.
-- Assumes nothing.
use Rattle.std.specs.Prelude.{Some}
use Prim.Native.Nat.{ℕ, zero, suc, ◌+◌, ◌-◌, ◌<◌}
use native.Mathlib.Numerals.{add-one}
use native.Mathlib.Omega.{arith}
use mathlib.Core.Path.{◌≡◌, refl, ◌∙◌, sym, ap, ap₂, subst}
use mathlib.Core.Bool.{false}
use mathlib.Core.List.{List, [], ◌∷◌, ◌++◌, append_assoc}
use lib.Dec.{eqb}
use lib.ListN.{length, take, drop, length-append}
use lib.Seq.{drop_at, take_at}
use borrow.Author.Tests.{ne_eqb, lt-leb}
use Rattle.basics.specs.Ascii.{ascii}
use Rattle.basics.specs.Bytes.{byte_at}
use Rattle.basics.specs.Choice.{pick, both}
use Rattle.bytesearch.specs.Search.{first_in, first_from, run}
use Rattle.fieldtype.specs.Types.{brackets, base_type, type_behind, field_type_at, is_wide, type_slots, Types, over, one, types_at, types_of}
use Rattle.descriptor.specs.Readers.{slots_of, judged, parameters, byte_slots, slots_behind, return_slots, field_slots}
use Rattle.fieldtype.specs.declared.FieldType.{FieldType}
use Rattle.jvms.specs.Descriptor.{BaseType, byte, char, double, float, int, long, short, boolean, letter}
use Rattle.jvms.specs.Descriptor.{base, class, array, render, render_all, render_return, render_method, dimensions, NoSemicolon, Named, AllWellFormed}
use Rattle.jvms.specs.Descriptor.{ReturnType, void, typed, MethodType, WellFormedMethod, slots, slots_all}
use Rattle.jvms.specs.Descriptor.{FieldType as Tree, return_slots as tree_return_slots}
use Rattle.jvms.proofs.Rendering.{not_closing, spelled}
use Rattle.descriptor.proofs.Listing.{list_closed, list_one}
use Rattle.descriptor.proofs.Return.{behind_end}
use Rattle.descriptors.specs.Lenient.{Told, told, Listed, none, more, letter_of, name_of, tree_told, trees_told, closing_at, LenientAgrees}

-- ---- what stands behind a prefix

behind_drop : (p q : List ℕ) → drop (length p) (p ++ q) ≡ q
behind_drop p q = drop_at p q (length p) refl

behind_drop_one : (p : List ℕ) (x : ℕ) (q : List ℕ) → drop (suc (length p)) (p ++ (x ∷ q)) ≡ q
behind_drop_one [] x q = refl
behind_drop_one (y ∷ p) x q = behind_drop_one p x q

behind_byte : (p : List ℕ) (x : ℕ) (q : List ℕ) → byte_at (p ++ (x ∷ q)) (length p) ≡ x
behind_byte [] x q = refl
behind_byte (y ∷ p) x q = behind_byte p x q

behind_inside : (p : List ℕ) (x : ℕ) (q : List ℕ) → length p < length (p ++ (x ∷ q))
behind_inside p x q = rw length-append (omega arith)

-- ---- brackets, then the element

abbrev opened : ℕ → List ℕ
opened zero = []
opened (suc d) = 91 ∷ opened d

abbrev element : Tree → List ℕ
element (base b) = letter b ∷ []
element (class name) = 76 ∷ (name ++ (59 ∷ []))
element (array t) = element t

render_is : (t : Tree) → render t ≡ opened (dimensions t) ++ element t
unfolding render
render_is (base b) = refl
render_is (class name) = refl
render_is (array t) = ap (λ (l : List ℕ). 91 ∷ l) (render_is t)

opened_length : (d : ℕ) → length (opened d) ≡ d
opened_length zero = refl
opened_length (suc d) = ap suc (opened_length d)

no_bracket : (b : BaseType) → eqb (letter b) 91 ≡ false
no_bracket byte = refl
no_bracket char = refl
no_bracket double = refl
no_bracket float = refl
no_bracket int = refl
no_bracket long = refl
no_bracket short = refl
no_bracket boolean = refl

element_opens_none : (t : Tree) (rest : List ℕ) → brackets (element t ++ rest) ≡ 0
unfolding run
element_opens_none (base b) rest = rw (no_bracket b)
element_opens_none (class name) rest = refl
element_opens_none (array t) rest = element_opens_none t rest

brackets_are : (d : ℕ) (rest : List ℕ) → brackets (opened d ++ rest) ≡ d + brackets rest
unfolding run
brackets_are zero rest = omega arith
brackets_are (suc d) rest = omega (arith, brackets_are d rest)

-- the semicolon behind a name
semicolon : (name rest : List ℕ) (at : ℕ) → NoSemicolon name → first_in 59 (name ++ (59 ∷ rest)) at ≡ Some (at + length name)
unfolding first_in
semicolon [] rest at free = ap Some (omega arith)
semicolon (x ∷ name) rest at free =
    let on : at + 1 + length name ≡ at + suc (length name) = omega arith in
    rw (ne_eqb x 59 free.0) (semicolon name rest (at + 1) free.1 ∙ ap Some on)

-- ---- one type

-- the type that is read where a tree is written at an index
abbrev shape_at : Tree → ℕ → FieldType
shape_at t at =
    record {
      letter = letter_of t;
      dims = dimensions t;
      from = at + dimensions t + 1;
      to = at + dimensions t + 1 + length (name_of t);
      next = at + length (render t);
    }

letter_is_base :
    (b : BaseType) (d k : ℕ) →
    base_type (letter b) d k (first_from (letter b) (ascii "BCDFIJSZ") 0) ≡ Some (record { letter = letter b; dims = d; from = k; to = k; next = k })
unfolding first_from first_in
letter_is_base byte d k = refl
letter_is_base char d k = refl
letter_is_base double d k = refl
letter_is_base float d k = refl
letter_is_base int d k = refl
letter_is_base long d k = refl
letter_is_base short d k = refl
letter_is_base boolean d k = refl

letter_is_no_class : (b : BaseType) → eqb (letter b) 76 ≡ false
letter_is_no_class byte = refl
letter_is_no_class char = refl
letter_is_no_class double = refl
letter_is_no_class float = refl
letter_is_no_class int = refl
letter_is_no_class long = refl
letter_is_no_class short = refl
letter_is_no_class boolean = refl

-- the element of a tree, behind a prefix
abbrev behind_shape : Tree → ℕ → ℕ → FieldType
behind_shape t d at =
    record { letter = letter_of t; dims = d; from = at + 1; to = at + 1 + length (name_of t); next = at + length (element t) }

-- the semicolon that ends a class name
name_ended :
    (p name rest : List ℕ) → NoSemicolon name →
    first_from 59 (p ++ (76 ∷ ((name ++ (59 ∷ [])) ++ rest))) (length p + 1) ≡ Some (length p + 1 + length name)
unfolding first_from
name_ended p name rest free =
    ap (λ (l : List ℕ). first_in 59 l (length p + 1))
    (ap (λ (n : ℕ). drop n (p ++ (76 ∷ ((name ++ (59 ∷ [])) ++ rest)))) (add-one (length p))
    ∙ behind_drop_one p 76 ((name ++ (59 ∷ [])) ++ rest)
    ∙ append_assoc name (59 ∷ []) rest)
    ∙ semicolon name rest (length p + 1) free

element_read :
    (t : Tree) (p rest : List ℕ) (d : ℕ) → Named t →
    type_behind (p ++ (element t ++ rest)) d (length p) ≡ Some (behind_shape t d (length p))
unfolding type_behind
element_read (base b) p rest d named =
    let inside = behind_inside p (letter b) rest in
    let same : length p + 1 ≡ length p + 1 + 0 = omega arith in
    rw (lt-leb (length (p ++ (letter b ∷ rest))) (length p) inside, behind_byte p (letter b) rest, letter_is_no_class b)
    (letter_is_base b d (length p + 1)
    ∙ ap (λ (n : ℕ). Some (record { letter = letter b; dims = d; from = length p + 1; to = n; next = length p + 1 })) same)
element_read (class name) p rest d named =
    let behind = (name ++ (59 ∷ [])) ++ rest in
    let inside = behind_inside p 76 behind in
    let next : length p + 1 + length name + 1 ≡ length p + suc (length (name ++ (59 ∷ []))) = rw length-append (omega arith) in
    rw (lt-leb (length (p ++ (76 ∷ behind))) (length p) inside, behind_byte p 76 behind, name_ended p name rest (spelled name named), ← next)
element_read (array t) p rest d named = element_read t p rest d named

-- a type that is written behind a prefix
module _ (t : Tree) (p rest : List ℕ) where
  dims_are : brackets (drop (length p) (p ++ (render t ++ rest))) ≡ dimensions t
  dims_are =
      ap brackets (behind_drop p (render t ++ rest) ∙ ap (λ (l : List ℕ). l ++ rest) (render_is t) ∙ append_assoc (opened (dimensions t)) (element t) rest)
      ∙ omega (arith, brackets_are (dimensions t) (element t ++ rest), element_opens_none t rest)

  written_as : p ++ (render t ++ rest) ≡ (p ++ opened (dimensions t)) ++ (element t ++ rest)
  written_as =
      ap (λ (l : List ℕ). p ++ (l ++ rest)) (render_is t)
      ∙ ap (λ (l : List ℕ). p ++ l) (append_assoc (opened (dimensions t)) (element t) rest)
      ∙ sym (append_assoc p (opened (dimensions t)) (element t ++ rest))

  type_read : Named t → field_type_at (p ++ (render t ++ rest)) (length p) ≡ Some (shape_at t (length p))
  unfolding field_type_at
  type_read named =
      let q = p ++ opened (dimensions t) in
      let start : length p + dimensions t ≡ length q = sym (length-append p (opened (dimensions t)) ∙ ap (λ (n : ℕ). length p + n) (opened_length (dimensions t))) in
      let long : length (render t) ≡ dimensions t + length (element t) =
      ap length (render_is t) ∙ length-append (opened (dimensions t)) (element t) ∙ ap (λ (n : ℕ). n + length (element t)) (opened_length (dimensions t)) in
      let next : length p + length (render t) ≡ length q + length (element t) = omega arith in
      rw (dims_are, written_as, next, start) (element_read t q rest (dimensions t) named)

-- ---- types one after the other

name_part : (t : Tree) (q rest : List ℕ) → take (length (name_of t)) (drop (suc (length q)) (q ++ (element t ++ rest))) ≡ name_of t
name_part (base b) q rest = refl
name_part (class name) q rest =
    ap (take (length name)) (behind_drop_one q 76 ((name ++ (59 ∷ [])) ++ rest) ∙ append_assoc name (59 ∷ []) rest)
    ∙ take_at name (59 ∷ rest) (length name) refl
name_part (array t) q rest = name_part t q rest

told_as_tree : (t : Tree) (p rest : List ℕ) → told (p ++ (render t ++ rest)) (shape_at t (length p)) ≡ tree_told t
told_as_tree t p rest =
    let q = p ++ opened (dimensions t) in
    let start : length p + dimensions t + 1 ≡ suc (length q) =
    omega (arith, length-append p (opened (dimensions t)), opened_length (dimensions t)) in
    let count : length p + dimensions t + 1 + length (name_of t) - (length p + dimensions t + 1) ≡ length (name_of t) = omega arith in
    ap (λ (n : List ℕ). record { letter = letter_of t; dims = dimensions t; name = n })
    (rw (count, start, written_as t p rest) (name_part t q rest))

-- a type has a first byte
first_of : (t : Tree) (rest : List ℕ) → (x : ℕ) × (l : List ℕ) × (render t ++ rest ≡ x ∷ l)
unfolding render
first_of (base b) rest = (letter b, rest, refl)
first_of (class name) rest = (76, (name ++ (59 ∷ [])) ++ rest, refl)
first_of (array t) rest = (91, render t ++ rest, refl)

-- a list of types that ends at a `)`
module _ (after : List ℕ) where
  abbrev text_of : List ℕ → List Tree → List ℕ
  text_of p ts = p ++ (render_all ts ++ (41 ∷ after))

  -- the first type of a list, and the rest of it behind
  apart : (p : List ℕ) (t : Tree) (ts : List Tree) → text_of p (t ∷ ts) ≡ p ++ (render t ++ (render_all ts ++ (41 ∷ after)))
  unfolding render_all
  apart p t ts = ap (λ (l : List ℕ). p ++ l) (append_assoc (render t) (render_all ts) (41 ∷ after))

  further : (p : List ℕ) (t : Tree) (ts : List Tree) → text_of p (t ∷ ts) ≡ text_of (p ++ render t) ts
  further p t ts = apart p t ts ∙ sym (append_assoc p (render t) (render_all ts ++ (41 ∷ after)))

  listed_one :
      (p : List ℕ) (t : Tree) (ts : List Tree) → Named t →
      types_at (text_of p (t ∷ ts)) (length p) ≡ one (shape_at t (length p)) (types_at (text_of p (t ∷ ts)) (length p + length (render t)))
  listed_one p t ts named =
      let rest = render_all ts ++ (41 ∷ after) in
      let first = first_of t rest in
      let same : text_of p (t ∷ ts) ≡ p ++ (first.0 ∷ first.1) = apart p t ts ∙ ap (λ (l : List ℕ). p ++ l) first.2 in
      let starts : byte_at (text_of p (t ∷ ts)) (length p) ≡ first.0 = ap (λ (l : List ℕ). byte_at l (length p)) same ∙ behind_byte p first.0 first.1 in
      list_one (text_of p (t ∷ ts)) (length p)
      (subst (λ (l : List ℕ). length p < length l) (sym same) (behind_inside p first.0 first.1))
      (λ e. not_closing t rest first.1 (first.2 ∙ ap (λ (x : ℕ). x ∷ first.1) (sym starts ∙ e)))
      (shape_at t (length p))
      (ap (λ (l : List ℕ). field_type_at l (length p)) (apart p t ts) ∙ type_read t p rest named)

  listed : (p : List ℕ) (ts : List Tree) → AllWellFormed ts → Listed (text_of p ts) (types_at (text_of p ts) (length p)) (trees_told ts) (length p + length (render_all ts))
  unfolding render_all
  listed p [] are =
      let closed = list_closed (p ++ (41 ∷ after)) (length p) (behind_inside p 41 after) (behind_byte p 41 after) in
      let same : length p ≡ length p + 0 = omega arith in
      rw closed (subst (λ (n : ℕ). Listed (p ++ (41 ∷ after)) (over (length p)) [] n) same none)
  listed p (t ∷ ts) are =
      let text = text_of p (t ∷ ts) in
      let rest = render_all ts ++ (41 ∷ after) in
      let on : length (p ++ render t) ≡ length p + length (render t) = length-append p (render t) in
      let ends : length (p ++ render t) + length (render_all ts) ≡ length p + length (render t ++ render_all ts) =
      omega (arith, length-append p (render t), length-append (render t) (render_all ts)) in
      let behind : Listed text (types_at text (length p + length (render t))) (trees_told ts) (length p + length (render t ++ render_all ts)) =
      subst (λ (n : ℕ). Listed text (types_at text (length p + length (render t))) (trees_told ts) n) ends
      (subst (λ (n : ℕ). Listed text (types_at text n) (trees_told ts) (length (p ++ render t) + length (render_all ts))) on
      (subst (λ (l : List ℕ). Listed l (types_at l (length (p ++ render t))) (trees_told ts) (length (p ++ render t) + length (render_all ts)))
      (sym (further p t ts)) (listed (p ++ render t) ts are.1))) in
      let as-tree : told text (shape_at t (length p)) ≡ tree_told t =
      ap (λ (l : List ℕ). told l (shape_at t (length p))) (apart p t ts) ∙ told_as_tree t p rest in
      rw (listed_one p t ts are.0.named)
      (subst (λ (x : Told). Listed text (one (shape_at t (length p)) (types_at text (length p + length (render t)))) (x ∷ trees_told ts) (length p + length (render t ++ render_all ts)))
      as-tree (more behind))

-- ---- slots

abbrev told_slots : Told → ℕ
told_slots t = pick (both (eqb t.dims 0) (is_wide t.letter)) 2 1

abbrev told_slots_all : List Told → ℕ
told_slots_all [] = 0
told_slots_all (t ∷ ts) = told_slots t + told_slots_all ts

tree_slots : (t : Tree) → told_slots (tree_told t) ≡ slots t
tree_slots (base byte) = refl
tree_slots (base char) = refl
tree_slots (base double) = refl
tree_slots (base float) = refl
tree_slots (base int) = refl
tree_slots (base long) = refl
tree_slots (base short) = refl
tree_slots (base boolean) = refl
tree_slots (class name) = refl
tree_slots (array t) = rw (ne_eqb (suc (dimensions t)) 0 (λ e. omega (arith, e)))

trees_slots : (ts : List Tree) → told_slots_all (trees_told ts) ≡ slots_all ts
trees_slots [] = refl
trees_slots (t ∷ ts) = ap₂ ◌+◌ (tree_slots t) (trees_slots ts)

module _ {text : List ℕ} where
  listed_slots : {types : Types} {tolds : List Told} {end : ℕ} → Listed text types tolds end → slots_of types ≡ told_slots_all tolds
  unfolding slots_of type_slots
  listed_slots none = refl
  listed_slots (more rest) = ap₂ ◌+◌ refl (listed_slots rest)

  listed_read :
      {types : Types} {tolds : List Told} {end : ℕ} → Listed text types tolds end → (n : ℕ) →
      judged types n ≡ Some (record { slots = n; end = end })
  unfolding judged
  listed_read none n = refl
  listed_read (more rest) n = listed_read rest n

-- ---- the return, and a field

-- the byte behind the parenthesis tells the slots
return_first : (r : ReturnType) → (x : ℕ) × (l : List ℕ) × (render_return r ≡ x ∷ l) × (byte_slots x ≡ tree_return_slots r)
unfolding render_return render
return_first void = (86, [], refl, refl)
return_first (typed (base byte)) = (66, [], refl, refl)
return_first (typed (base char)) = (67, [], refl, refl)
return_first (typed (base double)) = (68, [], refl, refl)
return_first (typed (base float)) = (70, [], refl, refl)
return_first (typed (base int)) = (73, [], refl, refl)
return_first (typed (base long)) = (74, [], refl, refl)
return_first (typed (base short)) = (83, [], refl, refl)
return_first (typed (base boolean)) = (90, [], refl, refl)
return_first (typed (class name)) = (76, name ++ (59 ∷ []), refl, refl)
return_first (typed (array t)) = (91, render t, refl, refl)

behind_closing : (q l : List ℕ) (x : ℕ) → slots_behind (q ++ (41 ∷ (x ∷ l))) (Some (length q)) ≡ Some (byte_slots x)
unfolding slots_behind
behind_closing q l x =
    let same : q ++ (41 ∷ (x ∷ l)) ≡ (q ++ (41 ∷ [])) ++ (x ∷ l) = sym (append_assoc q (41 ∷ []) (x ∷ l)) in
    let long : length q + 1 ≡ length (q ++ (41 ∷ [])) = sym (length-append q (41 ∷ [])) in
    rw (long, same, lt-leb (length ((q ++ (41 ∷ [])) ++ (x ∷ l))) (length (q ++ (41 ∷ []))) (behind_inside (q ++ (41 ∷ [])) x l), behind_byte (q ++ (41 ∷ [])) x l)

-- ---- the statements

types_agree : (m : MethodType) → WellFormedMethod m → Listed (render_method m) (types_of (render_method m)) (trees_told m.parameters) (closing_at m)
unfolding render_method types_of
types_agree m well = listed (render_return m.result) (40 ∷ []) m.parameters well.parameters

slots_agree :
    (m : MethodType) → WellFormedMethod m →
    parameters (render_method m) ≡ Some (record { slots = slots_all m.parameters; end = closing_at m })
unfolding parameters render_method
slots_agree m well =
    let types = types_agree m well in
    listed_read types (slots_of (types_of (render_method m)))
    ∙ ap (λ (n : ℕ). Some (record { slots = n; end = closing_at m })) (listed_slots types ∙ trees_slots m.parameters)

behind_parameters : (m : MethodType) → slots_behind (render_method m) (Some (closing_at m)) ≡ Some (tree_return_slots m.result)
unfolding render_method
behind_parameters m =
    let q : List ℕ = 40 ∷ render_all m.parameters in
    let first = return_first m.result in
    let long : closing_at m ≡ length q = omega arith in
    rw (first.2, long) (behind_closing q first.1 first.0 ∙ ap Some first.3)

return_agrees : (m : MethodType) → WellFormedMethod m → return_slots (render_method m) ≡ Some (tree_return_slots m.result)
return_agrees m well =
    behind_end (render_method m) _ (slots_agree m well) ∙ behind_parameters m

field_agrees : (t : Tree) → field_slots (render t) ≡ slots t
unfolding field_slots render
field_agrees (base byte) = refl
field_agrees (base char) = refl
field_agrees (base double) = refl
field_agrees (base float) = refl
field_agrees (base int) = refl
field_agrees (base long) = refl
field_agrees (base short) = refl
field_agrees (base boolean) = refl
field_agrees (class name) = refl
field_agrees (array t) = refl

pub lenient_agrees : LenientAgrees
lenient_agrees =
    record {
      same_types = types_agree;
      same_slots = slots_agree;
      same_return = return_agrees;
      same_field = λ t well. field_agrees t;
    }
