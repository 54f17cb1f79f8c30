-- A descriptor is written from one tree only.
-- Assumes nothing.
use Prim.Native.Nat.{ℕ}
use native.Mathlib.Omega.{arith}
use mathlib.Core.Path.{◌≡◌, refl, ◌∙◌, sym, ap}
use mathlib.Core.List.{List, [], ◌∷◌, ◌++◌, append_assoc, append-nil}
use lib.Dec.{eqb}
use Rattle.basics.specs.Choice.{pick}
use Rattle.jvms.specs.Descriptor.{BaseType, byte, char, double, float, int, long, short, boolean, letter}
use Rattle.jvms.specs.Descriptor.{FieldType, base, class, array, ReturnType, void, typed, MethodType}
use Rattle.jvms.specs.Descriptor.{render, render_return, render_all, render_method}
use Rattle.jvms.specs.Descriptor.{NoSemicolon, ClassName, Named, AllWellFormed, WellFormedReturn, WellFormedMethod}

-- what a first byte says of a type: a base type, a class, an array, or no type at all
abbrev sort : ℕ → ℕ
sort x = pick (eqb x 76) 1 (pick (eqb x 91) 2 (pick (eqb x 41) 3 (pick (eqb x 86) 4 0)))

sort_of_letter : (b : BaseType) → sort (letter b) ≡ 0
sort_of_letter byte = refl
sort_of_letter char = refl
sort_of_letter double = refl
sort_of_letter float = refl
sort_of_letter int = refl
sort_of_letter long = refl
sort_of_letter short = refl
sort_of_letter boolean = refl

abbrev lettered : ℕ → BaseType
lettered x =
    pick (eqb x 66) byte
    (pick (eqb x 67) char
    (pick (eqb x 68) double
    (pick (eqb x 70) float (pick (eqb x 73) int (pick (eqb x 74) long (pick (eqb x 83) short boolean))))))

lettered_is : (b : BaseType) → lettered (letter b) ≡ b
lettered_is byte = refl
lettered_is char = refl
lettered_is double = refl
lettered_is float = refl
lettered_is int = refl
lettered_is long = refl
lettered_is short = refl
lettered_is boolean = refl

letter_injective : (b c : BaseType) → letter b ≡ letter c → b ≡ c
letter_injective b c e = sym (lettered_is b) ∙ ap lettered e ∙ lettered_is c

-- a name ends at its first semicolon
name_ends :
    (n m r s : List ℕ) → NoSemicolon n → NoSemicolon m → n ++ (59 ∷ r) ≡ m ++ (59 ∷ s) → (n ≡ m) × (r ≡ s)
name_ends [] [] r s p q e = (refl, cc)
name_ends [] (y ∷ m) r s p q e = let h : 59 ≡ y = cc in absurd (q.0 (sym h))
name_ends (x ∷ n) [] r s p q e = let h : x ≡ 59 = cc in absurd (p.0 h)
name_ends (x ∷ n) (y ∷ m) r s p q e =
    let head : x ≡ y = cc in
    let tail : n ++ (59 ∷ r) ≡ m ++ (59 ∷ s) = cc in
    let rest = name_ends n m r s p.1 q.1 tail in
    (rw (head, rest.0), rest.1)

-- a class name holds no semicolon
pub spelled : (n : List ℕ) → ClassName n → NoSemicolon n
spelled [] p = absurd p
spelled (x ∷ n) p = p

other_sort : (x y a b : ℕ) → x ≡ y → sort x ≡ a → sort y ≡ b → a ≡ b
other_sort x y a b e p q = sym p ∙ ap sort e ∙ q

-- what follows a type does not change how it is read
pub render_unique :
    (t u : FieldType) (r s : List ℕ) → Named t → Named u → render t ++ r ≡ render u ++ s → (t ≡ u) × (r ≡ s)
unfolding render
render_unique (base b) (base c) r s p q e =
    let head : letter b ≡ letter c = cc in
    (ap base (letter_injective b c head), cc)
render_unique (base b) (class m) r s p q e =
    let head : letter b ≡ 76 = cc in
    absurd (omega (arith, other_sort (letter b) 76 0 1 head (sort_of_letter b) refl))
render_unique (base b) (array u) r s p q e =
    let head : letter b ≡ 91 = cc in
    absurd (omega (arith, other_sort (letter b) 91 0 2 head (sort_of_letter b) refl))
render_unique (class n) (base c) r s p q e =
    let head : 76 ≡ letter c = cc in
    absurd (omega (arith, other_sort 76 (letter c) 1 0 head refl (sort_of_letter c)))
render_unique (class n) (class m) r s p q e =
    let tail : n ++ (59 ∷ []) ++ r ≡ m ++ (59 ∷ []) ++ s = cc in
    let same = name_ends n m r s (spelled n p) (spelled m q) (rw (append_assoc n (59 ∷ []) r, append_assoc m (59 ∷ []) s) at tail) in
    (ap class same.0, same.1)
render_unique (class n) (array u) r s p q e = let head : ◌≡◌ {A = ℕ} 76 91 = cc in absurd (omega (arith, head))
render_unique (array t) (base c) r s p q e =
    let head : 91 ≡ letter c = cc in
    absurd (omega (arith, other_sort 91 (letter c) 2 0 head refl (sort_of_letter c)))
render_unique (array t) (class m) r s p q e = let head : ◌≡◌ {A = ℕ} 91 76 = cc in absurd (omega (arith, head))
render_unique (array t) (array u) r s p q e =
    let tail : render t ++ r ≡ render u ++ s = cc in
    let same = render_unique t u r s p q tail in
    (ap array same.0, same.1)

-- no type begins with `)` or `V`
first_byte : (t : FieldType) (x : ℕ) (r s : List ℕ) → render t ++ r ≡ x ∷ s → (sort x ≡ 0 → ⊥) → (sort x ≡ 1 → ⊥) → (sort x ≡ 2 → ⊥) → ⊥
unfolding render
first_byte (base b) x r s e p q o = let head : x ≡ letter b = cc in p (ap sort head ∙ sort_of_letter b)
first_byte (class n) x r s e p q o = let head : x ≡ 76 = cc in q (ap sort head)
first_byte (array t) x r s e p q o = let head : x ≡ 91 = cc in o (ap sort head)

pub not_closing : (t : FieldType) (r s : List ℕ) → render t ++ r ≡ 41 ∷ s → ⊥
not_closing t r s e = first_byte t 41 r s e (λ z. omega (arith, z)) (λ z. omega (arith, z)) (λ z. omega (arith, z))

not_void : (t : FieldType) (r s : List ℕ) → render t ++ r ≡ 86 ∷ s → ⊥
not_void t r s e = first_byte t 86 r s e (λ z. omega (arith, z)) (λ z. omega (arith, z)) (λ z. omega (arith, z))

-- parameters end at their `)`
pub render_all_unique :
    (ts us : List FieldType) (r s : List ℕ) → AllWellFormed ts → AllWellFormed us →
    render_all ts ++ (41 ∷ r) ≡ render_all us ++ (41 ∷ s) → (ts ≡ us) × (r ≡ s)
unfolding render_all
render_all_unique [] [] r s p q e = (refl, cc)
render_all_unique [] (u ∷ us) r s p q e =
    absurd (not_closing u (render_all us ++ (41 ∷ s)) r (sym (e ∙ append_assoc (render u) (render_all us) (41 ∷ s))))
render_all_unique (t ∷ ts) [] r s p q e =
    absurd (not_closing t (render_all ts ++ (41 ∷ r)) s (sym (append_assoc (render t) (render_all ts) (41 ∷ r)) ∙ e))
render_all_unique (t ∷ ts) (u ∷ us) r s p q e =
    let one =
    render_unique t u (render_all ts ++ (41 ∷ r)) (render_all us ++ (41 ∷ s)) p.0.named q.0.named
    (rw (append_assoc (render t) (render_all ts) (41 ∷ r), append_assoc (render u) (render_all us) (41 ∷ s)) at e) in
    let rest = render_all_unique ts us r s p.1 q.1 one.1 in
    (rw (one.0, rest.0), rest.1)

render_return_unique :
    (t u : ReturnType) → WellFormedReturn t → WellFormedReturn u → render_return t ≡ render_return u → t ≡ u
unfolding render_return
render_return_unique void void p q e = refl
render_return_unique void (typed u) p q e = absurd (not_void u [] [] (append-nil (render u) ∙ sym e))
render_return_unique (typed t) void p q e = absurd (not_void t [] [] (append-nil (render t) ∙ e))
render_return_unique (typed t) (typed u) p q e =
    ap typed (render_unique t u [] [] p.named q.named (append-nil (render t) ∙ e ∙ sym (append-nil (render u)))).0

-- one tree for a field type, and one for a method
pub render_injective : (t u : FieldType) → Named t → Named u → render t ≡ render u → t ≡ u
render_injective t u p q e =
    (render_unique t u [] [] p q (append-nil (render t) ∙ e ∙ sym (append-nil (render u)))).0

pub render_method_injective :
    (m n : MethodType) → WellFormedMethod m → WellFormedMethod n → render_method m ≡ render_method n → m ≡ n
unfolding render_method
render_method_injective m n p q e =
    let tail : render_all m.parameters ++ (41 ∷ render_return m.result) ≡ render_all n.parameters ++ (41 ∷ render_return n.result) = cc in
    let both =
    render_all_unique m.parameters n.parameters (render_return m.result) (render_return n.result)
    p.parameters q.parameters tail in
    let result = render_return_unique m.result n.result p.result q.result both.1 in
    λ i. record { parameters = both.0 i; result = result i }
