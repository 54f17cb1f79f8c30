-- What is read lies in the text.
-- Assumes nothing.
use Rattle.std.specs.Prelude.{Option, Some, None}
use Prim.Native.Nat.{ℕ, ◌+◌, ◌<◌}
use native.Mathlib.Omega.{arith}
use mathlib.Core.Path.{◌≡◌, refl, sym, subst}
use mathlib.Core.Bool.{Bool, true, false}
use mathlib.Core.List.{List}
use lib.Dec.{eqb, leb}
use lib.ListN.{length, drop}
use borrow.Author.Tests.{leb-false}
use Rattle.basics.specs.Ascii.{ascii}
use Rattle.basics.specs.Bytes.{byte_at}
use Rattle.basics.specs.Choice.{pick}
use Rattle.bytesearch.specs.Search.{first_from, found_inside}
use Rattle.bytesearch.proofs.Search.{found-inside}
use Rattle.fieldtype.specs.Types.{brackets, class_type, base_type, type_behind, field_type_at, taken_inside, Inside}
use Rattle.fieldtype.specs.declared.FieldType.{FieldType}

module _ (text : List ℕ) (at dims base : ℕ) (passed : base ≡ at + dims) where
  class_inside :
      (found : Option ℕ) → base < length text → found_inside found text (base + 1) → taken_inside (class_type dims (base + 1) found) text at
  class_inside (Some to) inside is =
      record { onward = omega (arith, is.0); within = omega (arith, is.1); named = is.0; ended = omega (arith, is.1) }
  class_inside None inside is = tt

  base_inside : (letter : ℕ) (found : Option ℕ) → base < length text → taken_inside (base_type letter dims (base + 1) found) text at
  base_inside letter (Some k) inside = record { onward = omega arith; within = omega arith; named = omega arith; ended = omega arith }
  base_inside letter None inside = tt

  by_letter :
      (t : Bool) (letter : ℕ) (f g : Option ℕ) → base < length text → found_inside f text (base + 1) →
      taken_inside (pick t (class_type dims (base + 1) f) (base_type letter dims (base + 1) g)) text at
  by_letter true letter f g inside is = class_inside f inside is
  by_letter false letter f g inside is = base_inside letter g inside

  by_length :
      (t : Bool) → leb (length text) base ≡ t → (taken : Option FieldType) → (base < length text → taken_inside taken text at) →
      taken_inside (pick t None taken) text at
  by_length true e taken is = tt
  by_length false e taken is = is (leb-false (length text) base e)

pub taken-inside : (text : List ℕ) (at : ℕ) → taken_inside (field_type_at text at) text at
unfolding field_type_at type_behind
taken-inside text at =
    let dims = brackets (drop at text) in
    let base = at + dims in
    let letter = byte_at text base in
    let f = first_from 59 text (base + 1) in
    let g = first_from letter (ascii "BCDFIJSZ") 0 in
    by_length text at dims base refl (leb (length text) base) refl
    (pick (eqb letter 76) (class_type dims (base + 1) f) (base_type letter dims (base + 1) g))
    (λ inside. by_letter text at dims base refl (eqb letter 76) letter f g inside (found-inside 59 text (base + 1)))

pub type_inside : (text : List ℕ) (at : ℕ) (t : FieldType) → Some t ≡ field_type_at text at → Inside t text at
type_inside text at t e = subst (λ (taken : Option FieldType). taken_inside taken text at) (sym e) (taken-inside text at)
