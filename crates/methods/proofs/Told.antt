-- What was read, by what the readers of methods tell; and the names that an attribute of a method can have.
-- Assumes nothing.
use Rattle.std.specs.Prelude.{Ok, Some, None}
use Prim.Native.Nat.{ℕ}
use native.Mathlib.Omega.{arith}
use mathlib.Core.Path.{◌≡◌, ◌∙◌, ap}
use mathlib.Core.Bool.{true, false}
use Rattle.basics.specs.Ascii.{ascii}
use Rattle.format.specs.Format.{Reading}
use Rattle.format.proofs.Items.{was_read}
use Rattle.format.specs.Items.{run_of}
use Rattle.classformat.specs.Contents.{Name, is_named, Body, bodiless, coded, Method}
use Rattle.classformat.specs.ClassFile.{is_name, attribute_name}
use Rattle.bodies.specs.declared.CodePlace.{CodePlace}
use Rattle.methods.specs.Method.{body_place, method_place, method_told}
use Rattle.methods.specs.declared.MethodPlace.{MethodPlace}

pub method_ended : (r : Reading Method) {place : MethodPlace} → method_told r ≡ Ok place → run_of r ≡ Ok place.next
method_ended r e = let w = was_read method_place r e in ap run_of w.2 ∙ ap (λ (p : MethodPlace). Ok p.next) w.3

-- ---- names of attributes

module _ (names : ℕ → Name) (name : ℕ) (there : is_name names name ≡ true) where
  -- any but Code
  pub other_name : is_named (ascii "Code") (names name) ≡ false → (before : Body) → attribute_name names before name ≡ true
  other_name other bodiless = there
  other_name other (coded code) = rw (there, other)

  -- a first Code, and a second
  pub first_code : (before : Body) → body_place before ≡ None → attribute_name names before name ≡ true
  first_code bodiless e = there
  first_code (coded code) e = let z : ◌≡◌ {A = ℕ} 0 1 = cc in absurd (omega arith)

  pub second_code :
      is_named (ascii "Code") (names name) ≡ true → (before : Body) {place : CodePlace} → body_place before ≡ Some place →
      attribute_name names before name ≡ false
  second_code one bodiless e = let z : ◌≡◌ {A = ℕ} 0 1 = cc in absurd (omega arith)
  second_code one (coded code) e = rw (there, one)

-- a number that leads to no name
pub nameless : (names : ℕ → Name) (name : ℕ) → is_name names name ≡ false → (before : Body) → attribute_name names before name ≡ false
nameless names name none bodiless = none
nameless names name none (coded code) = rw none
