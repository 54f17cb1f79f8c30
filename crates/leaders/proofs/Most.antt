-- The greatest number of a list at or below a limit, as its members see it.
-- Assumes nothing.
use Prim.Native.Nat.{ℕ, max, ◌≤◌}
use native.Mathlib.Omega.{arith}
use mathlib.Core.Path.{◌≡◌, refl, ◌∙◌}
use mathlib.Core.Bool.{Bool, true, false}
use mathlib.Core.Logic.{⊎_elim, ◌⊎◌, inl, inr}
use mathlib.Core.List.Memᴰ
use mathlib.Core.List.{List, [], ◌∷◌}
use lib.Dec.{leb}
use borrow.Author.Tests.{leb-true, leb-false, le-leb}
use Rattle.basics.specs.Choice.{pick}
use Rattle.basics.specs.Member.{◌∈◌}
use Rattle.greatest.specs.Greatest.{up_to, greatest}

up_to_below : (limit x : ℕ) → up_to limit x ≤ limit
unfolding up_to
up_to_below limit x = by_test (leb x limit) refl
  where
    by_test : (t : Bool) → leb x limit ≡ t → pick t x 0 ≤ limit
    by_test true e = leb-true x limit e
    by_test false e = omega arith

-- it is at or below the limit
pub greatest_below : (limit : ℕ) (xs : List ℕ) → greatest limit xs ≤ limit
unfolding greatest
greatest_below limit [] = omega arith
greatest_below limit (x ∷ xs) = omega (arith, up_to_below limit x, greatest_below limit xs)

-- no member at or below the limit is above it
pub greatest_most : (limit x : ℕ) (xs : List ℕ) → x ∈ xs → x ≤ limit → x ≤ greatest limit xs
unfolding greatest up_to
greatest_most limit x [] m below = absurd (Memᴰ.not-nil m)
greatest_most limit x (y ∷ ys) m below =
    ⊎_elim
    (λ (e : x ≡ y). let fits : y ≤ limit = omega arith in rw (le-leb y limit fits) (omega (arith, e)))
    (λ (rest : x ∈ ys). omega (arith, greatest_most limit x ys rest below))
    (Memᴰ.cases_cons m)

max_is : (a b : ℕ) → (max a b ≡ a) ⊎ (max a b ≡ b)
max_is a b = by_test (leb b a) refl
  where
    by_test : (t : Bool) → leb b a ≡ t → (max a b ≡ a) ⊎ (max a b ≡ b)
    by_test true e = inl (omega (arith, leb-true b a e))
    by_test false e = inr (omega (arith, leb-false b a e))

up_to_is : (limit x : ℕ) → (up_to limit x ≡ 0) ⊎ (up_to limit x ≡ x)
unfolding up_to
up_to_is limit x = by_test (leb x limit)
  where
    by_test : (t : Bool) → (pick t x 0 ≡ 0) ⊎ (pick t x 0 ≡ x)
    by_test true = inr refl
    by_test false = inl refl

-- it is 0 or a member
pub greatest_member : (limit : ℕ) (xs : List ℕ) → (greatest limit xs ≡ 0) ⊎ (greatest limit xs ∈ xs)
unfolding greatest
greatest_member limit [] = inl refl
greatest_member limit (x ∷ xs) = which (max_is (up_to limit x) (greatest limit xs)) (up_to_is limit x) (greatest_member limit xs)
  where
    which :
        (max (up_to limit x) (greatest limit xs) ≡ up_to limit x) ⊎ (max (up_to limit x) (greatest limit xs) ≡ greatest limit xs) →
        (up_to limit x ≡ 0) ⊎ (up_to limit x ≡ x) → (greatest limit xs ≡ 0) ⊎ (greatest limit xs ∈ xs) →
        (max (up_to limit x) (greatest limit xs) ≡ 0) ⊎ (max (up_to limit x) (greatest limit xs) ∈ x ∷ xs)
    which (inl e) (inl z) rest = inl (e ∙ z)
    which (inl e) (inr i) rest = inr (Memᴰ.head (e ∙ i))
    which (inr e) u (inl z) = inl (e ∙ z)
    which (inr e) u (inr m) = inr (Memᴰ.tail (Memᴰ.cast e m))
