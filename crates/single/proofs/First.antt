-- The first of a list that passes a test: there is at most one, and it is the first of itself.
-- Assumes nothing.
use Prim.Native.Nat.{◌≤◌}
use native.Mathlib.Omega.{arith}
use mathlib.Core.Path.{◌≡◌, refl}
use mathlib.Core.Bool.{Bool, true, false}
use mathlib.Core.List.{List, [], ◌∷◌}
use lib.ListN.{length}
use Rattle.single.specs.Single.{first}

module _ {A : Type 0} (test : A → Bool) where
  pub at_most_one : (xs : List A) → length (first test xs) ≤ 1
  unfolding first
  at_most_one [] = omega arith
  at_most_one (x ∷ xs) = by_test (test x) refl (at_most_one xs)
    where
      by_test : (t : Bool) → test x ≡ t → length (first test xs) ≤ 1 → length (first test (x ∷ xs)) ≤ 1
      by_test true e rest = rw e (omega arith)
      by_test false e rest = rw e rest

  pub first_alone : (xs : List A) → first test (first test xs) ≡ first test xs
  unfolding first
  first_alone [] = refl
  first_alone (x ∷ xs) = by_test (test x) refl (first_alone xs)
    where
      by_test :
          (t : Bool) → test x ≡ t → first test (first test xs) ≡ first test xs →
          first test (first test (x ∷ xs)) ≡ first test (x ∷ xs)
      by_test true e rest = rw (e, e)
      by_test false e rest = rw e rest
