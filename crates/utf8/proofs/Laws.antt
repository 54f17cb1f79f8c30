-- Judging and turning go from unit to unit: nothing that rests on these laws looks at the count of units.
-- Assumes nothing.
use Prim.Native.Nat.{ℕ, zero, suc, ◌≤◌, ◌<◌}
use native.Mathlib.Omega.{arith}
use mathlib.Core.Bool.{true, false}
use mathlib.Core.List.{List, [], ◌∷◌, ◌++◌}
use mathlib.Core.Path.{◌≡◌, refl, ap}
use lib.Dec.{leb}
use lib.ListN.{length, drop, length-drop}
use borrow.Author.Tests.{lt-leb}
use Rattle.basics.specs.Choice.{pick}
use Rattle.utf8.specs.Turning.{size_by, size_of, right_after, right_by, is_modified, turn_by, turn_of, go_on, turned_by, turned}

-- ---- turning

pub turned_none : turned [] ≡ []
unfolding turned turned_by
turned_none = refl

-- a count that the bytes don't reach changes nothing
turned_enough : (k j : ℕ) (bytes : List ℕ) → length bytes ≤ k → length bytes ≤ j → turned_by k bytes ≡ turned_by j bytes
unfolding turned_by turn_of turn_by
turned_enough zero zero bytes p q = refl
turned_enough zero (suc j) [] p q = refl
turned_enough zero (suc j) (x ∷ bytes) p q = absurd (omega arith)
turned_enough (suc k) zero [] p q = refl
turned_enough (suc k) zero (x ∷ bytes) p q = absurd (omega arith)
turned_enough (suc k) (suc j) bytes p q = by_taken (turn_of bytes).taken (λ list s t. turned_enough k j list s t)
  where
    by_taken :
        (n : ℕ) → ((list : List ℕ) → length list ≤ k → length list ≤ j → turned_by k list ≡ turned_by j list) →
        go_on n (λ taken. (turn_of bytes).given ++ turned_by k (drop taken bytes))
        ≡ go_on n (λ taken. (turn_of bytes).given ++ turned_by j (drop taken bytes))
    by_taken zero onward = refl
    by_taken (suc n) onward =
        ap (λ (l : List ℕ). (turn_of bytes).given ++ l)
        (onward (drop (suc n) bytes) (rw length-drop (omega arith)) (rw length-drop (omega arith)))

module _ (n : ℕ) where
  pub turned_more :
      (bytes : List ℕ) → (turn_of bytes).taken ≡ suc n → turned bytes ≡ (turn_of bytes).given ++ turned (drop (suc n) bytes)
  unfolding turned turned_by turn_of turn_by
  turned_more [] e = absurd (omega (arith, e))
  turned_more (x ∷ bytes) e =
      rw e
      (ap (λ (l : List ℕ). (turn_of (x ∷ bytes)).given ++ l)
      (turned_enough (length bytes) (length (drop n bytes)) (drop n bytes) (rw length-drop (omega arith)) (omega arith)))

pub turned_stops : (bytes : List ℕ) → (turn_of bytes).taken ≡ 0 → turned bytes ≡ []
unfolding turned turned_by
turned_stops [] e = refl
turned_stops (x ∷ bytes) e = rw e

-- ---- judging

pub right_none : is_modified [] ≡ true
unfolding is_modified right_by
right_none = refl

right_enough : (k j : ℕ) (bytes : List ℕ) → length bytes ≤ k → length bytes ≤ j → right_by k bytes ≡ right_by j bytes
unfolding right_by
right_enough zero zero bytes p q = refl
right_enough zero (suc j) [] p q = refl
right_enough zero (suc j) (x ∷ bytes) p q = absurd (omega arith)
right_enough (suc k) zero [] p q = refl
right_enough (suc k) zero (x ∷ bytes) p q = absurd (omega arith)
right_enough (suc k) (suc j) bytes p q =
    ap (pick (leb (length bytes) 0) true) (by_size (size_of bytes) (λ list s t. right_enough k j list s t))
  where
    by_size :
        (n : ℕ) → ((list : List ℕ) → length list ≤ k → length list ≤ j → right_by k list ≡ right_by j list) →
        right_after n (λ size. right_by k (drop size bytes)) ≡ right_after n (λ size. right_by j (drop size bytes))
    by_size zero onward = refl
    by_size (suc n) onward = onward (drop (suc n) bytes) (rw length-drop (omega arith)) (rw length-drop (omega arith))

module _ (n : ℕ) where
  pub right_more : (bytes : List ℕ) → size_of bytes ≡ suc n → is_modified bytes ≡ is_modified (drop (suc n) bytes)
  unfolding is_modified right_by size_of size_by
  right_more [] e = absurd (omega (arith, e))
  right_more (x ∷ bytes) e =
      rw (lt-leb (suc (length bytes)) 0 (omega arith), e)
      (right_enough (length bytes) (length (drop n bytes)) (drop n bytes) (rw length-drop (omega arith)) (omega arith))

pub right_stops : (bytes : List ℕ) → 0 < length bytes → size_of bytes ≡ 0 → is_modified bytes ≡ false
unfolding is_modified right_by
right_stops [] some e = absurd (omega arith)
right_stops (x ∷ bytes) some e = rw (lt-leb (suc (length bytes)) 0 (omega arith), e)
