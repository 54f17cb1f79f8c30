-- The test of two lists tells whether they are equal.
-- Assumes nothing.
use Prim.Native.Nat.{ℕ}
use mathlib.Core.Path.{◌≡◌, refl, ap₂, subst}
use mathlib.Core.Bool.{Bool, true, false}
use mathlib.Core.List.{List, [], ◌∷◌}
use native.Mathlib.Omega.{arith}
use lib.Dec.{T, eqb, eqb→eq, eqb_refl}
use Rattle.basics.specs.Choice.{both, same_list}
use Rattle.basics.proofs.Every.{both_first, both_second}

holds : (b : Bool) → T b → b ≡ true
holds true t = refl
holds false t = absurd t

both_hold : (a b : Bool) → T a → T b → T (both a b)
both_hold true b s t = t
both_hold false b s t = absurd s

same_refl : (xs : List ℕ) → T (same_list xs xs)
same_refl [] = tt
same_refl (x ∷ xs) = both_hold (eqb x x) (same_list xs xs) (eqb_refl x) (same_refl xs)

pub are_same : (xs ys : List ℕ) → T (same_list xs ys) → xs ≡ ys
are_same [] [] t = refl
are_same [] (y ∷ ys) t = absurd t
are_same (x ∷ xs) [] t = absurd t
are_same (x ∷ xs) (y ∷ ys) t =
    ap₂ ◌∷◌ (eqb→eq x y (both_first (eqb x y) (same_list xs ys) t)) (are_same xs ys (both_second (eqb x y) (same_list xs ys) t))

-- equal lists pass, and no others do
pub same_yes : (xs ys : List ℕ) → xs ≡ ys → same_list xs ys ≡ true
same_yes xs ys e = holds (same_list xs ys) (subst (λ (l : List ℕ). T (same_list xs l)) e (same_refl xs))

pub same_no : (xs ys : List ℕ) → (xs ≡ ys → ⊥) → same_list xs ys ≡ false
same_no xs ys other = by_test (same_list xs ys) (λ t. other (are_same xs ys t))
  where
    by_test : (b : Bool) → (T b → ⊥) → b ≡ false
    by_test true never = absurd (never tt)
    by_test false never = refl

-- an answer that tells whether two lists are equal is the test of them
pub same_told : (r : Bool) (xs ys : List ℕ) → (r ≡ true → xs ≡ ys) → (xs ≡ ys → r ≡ true) → same_list xs ys ≡ r
same_told true xs ys told back = same_yes xs ys (told refl)
same_told false xs ys told back = same_no xs ys (λ e. never (back e))
  where
    never : false ≡ true → ⊥
    never e = let z : ◌≡◌ {A = ℕ} 0 1 = cc in absurd (omega arith)
