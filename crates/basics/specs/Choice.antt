-- A choice by a test, and tests that definitions share.
-- Assumes nothing.
use Rattle.std.specs.Prelude.{ℕ, Bool, true, false, List, [], ◌∷◌, eqb, leb}

-- the first of two where the test holds, else the second
abbrev pub pick : {A : Type 0} → Bool → A → A → A
pick true a b = a
pick false a b = b

-- both tests hold
abbrev pub both : Bool → Bool → Bool
both true b = b
both false b = false

-- two tests have the same outcome
abbrev pub alike : Bool → Bool → Bool
alike true b = b
alike false true = false
alike false false = true

-- a number is in a list
abbrev pub one_of : List ℕ → ℕ → Bool
one_of [] n = false
one_of (x ∷ xs) n = pick (eqb n x) true (one_of xs n)

-- a number is from a to b
abbrev pub between : ℕ → ℕ → ℕ → Bool
between a b n = both (leb a n) (leb n b)

-- two lists are the same
abbrev pub same_list : List ℕ → List ℕ → Bool
same_list [] [] = true
same_list [] (y ∷ ys) = false
same_list (x ∷ xs) [] = false
same_list (x ∷ xs) (y ∷ ys) = both (eqb x y) (same_list xs ys)
