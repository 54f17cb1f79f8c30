-- A text over the start of a list that is no shorter, and what the list held behind it.
-- Assumes nothing.
use Prim.Native.Nat.{ℕ, ◌≤◌}
use native.Mathlib.Nat.{not-suc-le-zero, le_of_suc-le-suc}
use mathlib.Core.Path.{◌≡◌, refl, ap}
use mathlib.Core.List.{List, [], ◌∷◌, ◌++◌}
use lib.ListN.{length, drop}
use Rattle.text.specs.Writing.{over}

pub over_holds : (text list : List ℕ) → length text ≤ length list → over text list ≡ text ++ drop (length text) list
unfolding over
over_holds [] list fits = refl
over_holds (x ∷ text) [] fits = absurd (not-suc-le-zero fits)
over_holds (x ∷ text) (y ∷ list) fits = ap (λ (l : List ℕ). x ∷ l) (over_holds text list (le_of_suc-le-suc fits))
