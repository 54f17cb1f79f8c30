-- A class name with dots for slashes, byte by byte.
-- Assumes nothing.
use Prim.Native.Nat.{ℕ, zero, suc}
use mathlib.Core.Path.{◌≡◌, refl, ap}
use mathlib.Core.List.{List, [], ◌∷◌}
use lib.ListN.{length, get_or}
use Rattle.classname.specs.ClassName.{dot_of, dotted}

pub dotted_length : (name : List ℕ) → length (dotted name) ≡ length name
unfolding dotted
dotted_length [] = refl
dotted_length (x ∷ xs) = ap suc (dotted_length xs)

pub dotted_at : (name : List ℕ) (i : ℕ) → get_or (dotted name) i 0 ≡ dot_of (get_or name i 0)
unfolding dotted dot_of
dotted_at [] i = refl
dotted_at (x ∷ xs) zero = refl
dotted_at (x ∷ xs) (suc i) = dotted_at xs i
