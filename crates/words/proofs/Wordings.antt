-- No number but 1 and 2 names a wording.
-- Assumes nothing.
use Rattle.std.specs.Prelude.{None}
use Prim.Native.Nat.{ℕ, zero, suc}
use mathlib.Core.Path.{◌≡◌, refl}
use Rattle.words.specs.Wording.{wording_by}

pub unknown : (number : ℕ) → (number ≡ 1 → ⊥) → (number ≡ 2 → ⊥) → wording_by number ≡ None
unknown zero one two = refl
unknown (suc zero) one two = absurd (one refl)
unknown (suc (suc zero)) one two = absurd (two refl)
unknown (suc (suc (suc number))) one two = refl
