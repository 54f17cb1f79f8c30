-- What is known of a member, by whether its part is empty.
-- Assumes nothing.
use Prim.Native.Nat.{ℕ}
use native.Mathlib.Omega.{arith}
use mathlib.Core.Path.{◌≡◌, refl}
use mathlib.Core.List.{List, [], ◌∷◌}
use lib.ListN.{length}
use Rattle.items.specs.Text.{descriptor_of}
use Rattle.effects.specs.Lookup.{missing, known, known_by}

pub known_none : (texts : List ℕ) → length texts ≡ 0 → known_by texts ≡ missing
known_none [] e = refl
known_none (x ∷ xs) e = absurd (omega arith)

pub known_some : (texts : List ℕ) → (length texts ≡ 0 → ⊥) → known_by texts ≡ known (descriptor_of texts)
known_some [] some = absurd (some refl)
known_some (x ∷ xs) some = refl
