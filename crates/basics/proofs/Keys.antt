-- A computed test holds of the opcodes that no arm of a match has as a key. The last arm comes first in the list of keys.
-- Assumes nothing.
use Prim.Native.Nat.{ℕ, ◌+◌, ◌≤◌, ◌<◌}
use mathlib.Core.Path.{◌≡◌, refl}
use mathlib.Core.Bool.{Bool, true, false}
use mathlib.Core.List.{List, [], ◌∷◌}
use mathlib.Core.Logic.{inl, inr}
use lib.Dec.{T}
use borrow.Author.Tests.{ne_eqb}
use types.Run.{OneOf}
use Rattle.basics.specs.Choice.{pick, one_of}
use Rattle.basics.proofs.Every.{every, every_from}

abbrev pub keyed : List (List ℕ) → ℕ → Bool
keyed [] op = false
keyed (keys ∷ arms) op = pick (one_of keys op) true (keyed arms op)

abbrev pub Unkeyed : List (List ℕ) → ℕ → Type 0
Unkeyed [] op = Unit {0}
Unkeyed (keys ∷ arms) op = Unkeyed arms op × (OneOf keys op → ⊥)

none_of : (keys : List ℕ) (op : ℕ) → (OneOf keys op → ⊥) → one_of keys op ≡ false
none_of [] op never = refl
none_of (k ∷ []) op never = rw (ne_eqb op k never)
none_of (k ∷ k' ∷ keys) op never = rw (ne_eqb op k (λ e. never (inl e))) (none_of (k' ∷ keys) op (λ o. never (inr o)))

not_keyed : (arms : List (List ℕ)) (op : ℕ) → Unkeyed arms op → keyed arms op ≡ false
not_keyed [] op rest = refl
not_keyed (keys ∷ arms) op rest = rw (none_of keys op rest.1) (not_keyed arms op rest.0)

-- a key, or the test holds
abbrev pub or_key : List (List ℕ) → (ℕ → Bool) → ℕ → Bool
or_key arms test op = pick (keyed arms op) true (test op)

-- of the n opcodes from a on, those that are no keys pass
pub every_unkeyed :
    (test : ℕ → Bool) (arms : List (List ℕ)) (a n : ℕ) → T (every (λ k. or_key arms test (a + k)) n) →
    (op : ℕ) → a ≤ op → op < a + n → Unkeyed arms op → T (test op)
every_unkeyed test arms a n t op from below rest =
    rw (not_keyed arms op rest) at (every_from (or_key arms test) a n t op from below)
