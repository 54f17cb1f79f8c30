-- What keeps two lists together, item by item.
-- Assumes nothing.
use Prim.Native.Nat.{ℕ, zero, suc, ◌<◌}
use native.Mathlib.Nat.{not-suc-le-zero, le_of_suc-le-suc}
use mathlib.Core.Path.{◌≡◌, refl, ap}
use mathlib.Core.List.{List, ◌++◌}
use lib.ListN.{length, get_or, take, drop, replicate}
use Rattle.basics.specs.Each.{Each, none, one}

module _ {A B : Type 0} {R : A → B → Type 0} where
  pub each_length : {xs : List A} {ys : List B} → Each R xs ys → length xs ≡ length ys
  each_length none = refl
  each_length (one r h) = ap suc (each_length h)

  pub each_take : (k : ℕ) {xs : List A} {ys : List B} → Each R xs ys → Each R (take k xs) (take k ys)
  each_take zero none = none
  each_take zero (one r h) = none
  each_take (suc k) none = none
  each_take (suc k) (one r h) = one r (each_take k h)

  pub each_drop : (k : ℕ) {xs : List A} {ys : List B} → Each R xs ys → Each R (drop k xs) (drop k ys)
  each_drop zero none = none
  each_drop zero (one r h) = one r h
  each_drop (suc k) none = none
  each_drop (suc k) (one r h) = each_drop k h

  pub each_append :
      {xs more : List A} {ys others : List B} → Each R xs ys → Each R more others → Each R (xs ++ more) (ys ++ others)
  each_append none g = g
  each_append (one r h) g = one r (each_append h g)

  pub each_replicate : (n : ℕ) (a : A) (b : B) → R a b → Each R (replicate n a) (replicate n b)
  each_replicate zero a b r = none
  each_replicate (suc n) a b r = one r (each_replicate n a b r)

  pub each_at :
      {xs : List A} {ys : List B} → Each R xs ys → (k : ℕ) → k < length xs → (a : A) (b : B) → R (get_or xs k a) (get_or ys k b)
  each_at none k below a b = absurd (not-suc-le-zero below)
  each_at (one r h) zero below a b = r
  each_at (one r h) (suc k) below a b = each_at h k (le_of_suc-le-suc below) a b
