-- A number lies in a range, below it or above it, and a choice whose first side may use its test.
-- Assumes nothing.
use Prim.Native.Nat.{ℕ, ◌≤◌, ◌<◌}
use mathlib.Core.Bool.{Bool, true, false}
use mathlib.Core.Path.{◌≡◌, refl}
use lib.Dec.{T, leb, leb→le}
use borrow.Author.Tests.{le-leb, lt-leb, leb-true, leb-false}
use Rattle.basics.specs.Choice.{pick, both, between}
use Rattle.basics.proofs.Every.{both_first, both_second}

pub in_range : (a b n : ℕ) → a ≤ n → n ≤ b → between a b n ≡ true
in_range a b n low high = rw (le-leb a n low, le-leb n b high)

pub below : (a b n : ℕ) → n < a → between a b n ≡ false
below a b n h = rw (lt-leb a n h)

pub above : (a b n : ℕ) → b < n → between a b n ≡ false
above a b n h = by_start (leb a n)
  where
    by_start : (t : Bool) → both t (leb n b) ≡ false
    by_start true = lt-leb n b h
    by_start false = refl

pub data Lies (a b n : ℕ) : Type 0 where
  inside : a ≤ n → n ≤ b → Lies a b n
  under : n < a → Lies a b n
  over : b < n → Lies a b n

pub lies : (a b n : ℕ) → Lies a b n
lies a b n = by_tests (leb a n) refl (leb n b) refl
  where
    by_tests : (s : Bool) → leb a n ≡ s → (t : Bool) → leb n b ≡ t → Lies a b n
    by_tests true e true f = inside (leb-true a n e) (leb-true n b f)
    by_tests true e false f = over (leb-false n b f)
    by_tests false e t f = under (leb-false a n e)

-- the ends of a range that a number is in
pub from_low : (a b n : ℕ) → T (between a b n) → a ≤ n
from_low a b n t = leb→le a n (both_first (leb a n) (leb n b) t)

pub to_high : (a b n : ℕ) → T (between a b n) → n ≤ b
to_high a b n t = leb→le n b (both_second (leb a n) (leb n b) t)

pub chosen_if : {A : Type 0} (P : A → Type 0) (b : Bool) (x y : A) → (T b → P x) → P y → P (pick b x y)
chosen_if P true x y p q = p tt
chosen_if P false x y p q = q
