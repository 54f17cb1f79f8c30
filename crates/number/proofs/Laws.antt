-- A number lies in the bytes that it is read from; and a number by its first group, as the code reads it.
-- Assumes nothing.
use Rattle.std.specs.Prelude.{Option, Some, None}
use Prim.Native.Nat.{ℕ, suc, ◌+◌, ◌-◌, ◌*◌, ◌/◌, ◌≤◌, ◌<◌}
use native.Mathlib.Omega.{arith}
use native.Mathlib.Numerals.{add-one}
use mathlib.Core.Path.{◌≡◌, ◌∙◌, refl}
use mathlib.Core.Bool.{Bool, true, false}
use mathlib.Core.List.{List, [], ◌∷◌}
use lib.Dec.{eqb, ltb, leb}
use lib.ListN.{length, get_or, drop, length-drop, drop_of_length-le}
use lib.Seq.{drop-cons}
use borrow.Author.Tests.{lt-ltb, le-ltb, le-leb, lt-leb, eqb-false, ltb-true, ltb-false, leb-true, leb-false}
use Rattle.basics.specs.Choice.{pick}
use Rattle.number.specs.Number.{further, grouped, number_from, limited, number_at, number_within}

-- ---- where a number lies

-- a number that a run of so many bytes from a place on starts with
abbrev FromWithin : ℕ → ℕ → Option (ℕ × ℕ) → Type 0
FromWithin size at (Some (v, next)) = (at < next) × (next ≤ at + size)
FromWithin size at None = Unit {0}

further_within : (size at low : ℕ) (n : Option (ℕ × ℕ)) → FromWithin size (at + 1) n → FromWithin (suc size) at (further low n)
further_within size at low (Some (v, next)) h = by_test (eqb v 0)
  where
    by_test : (t : Bool) → FromWithin (suc size) at (pick t None (Some (low + 128 * v, next)))
    by_test true = tt
    by_test false = (omega arith, omega arith)
further_within size at low None h = tt

from_within : (run : List ℕ) (at : ℕ) → FromWithin (length run) at (number_from run at)
unfolding number_from
from_within [] at = tt
from_within (group ∷ rest) at = by_test (ltb group 128) (from_within rest (at + 1))
  where
    by_test :
        (t : Bool) → FromWithin (length rest) (at + 1) (number_from rest (at + 1)) →
        FromWithin (suc (length rest)) at (grouped t group at (λ next. number_from rest next))
    by_test true h = (omega arith, omega arith)
    by_test false h = further_within (length rest) at (group - 128) (number_from rest (at + 1)) h

pub number-within : (limit : ℕ) (bytes : List ℕ) (at : ℕ) → number_within limit (length bytes) at (number_at limit bytes at)
unfolding number_at
number-within limit bytes at = of (number_from (drop at bytes) at) (from_within (drop at bytes) at)
  where
    of : (n : Option (ℕ × ℕ)) → FromWithin (length (drop at bytes)) at n → number_within limit (length bytes) at (limited limit n)
    of (Some (v, next)) h = by_test (leb v limit) refl
      where
        by_test : (t : Bool) → leb v limit ≡ t → number_within limit (length bytes) at (pick t (Some (v, next)) None)
        by_test true e = (leb-true v limit e, omega arith, omega (arith, length-drop at bytes))
        by_test false e = tt
    of None h = tt

-- ---- a number by its first group

module _ (limit : ℕ) (bytes : List ℕ) (at : ℕ) where
  pub number_past : length bytes ≤ at → number_at limit bytes at ≡ None
  unfolding number_at number_from
  number_past past = rw (drop_of_length-le bytes past)

  module _ (inside : at < length bytes) where
    pub number_one :
        get_or bytes at 0 < 128 →
        number_at limit bytes at ≡ pick (leb (get_or bytes at 0) limit) (Some (get_or bytes at 0, at + 1)) None
    unfolding number_at number_from
    number_one below = rw (drop-cons bytes at 0 inside, lt-ltb _ _ below)

    from_more :
        128 ≤ get_or bytes at 0 →
        number_from (drop at bytes) at ≡ further (get_or bytes at 0 - 128) (number_from (drop (at + 1) bytes) (at + 1))
    unfolding number_from
    from_more above =
        let next : drop at bytes ≡ get_or bytes at 0 ∷ drop (at + 1) bytes = rw (add-one, drop-cons bytes at 0) in
        rw (next, le-ltb _ _ above)

-- the limit of what follows a low group
limited_further :
    (limit low : ℕ) → low ≤ limit → (n : Option (ℕ × ℕ)) → limited limit (further low n) ≡ further low (limited ((limit - low) / 128) n)
limited_further limit low fits (Some (v, next)) = by_test (eqb v 0) refl (leb v ((limit - low) / 128)) refl
  where
    by_test :
        (z : Bool) → eqb v 0 ≡ z → (t : Bool) → leb v ((limit - low) / 128) ≡ t →
        limited limit (pick z None (Some (low + 128 * v, next))) ≡ further low (pick t (Some (v, next)) None)
    by_test true e true f = rw e
    by_test true e false f = refl
    by_test false e true f = rw (e, le-leb (low + 128 * v) limit (omega (arith, leb-true v ((limit - low) / 128) f)))
    by_test false e false f = rw (lt-leb (low + 128 * v) limit (omega (arith, leb-false v ((limit - low) / 128) f)))
limited_further limit low fits None = refl

-- below a limit of 128 nothing is in more than one group
small_further : (limit low : ℕ) → limit < 128 → (n : Option (ℕ × ℕ)) → limited limit (further low n) ≡ None
small_further limit low small (Some (v, next)) = by_test (eqb v 0) refl
  where
    by_test : (z : Bool) → eqb v 0 ≡ z → limited limit (pick z None (Some (low + 128 * v, next))) ≡ None
    by_test true e = refl
    by_test false e =
        let some : v ≡ 0 → ⊥ = eqb-false v 0 e in
        let above : 0 < v = omega arith in
        rw (lt-leb (low + 128 * v) limit (omega arith))
small_further limit low small None = refl

module _ (limit : ℕ) (bytes : List ℕ) (at : ℕ) (inside : at < length bytes) (above : 128 ≤ get_or bytes at 0) where
  pub number_small : limit < 128 → number_at limit bytes at ≡ None
  unfolding number_at
  number_small small =
      rw (from_more limit bytes at inside above)
      (small_further limit (get_or bytes at 0 - 128) small (number_from (drop (at + 1) bytes) (at + 1)))

  pub number_more :
      get_or bytes at 0 < 256 → 128 ≤ limit →
      number_at limit bytes at ≡ further (get_or bytes at 0 - 128) (number_at ((limit - (get_or bytes at 0 - 128)) / 128) bytes (at + 1))
  unfolding number_at
  number_more byte large =
      rw (from_more limit bytes at inside above)
      (limited_further limit (get_or bytes at 0 - 128) (omega arith) (number_from (drop (at + 1) bytes) (at + 1)))

-- one group above a limit below 128
pub number_above :
    (limit : ℕ) (bytes : List ℕ) (at : ℕ) → at < length bytes → limit < 128 → limit < get_or bytes at 0 →
    number_at limit bytes at ≡ None
number_above limit bytes at inside small over = by_test (ltb (get_or bytes at 0) 128) refl
  where
    by_test : (t : Bool) → ltb (get_or bytes at 0) 128 ≡ t → number_at limit bytes at ≡ None
    by_test true e =
        number_one limit bytes at inside (ltb-true (get_or bytes at 0) 128 e) ∙ rw (lt-leb (get_or bytes at 0) limit over)
    by_test false e = number_small limit bytes at inside (ltb-false (get_or bytes at 0) 128 e) small

-- a group with its top bit before a number of a known limit
pub number_behind :
    (limit inner : ℕ) (bytes : List ℕ) (at : ℕ) → at < length bytes → 128 ≤ get_or bytes at 0 → get_or bytes at 0 < 256 →
    128 ≤ limit → (limit - (get_or bytes at 0 - 128)) / 128 ≡ inner →
    number_at limit bytes at ≡ further (get_or bytes at 0 - 128) (number_at inner bytes (at + 1))
number_behind limit inner bytes at inside above byte large e = rw (← e) (number_more limit bytes at inside above byte large)
