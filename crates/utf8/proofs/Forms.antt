-- The bytes of one unit: what a reader makes of them, whatever follows.
-- Assumes nothing.
use Prim.Native.Nat.{ℕ, zero, suc, ◌+◌, ◌/◌, ◌%◌, ◌≤◌, ◌<◌}
use native.Mathlib.Omega.{arith}
use mathlib.Core.Bool.{Bool, true, false}
use mathlib.Core.List.{List, [], ◌∷◌, ◌++◌}
use mathlib.Core.Path.{◌≡◌, refl, ap}
use lib.Dec.{eqb, leb}
use lib.ListN.{length}
use borrow.Author.Tests.{le-leb, lt-leb, lt-ltb, le-ltb, eq-eqb, ne_eqb, eqb-true}
use Rattle.basics.specs.Bytes.{byte_at}
use Rattle.basics.specs.Choice.{pick, both, between}
use Rattle.utf8.specs.Turning.{is_tail, is_pair, is_triple, is_trail, size_by, size_of, Turned, turns, surrogate_by, turn_by, turn_of}
use Rattle.utf8.specs.Units.{unit_bytes, point_bytes, leads, trails, alone}
use Rattle.utf8.proofs.Ranges.{in_range, below, above, Lies, inside, under, over, lies}

-- ---- the three forms

abbrev pub x2 : ℕ → ℕ
x2 u = 192 + u / 64

abbrev pub x3 : ℕ → ℕ
x3 u = 224 + u / 4096

abbrev pub y3 : ℕ → ℕ
y3 u = 128 + u / 64 % 64

abbrev pub last : ℕ → ℕ
last u = 128 + u % 64

pub two : (u : ℕ) → 128 ≤ u → u < 2048 → unit_bytes u ≡ x2 u ∷ last u ∷ []
unfolding unit_bytes
two u low high = rw (above 1 127 u (omega arith), lt-ltb u 2048 high)

pub three : (u : ℕ) → 2048 ≤ u → u < 65536 → unit_bytes u ≡ x3 u ∷ y3 u ∷ last u ∷ []
unfolding unit_bytes
three u low high = rw (above 1 127 u (omega arith), le-ltb u 2048 low)

pub data Form (u : ℕ) : Type 0 where
  single : 1 ≤ u → u ≤ 127 → unit_bytes u ≡ u ∷ [] → Form u
  null : u ≡ 0 → unit_bytes u ≡ 192 ∷ 128 ∷ [] → Form u
  double : 128 ≤ u → u < 2048 → unit_bytes u ≡ x2 u ∷ last u ∷ [] → Form u
  triple : 2048 ≤ u → u < 65536 → unit_bytes u ≡ x3 u ∷ y3 u ∷ last u ∷ [] → Form u

pub form : (u : ℕ) → u < 65536 → Form u
unfolding unit_bytes
form zero high = null refl refl
form (suc n) high = of (lies 1 127 (suc n)) (lies 128 2047 (suc n))
  where
    of : Lies 1 127 (suc n) → Lies 128 2047 (suc n) → Form (suc n)
    of (inside a b) l = single a b (rw (in_range 1 127 (suc n) a b))
    of (under a) l = absurd (omega arith)
    of (over a) (inside b c) = double b (omega arith) (two (suc n) b (omega arith))
    of (over a) (under b) = absurd (omega arith)
    of (over a) (over b) = triple (omega arith) high (three (suc n) (omega arith) high)

-- a unit has a byte at least
pub one_at_least : (u : ℕ) → u < 65536 → (n : ℕ) × (length (unit_bytes u) ≡ suc n)
one_at_least u high = of (form u high)
  where
    of : Form u → (n : ℕ) × (length (unit_bytes u) ≡ suc n)
    of (single a b is) = (0, ap length is)
    of (null z is) = (1, ap length is)
    of (double a b is) = (1, ap length is)
    of (triple a b is) = (2, ap length is)

-- ---- what the tests say of them

pub pair_is : (u : ℕ) → 128 ≤ u → u < 2048 → is_pair (x2 u) (last u) ≡ true
pair_is u low high =
    rw (
      ne_eqb (x2 u) 192 (λ e. omega (arith, e)),
      in_range 194 223 (x2 u) (omega arith) (omega arith),
      in_range 128 191 (last u) (omega arith) (omega arith),
    )

pub triple_no_pair : (u y : ℕ) → u < 65536 → is_pair (x3 u) y ≡ false
triple_no_pair u y high = rw (ne_eqb (x3 u) 192 (λ e. omega (arith, e)), above 194 223 (x3 u) (omega arith))

pub triple_is : (u : ℕ) → 2048 ≤ u → u < 65536 → is_triple (x3 u) (y3 u) (last u) ≡ true
triple_is u low high = rw (in_range 128 191 (last u) (omega arith) (omega arith)) (by_first (lies 2048 4095 u))
  where
    by_first :
        Lies 2048 4095 u → pick (eqb (x3 u) 224) (between 160 191 (y3 u)) (both (between 225 239 (x3 u)) (is_tail (y3 u))) ≡ true
    by_first (inside a b) = rw (eq-eqb (x3 u) 224 (omega arith)) (in_range 160 191 (y3 u) (omega arith) (omega arith))
    by_first (under a) = absurd (omega arith)
    by_first (over a) =
        rw (ne_eqb (x3 u) 224 (λ e. omega (arith, e)), in_range 225 239 (x3 u) (omega arith) (omega arith))
        (in_range 128 191 (y3 u) (omega arith) (omega arith))

pub surrogate_is : (u : ℕ) → u < 65536 → both (eqb (x3 u) 237) (leb 160 (y3 u)) ≡ between 55296 57343 u
surrogate_is u high = of (lies 55296 57343 u)
  where
    by_first : u < 55296 → (t : Bool) → eqb (x3 u) 237 ≡ t → both t (leb 160 (y3 u)) ≡ false
    by_first a true e = lt-leb 160 (y3 u) (omega (arith, eqb-true (x3 u) 237 e))
    by_first a false e = refl

    of : Lies 55296 57343 u → both (eqb (x3 u) 237) (leb 160 (y3 u)) ≡ between 55296 57343 u
    of (inside a b) = rw (eq-eqb (x3 u) 237 (omega arith), le-leb 160 (y3 u) (omega arith), in_range 55296 57343 u a b)
    of (under a) = rw (below 55296 57343 u a) (by_first a (eqb (x3 u) 237) refl)
    of (over a) = rw (above 55296 57343 u a, ne_eqb (x3 u) 237 (λ e. omega (arith, e)))

pub trail_is : (u : ℕ) → u < 65536 → is_trail (x3 u) (y3 u) (last u) ≡ trails u
trail_is u high = rw (in_range 128 191 (last u) (omega arith) (omega arith)) (of (lies 56320 57343 u))
  where
    by_first : u < 56320 → (t : Bool) → eqb (x3 u) 237 ≡ t → both t (both (between 176 191 (y3 u)) true) ≡ false
    by_first a true e = rw (below 176 191 (y3 u) (omega (arith, eqb-true (x3 u) 237 e)))
    by_first a false e = refl

    of : Lies 56320 57343 u → both (eqb (x3 u) 237) (both (between 176 191 (y3 u)) true) ≡ trails u
    of (inside a b) =
        rw (eq-eqb (x3 u) 237 (omega arith), in_range 176 191 (y3 u) (omega arith) (omega arith), in_range 56320 57343 u a b)
    of (under a) = rw (below 56320 57343 u a) (by_first a (eqb (x3 u) 237) refl)
    of (over a) = rw (above 56320 57343 u a, ne_eqb (x3 u) 237 (λ e. omega (arith, e)))

-- ---- one unit, and what follows

module _ (rest : List ℕ) (u : ℕ) (high : u < 65536) where
  pub size_unit : size_of (unit_bytes u ++ rest) ≡ length (unit_bytes u)
  unfolding size_of size_by
  size_unit = of (form u high)
    where
      of : Form u → size_of (unit_bytes u ++ rest) ≡ length (unit_bytes u)
      of (single a b is) = rw is (rw (in_range 1 127 u a b))
      of (null z is) = rw is
      of (double a b is) = rw is (rw (above 1 127 (x2 u) (omega arith), pair_is u a b))
      of (triple a b is) = rw is (rw (above 1 127 (x3 u) (omega arith), triple_no_pair u (y3 u) b, triple_is u a b))

  -- a unit that is no half of a pair
  pub turn_alone :
      (leads u ≡ true → is_trail (byte_at rest 0) (byte_at rest 1) (byte_at rest 2) ≡ false) →
      turn_of (unit_bytes u ++ rest) ≡ turns (length (unit_bytes u)) (point_bytes (alone u))
  unfolding turn_of turn_by point_bytes
  turn_alone lone = of (form u high)
    where
      -- a surrogate by what follows it
      behind : Turned
      behind = surrogate_by (y3 u) (last u) (byte_at rest 0) (byte_at rest 1) (byte_at rest 2)

      replaced : 55296 ≤ u → u ≤ 57343 → Lies 55296 56319 u → behind ≡ turns 3 (239 ∷ 191 ∷ 189 ∷ [])
      replaced a b (inside l h) = rw (le-leb (y3 u) 175 (omega arith), lone (in_range 55296 56319 u l h))
      replaced a b (under l) = absurd (omega arith)
      replaced a b (over h) = rw (lt-leb (y3 u) 175 (omega arith))

      of_three :
          2048 ≤ u → Lies 55296 57343 u →
          pick (between 55296 57343 u) behind (turns 3 (x3 u ∷ y3 u ∷ last u ∷ [])) ≡ turns 3 (point_bytes (alone u))
      of_three low (inside a b) = rw (in_range 55296 57343 u a b) (replaced a b (lies 55296 56319 u))
      of_three low (under a) = rw (below 55296 57343 u a, le-ltb u 128 (omega arith), le-ltb u 2048 low, lt-ltb u 65536 high)
      of_three low (over a) = rw (above 55296 57343 u a, le-ltb u 128 (omega arith), le-ltb u 2048 low, lt-ltb u 65536 high)

      of : Form u → turn_of (unit_bytes u ++ rest) ≡ turns (length (unit_bytes u)) (point_bytes (alone u))
      of (single a b is) = rw is (rw (in_range 1 127 u a b, below 55296 57343 u (omega arith), lt-ltb u 128 (omega arith)))
      of (null z is) = rw (is, z)
      of (double a b is) =
          rw is
          (rw (
            above 1 127 (x2 u) (omega arith),
            pair_is u a b,
            ne_eqb (x2 u) 192 (λ e. omega (arith, e)),
            below 55296 57343 u (omega arith),
            le-ltb u 128 a,
            lt-ltb u 2048 b,
          ))
      of (triple a b is) =
          rw is
          (rw (above 1 127 (x3 u) (omega arith), triple_no_pair u (y3 u) b, triple_is u a b, surrogate_is u b)
          (of_three a (lies 55296 57343 u)))
