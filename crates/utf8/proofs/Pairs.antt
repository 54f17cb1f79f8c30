-- Two surrogates that are one character.
-- Rests on: the forms of a unit and what the tests say of them (Forms).
-- Assumes nothing.
use Prim.Native.Nat.{ℕ, ◌+◌, ◌-◌, ◌*◌, ◌/◌, ◌%◌, ◌≤◌}
use native.Mathlib.Omega.{arith}
use mathlib.Core.Bool.{Bool, false}
use mathlib.Core.List.{List, [], ◌∷◌, ◌++◌}
use mathlib.Core.Path.{◌≡◌, refl, ap}
use lib.ListN.{drop}
use borrow.Author.Tests.{le-leb, le-ltb, ne_eqb}
use Rattle.basics.specs.Bytes.{byte_at}
use Rattle.utf8.specs.Turning.{is_trail, turns, point_by, four_bytes, turn_by, turn_of}
use Rattle.utf8.specs.Units.{unit_bytes, modified, point_bytes, trails, Units, none, more}
use Rattle.utf8.proofs.Ranges.{in_range, below, above}
use Rattle.utf8.proofs.Forms.{x2, x3, y3, last, three, Form, single, null, double, triple, form}
use Rattle.utf8.proofs.Forms.{triple_no_pair, triple_is, surrogate_is, trail_is}

-- ---- the character

abbrev pub character : ℕ → ℕ → ℕ
character u v = 65536 + (u - 55296) * 1024 + (v - 56320)

module _ (u v : ℕ) (a : 55296 ≤ u) (b : u ≤ 56319) (c : 56320 ≤ v) (d : v ≤ 57343) where
  -- the bits of each half, over one variable each
  high_half : (y3 u % 16) * 65536 + (last u % 64) * 1024 ≡ (u - 55296) * 1024
  high_half =
      let high : y3 u % 16 ≡ u / 64 - 864 = omega arith in
      let low : last u % 64 ≡ u % 64 = omega arith in
      rw (high, low) (sum u a)
    where
      sum : (n : ℕ) → 55296 ≤ n → (n / 64 - 864) * 65536 + n % 64 * 1024 ≡ (n - 55296) * 1024
      sum n low = omega arith

  low_half : (y3 v % 16) * 64 + last v % 64 ≡ v - 56320
  low_half =
      let high : y3 v % 16 ≡ v / 64 - 880 = omega arith in
      let low : last v % 64 ≡ v % 64 = omega arith in
      rw (high, low) (sum v c)
    where
      sum : (n : ℕ) → 56320 ≤ n → (n / 64 - 880) * 64 + n % 64 ≡ n - 56320
      sum n low = omega arith

  point_is : point_by (y3 u) (last u) (y3 v) (last v) ≡ character u v
  point_is =
      sums ((y3 u % 16) * 65536) ((last u % 64) * 1024) ((y3 v % 16) * 64) (last v % 64) ((u - 55296) * 1024) (v - 56320) high_half low_half
    where
      sums : (a b c d p q : ℕ) → a + b ≡ p → c + d ≡ q → 65536 + a + b + c + d ≡ 65536 + p + q
      sums a b c d p q e f = omega arith

  module _ (rest : List ℕ) where
    pub turn_pair : turn_of (unit_bytes u ++ (unit_bytes v ++ rest)) ≡ turns 6 (point_bytes (character u v))
    unfolding turn_of turn_by point_bytes
    turn_pair =
        let big : 65536 ≤ character u v = omega arith in
        rw (three u (omega arith) (omega arith), three v (omega arith) (omega arith))
        (rw (
          above 1 127 (x3 u) (omega arith),
          triple_no_pair u (y3 u) (omega arith),
          triple_is u (omega arith) (omega arith),
          surrogate_is u (omega arith),
          in_range 55296 57343 u a (omega arith),
          le-leb (y3 u) 175 (omega arith),
          trail_is v (omega arith),
          in_range 56320 57343 v c d,
          le-ltb (character u v) 128 (omega (arith, big)),
          le-ltb (character u v) 2048 (omega (arith, big)),
          le-ltb (character u v) 65536 big,
        )
        (ap (λ (q : ℕ). turns 6 (four_bytes q)) point_is))

    pub behind_pair : drop 6 (unit_bytes u ++ (unit_bytes v ++ rest)) ≡ rest
    behind_pair = rw (three u (omega arith) (omega arith), three v (omega arith) (omega arith))

-- ---- whether the second of a pair follows

abbrev pub starts_trail : List ℕ → Bool
starts_trail [] = false
starts_trail (v ∷ units) = trails v

pub trail_start :
    (units : List ℕ) → Units units →
    is_trail (byte_at (modified units) 0) (byte_at (modified units) 1) (byte_at (modified units) 2) ≡ starts_trail units
unfolding modified
trail_start [] none = refl
trail_start (v ∷ units) (more high rest) = of (form v high)
  where
    text : List ℕ
    text = unit_bytes v ++ modified units

    of : Form v → is_trail (byte_at text 0) (byte_at text 1) (byte_at text 2) ≡ trails v
    of (single a b is) = rw is (rw (ne_eqb v 237 (λ e. omega (arith, e)), below 56320 57343 v (omega arith)))
    of (null z is) = rw (is, z)
    of (double a b is) = rw is (rw (ne_eqb (x2 v) 237 (λ e. omega (arith, e)), below 56320 57343 v (omega arith)))
    of (triple a b is) = rw is (trail_is v high)
