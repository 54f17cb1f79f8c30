-- A number's digits: those before the last, then the last.
-- Assumes nothing.
use Prim.Native.Nat.{ℕ, zero, suc, ◌+◌, ◌/◌, ◌%◌, ◌^◌, ◌≤◌, ◌<◌}
use native.Mathlib.Nat.{pow-suc, div-lt_iff_lt-mul}
use native.Mathlib.Omega.{arith}
use mathlib.Core.Path.{◌≡◌, sym, ap}
use mathlib.Core.List.{List, [], ◌∷◌, ◌++◌}
use lib.Dec.{lit<, ltb}
use lib.ListN.{length, length-append}
use borrow.Author.Tests.{lt-ltb, le-ltb}
use Rattle.basics.specs.Choice.{pick}
use Rattle.basics.proofs.Choice.{chosen}
use Rattle.text.specs.Decimal.{digits, decimal}
use Rattle.text.specs.Writing.{over, splice}
use Rattle.text.proofs.Writing.{last_first}

-- k digits at most
digits_short : (k n : ℕ) → length (digits k n) ≤ k
unfolding digits
digits_short zero n = omega arith
digits_short (suc k) n =
    let last = (48 + n % 10) ∷ [] in
    chosen (λ (text : List ℕ). length text ≤ suc k) (ltb n 10) ((48 + n) ∷ []) (digits k (n / 10) ++ last) (omega arith)
    (omega (arith, length-append (digits k (n / 10)) last, digits_short k (n / 10)))

-- no number has more than twenty digits
pub decimal_short : (n : ℕ) → length (decimal n) ≤ 20
unfolding decimal
decimal_short n = digits_short 20 n

-- a number below ten is its own digit
pub one_digit : (n : ℕ) → n < 10 → decimal n ≡ (48 + n) ∷ []
unfolding decimal digits
one_digit n small = rw (lt-ltb n 10 small)

-- without its last digit a number has one place less
one_place_less : (n k : ℕ) → n < 10 ^ suc k → n / 10 < 10 ^ k
one_place_less n k below = (div-lt_iff_lt-mul (lit< tt)).1 (rw (pow-suc 10 k) at below)

-- a place more than a number fills changes nothing
enough : (k n : ℕ) → n < 10 ^ suc k → digits (suc (suc k)) n ≡ digits (suc k) n
unfolding digits
enough zero n below = rw (lt-ltb n 10 (omega arith))
enough (suc k) n below =
    ap (λ (before : List ℕ). pick (ltb n 10) ((48 + n) ∷ []) (before ++ ((48 + n % 10) ∷ [])))
    (enough k (n / 10) (one_place_less n (suc k) below))

-- of a number from ten on, the last digit stands behind those of its tenth
split :
    (k n : ℕ) → 10 ≤ n → n < 10 ^ suc (suc k) →
    digits (suc (suc k)) n ≡ digits (suc (suc k)) (n / 10) ++ ((48 + n % 10) ∷ [])
unfolding digits
split k n big below =
    rw (le-ltb n 10 big)
    (ap (λ (before : List ℕ). before ++ ((48 + n % 10) ∷ [])) (sym (enough k (n / 10) (one_place_less n (suc k) below))))

pub last_digit : (n : ℕ) → 10 ≤ n → n < 2 ^ 64 → decimal n ≡ decimal (n / 10) ++ ((48 + n % 10) ∷ [])
unfolding decimal
last_digit n big below = split 18 n big (omega arith)

-- so it has one digit more than its tenth
pub one_more : (n : ℕ) → 10 ≤ n → n < 2 ^ 64 → length (decimal n) ≡ length (decimal (n / 10)) + 1
one_more n big below = rw (last_digit n big below, length-append)

-- the last digit is written first, then those before it
pub last_written :
    (n at : ℕ) (out : List ℕ) → 10 ≤ n → n < 2 ^ 64 → at + 1 ≡ length (decimal n) →
    over (decimal (n / 10)) (splice at ((48 + n % 10) ∷ []) out) ≡ over (decimal n) out
last_written n at out big below is =
    let behind : at ≡ length (decimal (n / 10)) = omega (arith, one_more n big below) in
    rw (behind, last_digit n big below) (last_first (decimal (n / 10)) ((48 + n % 10) ∷ []) out)
