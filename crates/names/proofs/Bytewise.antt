-- Texts that a loop writes byte by byte: how long they are, and what stands at each index.
-- Assumes nothing.
use Prim.Native.Nat.{ℕ, zero, suc, ◌+◌, ◌%◌, ◌<◌}
use native.Mathlib.Omega.{arith}
use mathlib.Core.Path.{◌≡◌, refl}
use lib.Dec.{eqb}
use lib.ListN.{length, get_or}
use Rattle.basics.specs.Choice.{pick}
use Rattle.names.specs.Names.{bracket_pairs}

pub pairs_length : (n : ℕ) → length (bracket_pairs n) ≡ n + n
unfolding bracket_pairs
pairs_length zero = omega arith
pairs_length (suc n) = omega (arith, pairs_length n)

pub pairs_at : (n i : ℕ) → i < n + n → get_or (bracket_pairs n) i 0 ≡ pick (eqb (i % 2) 0) 91 93
unfolding bracket_pairs
pairs_at zero i inside = absurd (omega arith)
pairs_at (suc n) zero inside = refl
pairs_at (suc n) (suc zero) inside = refl
pairs_at (suc n) (suc (suc i)) inside =
    let same : suc (suc i) % 2 ≡ i % 2 = omega arith in
    rw same (pairs_at n i (omega arith))
