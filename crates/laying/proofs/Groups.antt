-- A number written group by group: behind its low group stands what is left of it.
-- Rests on: the bytes of a number by its low group (crates/cases).
-- Assumes nothing.
use Prim.Native.Nat.{ℕ, ◌+◌, ◌*◌, ◌/◌, ◌%◌, ◌≤◌}
use native.Mathlib.Omega.{arith}
use mathlib.Core.Path.{◌≡◌, ◌∙◌, ap}
use mathlib.Core.List.{List, [], ◌∷◌}
use lib.ListN.{length}
use Rattle.text.specs.Writing.{most, Written}
use Rattle.text.proofs.Writing.{written_then}
use Rattle.number.specs.Number.{number_bytes}
use Rattle.cases.proofs.Groups.{number_large}

-- the low group of a number, then what is left of it
low_group : (n : ℕ) → 128 ≤ n → number_bytes n ≡ (128 + n % 128) ∷ number_bytes (n / 128)
low_group n large =
    let whole : n ≡ n % 128 + 128 * (n / 128) = omega arith in
    ap number_bytes whole ∙ number_large (n % 128) (n / 128) (omega arith) (omega arith)

-- a byte that is the low group, then what is left: together the number
pub low_group_written :
    {at k next n byte left : ℕ} {out middle after : List ℕ} →
    Written at (byte ∷ []) out k middle → Written k (number_bytes left) middle next after →
    128 ≤ n → byte ≡ 128 + n % 128 → left ≡ n / 128 → length out ≤ most → Written at (number_bytes n) out next after
low_group_written {n = n} first rest large low high short =
    rw (low_group n large, ← low, ← high) (written_then short first rest)
