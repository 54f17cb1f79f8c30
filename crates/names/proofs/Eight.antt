-- A number below 8 is one of eight.
-- Assumes nothing.
use Prim.Native.Nat.{ℕ, zero, suc, ◌<◌}
use native.Mathlib.Omega.{arith}
use mathlib.Core.Path.{◌≡◌, refl}

pub eight :
    {P : Type 0} (k : ℕ) → k < 8 →
    (k ≡ 0 → P) → (k ≡ 1 → P) → (k ≡ 2 → P) → (k ≡ 3 → P) → (k ≡ 4 → P) → (k ≡ 5 → P) → (k ≡ 6 → P) → (k ≡ 7 → P) → P
eight zero below a b c d e f g h = a refl
eight (suc zero) below a b c d e f g h = b refl
eight (suc (suc zero)) below a b c d e f g h = c refl
eight (suc (suc (suc zero))) below a b c d e f g h = d refl
eight (suc (suc (suc (suc zero)))) below a b c d e f g h = e refl
eight (suc (suc (suc (suc (suc zero))))) below a b c d e f g h = f refl
eight (suc (suc (suc (suc (suc (suc zero)))))) below a b c d e f g h = g refl
eight (suc (suc (suc (suc (suc (suc (suc zero))))))) below a b c d e f g h = h refl
eight (suc (suc (suc (suc (suc (suc (suc (suc k)))))))) below a b c d e f g h = absurd (omega arith)
