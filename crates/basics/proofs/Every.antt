-- What a computed test finds of every number below a bound.
-- Assumes nothing.
use mathlib.Core.Path.{◌≡◌, refl, subst, sym}
use mathlib.Core.Bool.{Bool, true, false}
use mathlib.Core.Logic.{⊎_elim}
use Prim.Native.Nat.{ℕ, zero, suc, ◌+◌, ◌-◌, ◌≤◌, ◌<◌}
use native.Mathlib.Omega.{arith}
use native.Mathlib.Nat.{not-suc-le-zero, le_of_suc-le-suc, eq-or-lt_of_le}
use lib.Dec.{T}
use Rattle.basics.specs.Choice.{both, alike}

pub both_first : (a b : Bool) → T (both a b) → T a
both_first true b t = tt
both_first false b t = t

pub both_second : (a b : Bool) → T (both a b) → T b
both_second true b t = t
both_second false b t = absurd t

pub alike_is : (a b : Bool) → T (alike a b) → a ≡ b
alike_is true true t = refl
alike_is true false t = absurd t
alike_is false true t = absurd t
alike_is false false t = refl

-- the test passes at each number below the bound
abbrev pub every : (ℕ → Bool) → ℕ → Bool
every test zero = true
every test (suc n) = both (test n) (every test n)

pub every_at : (test : ℕ → Bool) (n : ℕ) → T (every test n) → (k : ℕ) → k < n → T (test k)
every_at test zero t k below = absurd (not-suc-le-zero below)
every_at test (suc n) t k below =
    ⊎_elim
    (λ (e : k ≡ n). subst (λ (m : ℕ). T (test m)) (sym e) (both_first (test n) (every test n) t))
    (λ (l : k < n). every_at test n (both_second (test n) (every test n) t) k l)
    (eq-or-lt_of_le (le_of_suc-le-suc below))

-- the same of the n numbers from a on
pub every_from :
    (test : ℕ → Bool) (a n : ℕ) → T (every (λ k. test (a + k)) n) → (k : ℕ) → a ≤ k → k < a + n → T (test k)
every_from test a n t k from below =
    let same : a + (k - a) ≡ k = omega arith in
    subst (λ (m : ℕ). T (test m)) same (every_at (λ j. test (a + j)) n t (k - a) (omega arith))
