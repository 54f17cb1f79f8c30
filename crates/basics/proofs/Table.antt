-- A constant table holds what a rule says at each of its entries: antt computes the rule's own table, which is the constant.
-- Assumes nothing.
use mathlib.Core.Path.{◌≡◌, ◌∙◌, sym, ap}
use mathlib.Core.List.{List, [], ◌∷◌}
use Prim.Native.Nat.{ℕ, zero, suc, ◌+◌, ◌<◌}
use native.Mathlib.Nat.{add-zero, zero-add, add-suc, suc-add, le_of_suc-le-suc, not-suc-le-zero}
use lib.ListN.{get_or}

-- what the rule says of n numbers from i on
abbrev pub tabled : (ℕ → ℕ) → ℕ → ℕ → List ℕ
tabled rule i zero = []
tabled rule i (suc n) = rule i ∷ tabled rule (suc i) n

tabled_from : (rule : ℕ → ℕ) (n i k : ℕ) → k < n → get_or (tabled rule i n) k 0 ≡ rule (i + k)
tabled_from rule zero i k below = absurd (not-suc-le-zero below)
tabled_from rule (suc n) i zero below = ap rule (sym (add-zero i))
tabled_from rule (suc n) i (suc k) below =
    tabled_from rule n (suc i) k (le_of_suc-le-suc below) ∙ ap rule (suc-add i k ∙ sym (add-suc i k))

pub tabled_at : (rule : ℕ → ℕ) (n k : ℕ) → k < n → get_or (tabled rule 0 n) k 0 ≡ rule k
tabled_at rule n k below = tabled_from rule n 0 k below ∙ ap rule (zero-add k)
