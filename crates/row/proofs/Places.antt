-- Slots that are carried along, told by how many are taken and by the places: a swap, or so many copies below so many others.
-- Assumes nothing.
use Prim.Native.Nat.{ℕ, zero, suc, ◌+◌, ◌-◌}
use native.Mathlib.Omega.{arith}
use mathlib.Core.Path.{◌≡◌, refl, ◌∙◌, ap, ap₂}
use mathlib.Core.Bool.{Bool, false}
use mathlib.Core.List.{List}
use lib.Dec.{eqb}
use lib.ListN.{length, get_or, length-append}
use borrow.Author.Tests.{ne_eqb}
use Rattle.basics.specs.Choice.{pick, both}
use Rattle.row.specs.Code.{down_from, copy_places}

-- two slots in two places, the topmost first
abbrev pub is_swap : ℕ → List ℕ → Bool
is_swap takes places = both (eqb takes 2) (both (eqb (length places) 2) (eqb (get_or places 0 0) 1))

abbrev pub count_of : ℕ → List ℕ → ℕ
count_of takes places = length places - takes

abbrev pub under_of : ℕ → List ℕ → ℕ
under_of takes places = takes - count_of takes places

down_length : (n : ℕ) → length (down_from n) ≡ n
down_length zero = refl
down_length (suc n) = ap suc (down_length n)

copies_length : (count under : ℕ) → length (copy_places count under) ≡ count + (count + under)
copies_length count under =
    length-append (down_from count) (down_from (count + under)) ∙ ap₂ (λ (a b : ℕ). a + b) (down_length count) (down_length (count + under))

-- two slots are taken by (0, 2), (1, 1) and (2, 0) alone
not_two : (count under : ℕ) → (count + under ≡ 2 → ⊥) → is_swap (count + under) (copy_places count under) ≡ false
not_two count under n = rw (ne_eqb (count + under) 2 n)

no_swap : (count under : ℕ) → is_swap (count + under) (copy_places count under) ≡ false
no_swap zero zero = refl
no_swap zero (suc zero) = refl
no_swap zero (suc (suc zero)) = refl
no_swap zero (suc (suc (suc under))) = not_two 0 (suc (suc (suc under))) (λ e. omega (arith, e))
no_swap (suc zero) zero = refl
no_swap (suc zero) (suc zero) = refl
no_swap (suc zero) (suc (suc under)) = not_two 1 (suc (suc under)) (λ e. omega (arith, e))
no_swap (suc (suc zero)) zero = refl
no_swap (suc (suc zero)) (suc under) = not_two 2 (suc under) (λ e. omega (arith, e))
no_swap (suc (suc (suc count))) under = not_two (suc (suc (suc count))) under (λ e. omega (arith, e))

-- swap and copies: any way to write the two
pub copies_told :
    {A : Type 0} (swap : A) (copies : ℕ → ℕ → A) (count under : ℕ) →
    pick (is_swap (count + under) (copy_places count under)) swap
    (copies (count_of (count + under) (copy_places count under)) (under_of (count + under) (copy_places count under)))
    ≡ copies count under
copies_told swap copies count under =
    let size = copies_length count under in
    let same : count_of (count + under) (copy_places count under) ≡ count = omega (arith, size) in
    let rest : under_of (count + under) (copy_places count under) ≡ under = omega (arith, size) in
    rw (no_swap count under) (ap₂ copies same rest)
