-- The greatest of a list, taken in parts.
-- Assumes nothing.
use Prim.Native.Nat.{ℕ, zero, suc, ◌+◌, ◌-◌, ◌*◌, ◌^◌, max, ◌≤◌, ◌<◌}
use native.Mathlib.Nat.{not-suc-le-zero, suc-mul}
use native.Mathlib.Numerals.{sub-one}
use native.Mathlib.Omega.{arith}
use mathlib.Core.Path.{◌≡◌, ◌∙◌, ap}
use mathlib.Core.List.{List, [], ◌∷◌, ◌++◌}
use borrow.Author.Tests.{le-leb}
use Rattle.bytecode.specs.Length.{operands_at}
use Rattle.reads.specs.Signed.{i32_at}
use Rattle.greatest.specs.Greatest.{up_to, greatest, target}
use Rattle.leader.specs.Targets.{entry_targets, switch_targets}

-- the greatest over two lists is the greater of each
pub greatest_append :
    (limit : ℕ) (xs ys : List ℕ) → greatest limit (xs ++ ys) ≡ max (greatest limit xs) (greatest limit ys)
unfolding greatest
greatest_append limit [] ys = omega arith
greatest_append limit (x ∷ xs) ys = omega (arith, greatest_append limit xs ys)

-- a running maximum takes one list after the other
pub raised_by :
    (limit best : ℕ) (xs ys : List ℕ) →
    max best (greatest limit (xs ++ ys)) ≡ max (max best (greatest limit xs)) (greatest limit ys)
raised_by limit best xs ys = omega (arith, greatest_append limit xs ys)

pub greatest_one : (limit x : ℕ) → greatest limit (x ∷ []) ≡ up_to limit x
unfolding greatest
greatest_one limit x = omega arith

-- 0 adds nothing
pub none_more : (limit : ℕ) (xs : List ℕ) → greatest limit (0 ∷ xs) ≡ greatest limit xs
unfolding greatest up_to
none_more limit xs = rw (le-leb 0 limit (omega arith)) (omega arith)

-- a running maximum over the entries of a switch: no entry left, and one that is taken
module _ (code : List ℕ) (pc step limit best at : ℕ) where
  pub no_entries : (count : ℕ) → count ≤ 0 → best ≡ max best (greatest limit (entry_targets code pc step count at))
  unfolding entry_targets greatest
  no_entries zero none = omega arith
  no_entries (suc count) none = absurd (not-suc-le-zero none)

  pub one_entry :
      (count top : ℕ) → 0 < count → top ≡ max best (greatest limit (target (2 ^ 31) (pc + i32_at code at))) →
      max top (greatest limit (entry_targets code pc step (count - 1) (at + step)))
      ≡ max best (greatest limit (entry_targets code pc step count at))
  unfolding entry_targets
  one_entry zero top some is = absurd (not-suc-le-zero some)
  one_entry (suc count) top some is =
      rw sub-one
      (omega (arith, is, raised_by limit best (target (2 ^ 31) (pc + i32_at code at)) (entry_targets code pc step count (at + step))))

-- one step less of a run
pub one_step_less : (count step : ℕ) → 0 < count → count * step ≡ (count - 1) * step + step
one_step_less zero step some = absurd (not-suc-le-zero some)
one_step_less (suc count) step some = rw sub-one (suc-mul count step)

-- a running maximum over a whole switch: its default, then its entries
pub whole_switch :
    (code : List ℕ) (pc step count limit best at top all : ℕ) → at ≡ operands_at pc →
    top ≡ max best (greatest limit (target (2 ^ 31) (pc + i32_at code at))) →
    all ≡ max top (greatest limit (entry_targets code pc step count (at + 12))) →
    all ≡ max best (greatest limit (switch_targets code pc step count))
unfolding switch_targets
whole_switch code pc step count limit best at top all at-is top-is all-is =
    let default = target (2 ^ 31) (pc + i32_at code at) in
    let entries = entry_targets code pc step count (at + 12) in
    rw (← at-is) (omega (arith, top-is, all-is, raised_by limit best default entries))

-- a maximum over the target that a read offset gives is that over the offset's number
pub aimed_at :
    (limit best half pc read n top : ℕ) → top ≡ max best (greatest limit (target half (pc + read))) → read ≡ n →
    top ≡ max best (greatest limit (target half (pc + n)))
aimed_at limit best half pc read n top is same =
    is ∙ ap (λ (k : ℕ). max best (greatest limit (target half (pc + k)))) same
