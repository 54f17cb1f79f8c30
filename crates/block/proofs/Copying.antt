-- What copying the topmost slots makes of the list, and that the cells then show it.
-- Assumes nothing.
use Prim.Native.Nat.{ℕ, zero, suc, ◌+◌, ◌-◌, ◌≤◌}
use native.Mathlib.Omega.{arith}
use mathlib.Core.Path.{◌≡◌, refl, ◌∙◌, sym, ap, ap₂}
use mathlib.Core.List.{List, [], ◌∷◌, ◌++◌, append_assoc}
use lib.ListN.{length, take, drop, replicate}
use lib.Seq.{drop-cons, drop-length}
use borrow.Author.Tests.{le-leb}
use Rattle.copies.specs.Copies.{copied, copied_below}
use Rattle.copies.proofs.Copying.{copied_length}
use Rattle.row.specs.Code.{down_from, copy_places}
use Rattle.walk.specs.Room.{shown}
use Rattle.walk.specs.Walk.{cells, carried, does, made, placed, applied}
use Rattle.block.specs.Inner.{Clean}
use Rattle.block.proofs.Laying as laying

-- ---- the places of copies

placed_append : (xs ys slots : List ℕ) → placed (xs ++ ys) slots ≡ placed xs slots ++ placed ys slots
placed_append [] ys slots = refl
placed_append (x ∷ xs) ys slots =
    ap (λ (l : List ℕ). take 1 (drop (length slots - x) slots) ++ l) (placed_append xs ys slots)
    ∙ sym (append_assoc (take 1 (drop (length slots - x) slots)) (placed xs slots) (placed ys slots))

-- so many places down to the topmost are the list's end
placed_down : (n : ℕ) (slots : List ℕ) → n ≤ length slots → placed (down_from n) slots ≡ drop (length slots - n) slots
placed_down zero slots l =
    let all : length slots - 0 ≡ length slots = omega arith in
    sym (ap (λ (k : ℕ). drop k slots) all ∙ drop-length slots)
placed_down (suc n) slots l =
    let next : length slots - n ≡ suc (length slots - suc n) = omega arith in
    let first = drop-cons slots (length slots - suc n) 0 (omega arith) in
    ap₂ (λ (a b : List ℕ). take 1 a ++ b) first (placed_down n slots (omega arith) ∙ ap (λ (k : ℕ). drop k slots) next)
    ∙ sym first

-- ---- copies in the cells

module _ (c : List ℕ) (h : ℕ) (clean : Clean c h) (count under : ℕ) (enough : count + under ≤ h) where
  abbrev slots : List ℕ
  slots = take h c

  abbrev start : ℕ
  start = h - (count + under)

  pub copies_are : applied cells 0 (does (count + under) (carried (copy_places count under))) slots ≡ made (copied c h count under)
  copies_are =
      let high : length slots ≡ h = laying.high c h clean in
      laying.enough c h clean 0 (count + under) (carried (copy_places count under)) enough
      ∙ ap (λ (l : List ℕ). made (take start c ++ l))
      (placed_append (down_from count) (down_from (count + under)) slots
      ∙ ap₂ (λ (a b : List ℕ). a ++ b)
      (placed_down count slots (omega (arith, high)) ∙ ap (λ (k : ℕ). drop (k - count) slots) high)
      (placed_down (count + under) slots (omega (arith, high)) ∙ ap (λ (k : ℕ). drop (k - (count + under)) slots) high))

  pub tall : length (copied c h count under) ≡ h + count
  tall = copied_length c h count under enough clean.high

  -- with room for them
  pub copied_shown : h + count ≤ length c → copied_below c h count under ≡ shown (length c) (copied c h count under)
  unfolding copied_below
  copied_shown room =
      rw (le-leb (count + under) h enough, le-leb (h + count) (length c) room)
      (ap (λ (l : List ℕ). copied c h count under ++ l)
      (laying.zeros c h clean count ∙ ap (λ (k : ℕ). replicate (length c - k) 0) (sym tall)))
