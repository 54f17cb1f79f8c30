-- Copies of cells below others: the cells move up by the count, and the topmost of them are copied to where these stood.
-- Assumes nothing.
use Prim.Native.Nat.{ℕ, ◌+◌, ◌-◌, ◌≤◌}
use native.Mathlib.Omega.{arith}
use mathlib.Core.Path.{◌≡◌, ◌∙◌, sym, ap}
use mathlib.Core.List.{List, ◌++◌, append_assoc}
use lib.ListN.{length, take, drop, length-append, length-take, length-drop}
use lib.Seq.{take-take, drop-drop, take_at, drop_at, take-append-le, drop-append-le}
use Rattle.std.proofs.lemmas.List.{drop-take}
use Rattle.std.specs.List.{copy_within}
use Rattle.copies.specs.Copies.{copied}

-- the cells are more by as many as are copied
pub copied_length :
    (c : List ℕ) (h count under : ℕ) → count + under ≤ h → h ≤ length c → length (copied c h count under) ≡ h + count
copied_length c h count under enough inside = simp (length-append, length-drop, length-take) (omega arith)

module _ (c : List ℕ) (h count under start : ℕ) (is : start + (count + under) ≡ h) (room : h + count ≤ length c) where
  -- the cells that are taken, and those behind the copies
  abbrev taken : List ℕ
  taken = take (h - start) (drop start c)

  abbrev rest : List ℕ
  rest = drop (start + count + (h - start)) c

  -- the cells after the first move
  abbrev moved : List ℕ
  moved = copy_within c start h (start + count)

  front_length : length (take (start + count) c) ≡ start + count
  front_length = simp length-take (omega arith)

  taken_length : length taken ≡ count + under
  taken_length = simp (length-take, length-drop) (omega arith)

  apart : moved ≡ take (start + count) c ++ (taken ++ rest)
  apart = append_assoc (take (start + count) c) taken rest

  moved_front : take start moved ≡ take start c
  moved_front =
      ap (take start) apart
      ∙ take-append-le start (take (start + count) c) (taken ++ rest) (omega (arith, front_length))
      ∙ take-take start (start + count) c (omega arith)

  moved_back : drop (start + count) moved ≡ taken ++ rest
  moved_back = ap (drop (start + count)) apart ∙ drop_at (take (start + count) c) (taken ++ rest) (start + count) front_length

  taken_is : taken ≡ drop start (take h c)
  taken_is =
      let whole : start + (h - start) ≡ h = omega arith in
      sym (drop-take start (h - start) c) ∙ ap (λ (k : ℕ). drop start (take k c)) whole

  -- the topmost of the cells that moved
  top : take (h + count - h) (drop h moved) ≡ drop (h - count) (take h c)
  top =
      let at : start + count + under ≡ h = omega arith in
      let low : start + under ≡ h - count = omega arith in
      let few : length (drop under taken) ≡ h + count - h = omega (arith, taken_length, length-drop under taken) in
      ap (take (h + count - h))
      (ap (λ (k : ℕ). drop k moved) (sym at) ∙ sym (drop-drop under (start + count) moved) ∙ ap (drop under) moved_back
      ∙ drop-append-le under taken rest (omega (arith, taken_length)))
      ∙ take_at (drop under taken) rest (h + count - h) few
      ∙ ap (drop under) taken_is ∙ drop-drop under start (take h c) ∙ ap (λ (k : ℕ). drop k (take h c)) low

  pub copies_are : copy_within moved h (h + count) start ≡ copied c h count under ++ drop (h + count) c
  copies_are =
      let first : start ≡ h - (count + under) = omega arith in
      let behind : start + (h + count - h) ≡ start + count = omega arith in
      let last : start + count + (h - start) ≡ h + count = omega arith in
      let front = take start c in
      rw (top, moved_front, behind, moved_back, taken_is, last, ← first)
      (simp append_assoc)
