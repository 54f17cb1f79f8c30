-- What the code's stores make of the cells: a list is laid into them, or there are too few slots or too few cells.
-- Assumes nothing.
use Rattle.std.specs.Prelude.{Some, None, Ok, Err}
use Prim.Native.Nat.{ℕ, zero, suc, ◌+◌, ◌-◌, ◌≤◌, ◌<◌}
use native.Mathlib.Omega.{arith}
use mathlib.Core.Path.{◌≡◌, refl, ◌∙◌, sym, ap, ap₂}
use mathlib.Core.Bool.{true, false}
use mathlib.Core.List.{List, [], ◌∷◌, ◌++◌, append_assoc}
use lib.Dec.{leb}
use lib.ListN.{length, get_or, take, drop, set, replicate, length-append, length-replicate, take-append-drop}
use lib.ListN.{replicate-append-replicate}
use lib.Seq.{length-take-le, take-take, take-suc, drop-cons, get_or-take, drop-append-add, take_at, set_at}
use lib.Seq.{drop-set-lt, take-set-lt, take-suc-set}
use borrow.Author.Tests.{le-leb, lt-leb}
use Rattle.cell.specs.Cell.{packed}
use Rattle.cell.proofs.Laws.{held_so, too_large as none_packed}
use Rattle.row.specs.Code.{swap_places}
use Rattle.block.specs.Inner.{Clean, Laid}
use Rattle.walk.specs.Room.{shown}
use Rattle.walk.specs.Walk.{cells, Push, load, carried, does, refused, Made, made, pushed, applied, too_large}
use Rattle.block.specs.declared.Halt.TheVariants.{Stops, Lacks}

drop_replicate : (j n : ℕ) → drop {A = ℕ} j (replicate n 0) ≡ replicate (n - j) 0
drop_replicate zero n = let e : n - 0 ≡ n = omega arith in rw e
drop_replicate (suc j) zero = let e : 0 - suc j ≡ 0 = omega arith in rw e
drop_replicate (suc j) (suc n) = let e : suc n - suc j ≡ n - j = omega arith in rw e (drop_replicate j n)

-- cells that start with a list and are zero behind it show it
pub shows :
    (room : ℕ) (stack slots : List ℕ) → take (length slots) stack ≡ slots →
    drop (length slots) stack ≡ replicate (room - length slots) 0 → stack ≡ shown room slots
shows room stack slots start rest =
    sym (take-append-drop (length slots) stack) ∙ ap₂ (λ (a b : List ℕ). a ++ b) start rest

-- ---- an outcome in the cells

module _ (stack : List ℕ) (outcome : Made ℕ) (slots : List ℕ) (is : outcome ≡ made slots) where
  pub laid_over : length stack < length slots → Laid stack (Err Lacks) stack outcome
  laid_over more =
      let test : leb (length slots) (length stack) ≡ false = lt-leb (length slots) (length stack) more in
      rw is (record { answers = rw test; leaves = rw test })

  pub laid_high :
      (height : ℕ) (left : List ℕ) → height ≡ length slots → length slots ≤ length stack →
      left ≡ shown (length stack) slots → Laid stack (Ok height) left outcome
  laid_high height left high fits shown-so =
      let test : leb (length slots) (length stack) ≡ true = le-leb (length slots) (length stack) fits in
      rw is (record { answers = rw test (ap Ok high); leaves = rw test shown-so })

module _ (c : List ℕ) (h : ℕ) (clean : Clean c h) where
  abbrev slots : List ℕ
  slots = take h c

  pub high : length slots ≡ h
  high = length-take-le h c clean.high

  -- the cells behind the slots are zero
  pub zeros : (j : ℕ) → drop (h + j) c ≡ replicate (length c - (h + j)) 0
  zeros j =
      let at : h + j ≡ length slots + j = omega (arith, high) in
      let left : length c - length slots - j ≡ length c - (h + j) = omega (arith, high) in
      ap₂ (λ (k : ℕ) (l : List ℕ). drop k l) at clean.zeros
      ∙ drop-append-add slots (replicate (length c - length slots) 0) j
      ∙ drop_replicate j (length c - length slots) ∙ ap (λ (k : ℕ). replicate k 0) left

  rest_zero : drop h c ≡ replicate (length c - h) 0
  rest_zero = ap (λ (k : ℕ). drop k c) plus ∙ zeros 0 ∙ ap (λ (k : ℕ). replicate (length c - k) 0) (sym plus)
    where
      plus : h ≡ h + 0
      plus = omega arith

  -- the slots cleared: all cells are zero
  pub all_zero :
      (cleared : List ℕ) → cleared ≡ replicate (length slots) 0 → cleared ++ drop h c ≡ replicate (length c) 0
  all_zero cleared e =
      let all : length slots + (length c - h) ≡ length c = omega (arith, high, clean.high) in
      ap₂ (λ (a b : List ℕ). a ++ b) e rest_zero ∙ replicate-append-replicate (length slots) (length c - h) 0
      ∙ ap (λ (k : ℕ). replicate k 0) all

  pub too_few : (pc takes : ℕ) (push : Push) → h < takes → Laid c (Err Stops) c (applied cells pc (does takes push) slots)
  too_few pc takes push fewer =
      let test : leb takes (length slots) ≡ false = ap (leb takes) high ∙ lt-leb takes h fewer in
      record { answers = rw test; leaves = rw test }

  kept : (takes : ℕ) → take (length slots - takes) slots ≡ take (h - takes) c
  kept takes = ap (λ (k : ℕ). take (k - takes) slots) high ∙ take-take (h - takes) h c (omega arith)

  -- where there are slots enough
  pub enough :
      (pc takes : ℕ) (push : Push) → takes ≤ h →
      applied cells pc (does takes push) slots ≡ pushed cells pc (take (h - takes) c) slots push
  enough pc takes push l =
      let test : leb takes (length slots) ≡ true = ap (leb takes) high ∙ le-leb takes h l in
      rw (test, kept takes)

  kept_length : (takes : ℕ) → length (take (h - takes) c) ≡ h - takes
  kept_length takes = length-take-le (h - takes) c (omega (arith, clean.high))

  -- ---- opaque pushes

  pub blank_length : (takes gives : ℕ) → length (take (h - takes) c ++ replicate gives 0) ≡ h - takes + gives
  blank_length takes gives =
      omega
      (arith, length-append (take (h - takes) c) (replicate gives 0), kept_length takes, length-replicate {A = ℕ} gives 0)

  -- the taken cells cleared
  pub blank_shown :
      (takes gives : ℕ) → takes ≤ h → h - takes + gives ≤ length c →
      take (h - takes) c ++ (replicate takes 0 ++ drop h c) ≡ shown (length c) (take (h - takes) c ++ replicate gives 0)
  blank_shown takes gives l fits =
      let left : ℕ = length c - length (take (h - takes) c ++ replicate gives 0) in
      let all : takes + (length c - h) ≡ gives + left = omega (arith, blank_length takes gives, clean.high) in
      ap (λ (l : List ℕ). take (h - takes) c ++ l)
      (ap (λ (l : List ℕ). replicate takes 0 ++ l) rest_zero
      ∙ replicate-append-replicate takes (length c - h) 0
      ∙ ap (λ (k : ℕ). replicate k 0) all
      ∙ sym (replicate-append-replicate gives left 0))
      ∙ sym (append_assoc (take (h - takes) c) (replicate gives 0) (replicate left 0))

  -- ---- a cell on top

  pub top_length : (v : ℕ) → length (slots ++ v ∷ []) ≡ h + 1
  top_length v = omega (arith, length-append slots (v ∷ []), high)

  pub top_shown : (v : ℕ) → h < length c → set c h v ≡ shown (length c) (slots ++ v ∷ [])
  top_shown v room =
      let next : length (slots ++ v ∷ []) ≡ suc h = omega (arith, top_length v) in
      let one : suc h ≡ h + 1 = omega arith in
      shows (length c) (set c h v) (slots ++ v ∷ [])
      (ap (λ (k : ℕ). take k (set c h v)) next ∙ take-suc-set c h v room)
      (ap (λ (k : ℕ). drop k (set c h v)) next ∙ drop-set-lt (suc h) c h v (omega arith)
      ∙ ap (λ (k : ℕ). drop k c) one ∙ zeros 1 ∙ ap (λ (k : ℕ). replicate (length c - k) 0) (sym (top_length v)))

  -- ---- a load

  none_taken : take (h - 0) c ≡ slots
  none_taken = let all : h - 0 ≡ h = omega arith in ap (λ (k : ℕ). take k c) all

  load_is :
      (pc local v : ℕ) → packed pc local ≡ Some v → applied cells pc (does 0 (load local)) slots ≡ made (slots ++ v ∷ [])
  load_is pc local v e =
      let h = held_so pc local v e in
      enough pc 0 (load local) (omega arith) ∙ rw (h.0, none_taken, h.1)

  pub load_refused :
      (pc local : ℕ) → packed pc local ≡ None → Laid c (Err Stops) c (applied cells pc (does 0 (load local)) slots)
  load_refused pc local e =
      let is : applied cells pc (does 0 (load local)) slots ≡ refused too_large =
      enough pc 0 (load local) (omega arith) ∙ rw (none_packed pc local e) in
      rw is (record { answers = refl; leaves = refl })

  pub load_over :
      (pc local v : ℕ) → packed pc local ≡ Some v → length c ≤ h →
      Laid c (Err Lacks) c (applied cells pc (does 0 (load local)) slots)
  load_over pc local v e full = laid_over c _ _ (load_is pc local v e) (omega (arith, top_length v))

  pub load_high :
      (pc local v : ℕ) → packed pc local ≡ Some v → h < length c →
      Laid c (Ok (h + 1)) (set c h v) (applied cells pc (does 0 (load local)) slots)
  load_high pc local v e room =
      laid_high c _ _ (load_is pc local v e) (h + 1) (set c h v) (sym (top_length v)) (omega (arith, top_length v))
      (top_shown v room)

  -- ---- slots that are carried along

  -- the slot so far from the top
  abbrev pub from_top : ℕ → ℕ
  from_top j = get_or c (h - j) 0

  slot : (j : ℕ) → 0 < j → j ≤ h → take 1 (drop (length slots - j) slots) ≡ from_top j ∷ []
  slot j some l =
      ap (λ (k : ℕ). take 1 (drop (k - j) slots)) high
      ∙ ap (take 1) (drop-cons slots (h - j) 0 (omega (arith, high)))
      ∙ ap (λ (x : ℕ). x ∷ []) (get_or-take h c (h - j) 0 (omega arith))

  last : 1 ≤ h → take h c ≡ take (h - 1) c ++ from_top 1 ∷ []
  last l =
      let next : h ≡ suc (h - 1) = omega arith in
      ap (λ (k : ℕ). take k c) next ∙ take-suc c (h - 1) 0 (omega (arith, clean.high))

  last_but : 2 ≤ h → take (h - 1) c ≡ take (h - 2) c ++ from_top 2 ∷ []
  last_but l =
      let next : h - 1 ≡ suc (h - 2) = omega arith in
      ap (λ (k : ℕ). take k c) next ∙ take-suc c (h - 2) 0 (omega (arith, clean.high))

  pub swap_is :
      (pc : ℕ) → 2 ≤ h →
      applied cells pc (does 2 (carried swap_places)) slots ≡ made (take (h - 2) c ++ (from_top 1 ∷ from_top 2 ∷ []))
  swap_is pc l =
      enough pc 2 (carried swap_places) l ∙ ap made (rw (slot 1 (omega arith) (omega arith), slot 2 (omega arith) l))

  pub swap_length : 2 ≤ h → length (take (h - 2) c ++ (from_top 1 ∷ from_top 2 ∷ [])) ≡ h
  swap_length l = omega (arith, length-append (take (h - 2) c) (from_top 1 ∷ from_top 2 ∷ []), kept_length 2)

  pub swap_shown :
      2 ≤ h →
      set (set c (h - 1) (from_top 2)) (h - 2) (from_top 1)
      ≡ shown (length c) (take (h - 2) c ++ (from_top 1 ∷ from_top 2 ∷ []))
  swap_shown l =
      let a : ℕ = from_top 1 in
      let b : ℕ = from_top 2 in
      let once : set slots (h - 1) b ≡ take (h - 2) c ++ (b ∷ b ∷ []) =
      ap (λ (s : List ℕ). set s (h - 1) b) (last (omega arith)) ∙ set_at (take (h - 1) c) a [] b (h - 1) (kept_length 1)
      ∙ ap (λ (s : List ℕ). s ++ b ∷ []) (last_but l) ∙ append_assoc (take (h - 2) c) (b ∷ []) (b ∷ []) in
      let twice : set (set slots (h - 1) b) (h - 2) a ≡ take (h - 2) c ++ (a ∷ b ∷ []) =
      ap (λ (s : List ℕ). set s (h - 2) a) once ∙ set_at (take (h - 2) c) b (b ∷ []) a (h - 2) (kept_length 2) in
      let zero-on : h ≡ h + 0 = omega arith in
      shows (length c) (set (set c (h - 1) b) (h - 2) a) (take (h - 2) c ++ (a ∷ b ∷ []))
      (ap (λ (k : ℕ). take k (set (set c (h - 1) b) (h - 2) a)) (swap_length l)
      ∙ take-set-lt h (set c (h - 1) b) (h - 2) a (omega arith)
      ∙ ap (λ (s : List ℕ). set s (h - 2) a) (take-set-lt h c (h - 1) b (omega arith)) ∙ twice)
      (ap (λ (k : ℕ). drop k (set (set c (h - 1) b) (h - 2) a)) (swap_length l)
      ∙ drop-set-lt h (set c (h - 1) b) (h - 2) a (omega arith) ∙ drop-set-lt h c (h - 1) b (omega arith)
      ∙ ap (λ (k : ℕ). drop k c) zero-on ∙ zeros 0
      ∙ ap (λ (k : ℕ). replicate (length c - k) 0) (sym zero-on ∙ sym (swap_length l)))

-- ---- cells that show a list

pub shown_take : (room : ℕ) (slots : List ℕ) → take (length slots) (shown room slots) ≡ slots
shown_take room slots = take_at slots (replicate (room - length slots) 0) (length slots) refl

pub shown_length : (room : ℕ) (slots : List ℕ) → length slots ≤ room → length (shown room slots) ≡ room
shown_length room slots fits =
    omega (arith, length-append slots (replicate (room - length slots) 0), length-replicate {A = ℕ} (room - length slots) 0)

pub clean_shown : (room : ℕ) (slots : List ℕ) → length slots ≤ room → Clean (shown room slots) (length slots)
clean_shown room slots fits =
    let size : length (shown room slots) ≡ room = shown_length room slots fits in
    record { high = omega (arith, size); zeros = sym (ap₂ shown size (shown_take room slots)) }
