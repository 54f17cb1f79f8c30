-- What it says of the slots and of the next index that a step of the walk goes on, by any table of rows.
-- Assumes nothing.
use Prim.Native.Nat.{ℕ, ◌+◌, ◌-◌, ◌≤◌, ◌<◌}
use native.Mathlib.Omega.{arith}
use mathlib.Core.Path.{◌≡◌, refl}
use mathlib.Core.Bool.{Bool, true, false}
use mathlib.Core.List.{List, [], ◌∷◌, ◌++◌}
use lib.Dec.{T, leb, ltb}
use lib.ListN.{length, take, replicate}
use borrow.Author.Tests.{leb-true}
use Rattle.basics.specs.Bytes.{AreBytes}
use Rattle.basics.specs.Choice.{pick}
use Rattle.jvms.specs.Stack.{key_at}
use Rattle.jvms.proofs.Keys.{key_below}
use Rattle.fixed.specs.Fixed.{size_at}
use Rattle.effects.specs.Agreement.{is_modelled, Sized}
use Rattle.effects.specs.Lookup.{Lookup}
use Rattle.effects.specs.Rows.{Row, unmodelled, opaque, aload, aload_far, aload_of, carries, keeps, gets, calls, puts, makes}
use Rattle.walk.specs.Walk.{Reason, past_end, too_large, too_few, Marks, Push, blanks, load, carried, unread, does, effect_by}
use Rattle.walk.specs.Walk.{Made, refused, made, placed, pushed, applied, stops, goes, passes, landed, step}

-- ---- an effect

-- what fails makes no list
pub refused_not_made : {A P : Type 0} {reason : Reason} {slots : List A} → refused reason ≡ made slots → P
refused_not_made e = let z : ◌≡◌ {A = ℕ} 0 1 = cc in absurd (omega arith)

-- what is pushed, where it can be
abbrev pub pushes : {A : Type 0} → Marks A → ℕ → List A → Push → List A
pushes marks pc list (blanks n) = replicate n (marks.blank pc)
pushes marks pc list (load local) = marks.mark pc local ∷ []
pushes marks pc list (carried places) = placed places list
pushes marks pc list (unread reason) = []

module _ {A : Type 0} (marks : Marks A) (pc : ℕ) where
  pushed_is :
      (kept list : List A) (push : Push) (slots : List A) → pushed marks pc kept list push ≡ made slots →
      slots ≡ kept ++ pushes marks pc list push
  pushed_is kept list (blanks n) slots e = cc
  pushed_is kept list (load local) slots e = by_test (marks.holds pc local) e
    where
      by_test :
          (b : Bool) → pick b (made (kept ++ marks.mark pc local ∷ [])) (refused too_large) ≡ made slots →
          slots ≡ kept ++ marks.mark pc local ∷ []
      by_test true q = cc
      by_test false q = refused_not_made q
  pushed_is kept list (carried places) slots e = cc
  pushed_is kept list (unread reason) slots e = refused_not_made e

  -- the list had as many slots as are taken, and what is pushed stands in their place
  pub record Applied (list : List A) (takes : ℕ) (push : Push) (slots : List A) : Type 0 where
    pub enough : takes ≤ length list
    pub left : slots ≡ take (length list - takes) list ++ pushes marks pc list push

  pub applied_is :
      (list : List A) (takes : ℕ) (push : Push) (slots : List A) → applied marks pc (does takes push) list ≡ made slots →
      Applied list takes push slots
  applied_is list takes push slots e = by_test (leb takes (length list)) refl e
    where
      kept : List A
      kept = take (length list - takes) list

      by_test :
          (b : Bool) → leb takes (length list) ≡ b → pick b (pushed marks pc kept list push) (refused too_few) ≡ made slots →
          Applied list takes push slots
      by_test true h q = record { enough = leb-true takes (length list) h; left = pushed_is kept list push slots q }
      by_test false h q = refused_not_made q

-- ---- a step

module _
    {A : Type 0} (marks : Marks A) (rows : ℕ → Row) (lookup : Lookup) (code : List ℕ) (fault pc : ℕ) (list : List A) where
  abbrev pub effect : Made A
  effect = applied marks pc (effect_by lookup code pc (rows (key_at code pc))) list

  pub record Stepped (next : ℕ) (slots : List A) : Type 0 where
    pub makes : effect ≡ made slots
    pub lands : next ≡ pc + size_at code pc
    pub not_past : next ≤ fault

  pub stepped :
      (next : ℕ) (slots : List A) → step marks rows lookup code fault pc list ≡ goes next slots → Stepped next slots
  unfolding step
  stepped next slots e = by_end (ltb pc (length code)) e
    where
      size : ℕ
      size = size_at code pc

      by_fault :
          (list : List A) → effect ≡ made list → (b : Bool) → leb (pc + size) fault ≡ b →
          pick b (goes (pc + size) list) (passes list) ≡ goes next slots → Stepped next slots
      by_fault list is true h q =
          let lands : next ≡ pc + size = cc in
          record { makes = cc; lands = lands; not_past = omega (arith, lands, leb-true (pc + size) fault h) }
      by_fault list is false h q = let z : ◌≡◌ {A = ℕ} 0 1 = cc in absurd (omega arith)

      by_made : (x : Made A) → effect ≡ x → landed fault (pc + size) x ≡ goes next slots → Stepped next slots
      by_made (refused reason) is q = let z : ◌≡◌ {A = ℕ} 0 1 = cc in absurd (omega arith)
      by_made (made list) is q = by_fault list is (leb (pc + size) fault) refl q

      by_end : (b : Bool) → pick b (landed fault (pc + size) effect) (stops past_end) ≡ goes next slots → Stepped next slots
      by_end true q = by_made effect refl q
      by_end false q = let z : ◌≡◌ {A = ℕ} 0 1 = cc in absurd (omega arith)

  -- a row that makes a list is modelled
  made_modelled :
      (row : Row) (slots : List A) → applied marks pc (effect_by lookup code pc row) list ≡ made slots → T (is_modelled row)
  made_modelled unmodelled slots e = refused_not_made e
  made_modelled (opaque takes gives) slots e = tt
  made_modelled aload slots e = tt
  made_modelled aload_far slots e = tt
  made_modelled (aload_of local) slots e = tt
  made_modelled (carries takes places) slots e = tt
  made_modelled keeps slots e = tt
  made_modelled (gets takes) slots e = tt
  made_modelled (calls takes) slots e = tt
  made_modelled (puts takes) slots e = tt
  made_modelled makes slots e = tt

  pub goes_modelled :
      (next : ℕ) (slots : List A) → step marks rows lookup code fault pc list ≡ goes next slots → T (is_modelled (rows (key_at code pc)))
  goes_modelled next slots e = made_modelled (rows (key_at code pc)) slots (stepped next slots e).makes

  -- an instruction that goes on does so by a byte at least
  pub onward :
      Sized rows → AreBytes code → (next : ℕ) (slots : List A) → step marks rows lookup code fault pc list ≡ goes next slots →
      pc < next
  onward sized bytes next slots e =
      omega (arith, (stepped next slots e).lands, sized (key_at code pc) (key_below code bytes pc) (goes_modelled next slots e))
