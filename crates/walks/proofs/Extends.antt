-- A walk by a table that extends another is the walk by that, up to an instruction that the other does not model.
-- Assumes nothing.
use Prim.Native.Nat.{ℕ, zero, suc, ◌+◌, ◌-◌}
use mathlib.Core.Path.{◌≡◌, refl, sym, ap}
use mathlib.Core.Bool.{Bool, true, false}
use mathlib.Core.List.{List, [], ◌∷◌, ◌++◌, append-nil}
use mathlib.Core.Logic.{◌⊎◌, inl, inr, ⊎_elim}
use lib.Dec.{T, ltb}
use lib.ListN.{length}
use Rattle.basics.specs.Choice.{pick}
use Rattle.jvms.specs.Stack.{key_at}
use Rattle.fixed.specs.Fixed.{size_at}
use Rattle.effects.specs.Agreement.{is_modelled}
use Rattle.effects.specs.Lookup.{Lookup}
use Rattle.effects.specs.Rows.{Row, unmodelled, opaque, aload, aload_far, aload_of, carries, keeps, gets, calls, puts, makes}
use Rattle.walk.specs.Room.{Completed, completing, completed_from, completed}
use Rattle.walk.specs.Walk.{past_end, not_modelled, Marks, effect_by, applied, Outcome, stops, goes, passes, landed}
use Rattle.walk.specs.Walk.{Walked, failed, step, ended, after, walk_from, walk}
use Rattle.walks.specs.Models.{Extends, WalkExtends, WalkReaches}

-- ---- the ends of two walks, and what they complete

-- in everything the same, or the one fails for an instruction that is not modelled, and the other goes on
data Beside {A : Type 0} : Walked A → Walked A → List Completed → List Completed → Type 0 where
  alike : {end : Walked A} {cs : List Completed} → Beside end end cs cs
  goes_on :
      {count index : ℕ} {end : Walked A} {cs : List Completed} (rest : List Completed) →
      Beside (failed count index not_modelled) end cs (cs ++ rest)

module _ {A : Type 0} where
  beside_after :
      (c : Completed) {end end' : Walked A} {cs cs' : List Completed} → Beside end end' cs cs' → Beside end end' (c ∷ cs) (c ∷ cs')
  beside_after c alike = alike
  beside_after c (goes_on rest) = goes_on rest

  same_in_all :
      {end end' : Walked A} {cs cs' : List Completed} → Beside end end' cs cs' →
      ((count index : ℕ) → end ≡ failed count index not_modelled → ⊥) → (end' ≡ end) × (cs' ≡ cs)
  same_in_all alike modelled = (refl, refl)
  same_in_all (goes_on {count} {index} rest) modelled = absurd (modelled count index refl)

  first_ones :
      {end end' : Walked A} {cs cs' : List Completed} → Beside end end' cs cs' → (rest : List Completed) × (cs' ≡ cs ++ rest)
  first_ones (alike {end} {cs}) = ([], sym (append-nil cs))
  first_ones (goes_on rest) = (rest, refl)

-- ---- the two walks

modelled_or_not : (row : Row) → T (is_modelled row) ⊎ (row ≡ unmodelled)
modelled_or_not unmodelled = inr refl
modelled_or_not (opaque taken given) = inl tt
modelled_or_not aload = inl tt
modelled_or_not aload_far = inl tt
modelled_or_not (aload_of local) = inl tt
modelled_or_not (carries taken places) = inl tt
modelled_or_not keeps = inl tt
modelled_or_not (gets taken) = inl tt
modelled_or_not (calls taken) = inl tt
modelled_or_not (puts taken) = inl tt
modelled_or_not makes = inl tt

module _ {A : Type 0} (marks : Marks A) (rows more : ℕ → Row) (extends : Extends rows more)
    (lookup : Lookup) (code : List ℕ) (fault : ℕ) where
  -- the step at an index by a row
  abbrev by_row : ℕ → List A → Row → Outcome A
  by_row pc list row =
      pick (ltb pc (length code)) (landed fault (pc + size_at code pc) (applied marks pc (effect_by lookup code pc row) list))
      (stops past_end)

  same_step :
      (pc : ℕ) (list : List A) →
      (step marks more lookup code fault pc list ≡ step marks rows lookup code fault pc list)
      ⊎ (step marks rows lookup code fault pc list ≡ stops not_modelled)
  unfolding step
  same_step pc list =
      ⊎_elim
      (λ (m : T (is_modelled (rows (key_at code pc)))). inl (ap (by_row pc list) (extends (key_at code pc) m)))
      (λ (u : rows (key_at code pc) ≡ unmodelled). rw u (by_end (ltb pc (length code)) refl))
      (modelled_or_not (rows (key_at code pc)))
    where
      by_end :
          (b : Bool) → ltb pc (length code) ≡ b →
          (by_row pc list (more (key_at code pc)) ≡ by_row pc list unmodelled) ⊎ (by_row pc list unmodelled ≡ stops not_modelled)
      by_end true e = inr (rw e)
      by_end false e = inl (rw e)

  beside :
      (turns pc : ℕ) (list : List A) (n : ℕ) →
      Beside (walk_from marks rows lookup code fault turns pc list n) (walk_from marks more lookup code fault turns pc list n)
      (completed_from marks rows lookup code fault turns pc list) (completed_from marks more lookup code fault turns pc list)
  unfolding walk_from completed_from
  beside zero pc list n = alike
  beside (suc turns) pc list n = by_test (ltb pc fault) (λ next l. beside turns next l (n + 1))
    where
      Rest : Type 0
      Rest =
          (next : ℕ) (l : List A) →
          Beside (walk_from marks rows lookup code fault turns next l (n + 1))
          (walk_from marks more lookup code fault turns next l (n + 1))
          (completed_from marks rows lookup code fault turns next l) (completed_from marks more lookup code fault turns next l)

      -- how the walk by a table ends behind an outcome, and what it completes
      ends : (ℕ → Row) → Outcome A → Walked A
      ends table x =
          after marks table lookup code fault x pc n (λ next l. walk_from marks table lookup code fault turns next l (n + 1))

      completes : (ℕ → Row) → Outcome A → List Completed
      completes table x =
          completing marks table lookup code fault x pc (λ next l. completed_from marks table lookup code fault turns next l)

      by_outcome : Rest → (x : Outcome A) → Beside (ends rows x) (ends more x) (completes rows x) (completes more x)
      by_outcome rest (stops reason) = alike
      by_outcome rest (goes next l) = beside_after (record { index = pc; height = length l }) (rest next l)
      by_outcome rest (passes l) = alike

      by_step :
          Rest → (x y : Outcome A) → (y ≡ x) ⊎ (x ≡ stops not_modelled) →
          Beside (ends rows x) (ends more y) (completes rows x) (completes more y)
      by_step rest x y (inl e) = rw e (by_outcome rest x)
      by_step rest x y (inr e) = rw e (goes_on (completes more y))

      by_test :
          (b : Bool) → Rest →
          Beside
          (pick b (ends rows (step marks rows lookup code fault pc list)) (ended marks rows lookup code fault pc list n))
          (pick b (ends more (step marks more lookup code fault pc list)) (ended marks more lookup code fault pc list n))
          (pick b (completes rows (step marks rows lookup code fault pc list)) [])
          (pick b (completes more (step marks more lookup code fault pc list)) [])
      by_test true rest =
          by_step rest (step marks rows lookup code fault pc list) (step marks more lookup code fault pc list) (same_step pc list)
      by_test false rest = alike

pub walk_extends : WalkExtends
unfolding walk completed
walk_extends A marks rows more extends lookup code fault leader modelled =
    same_in_all (beside marks rows more extends lookup code fault (fault - leader) leader [] 0) modelled

pub walk_reaches : WalkReaches
unfolding walk completed
walk_reaches A marks rows more extends lookup code fault leader =
    first_ones (beside marks rows more extends lookup code fault (fault - leader) leader [] 0)
