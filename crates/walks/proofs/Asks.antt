-- Members that no instruction asks for, of those that a walk comes to in its room, change nothing.
-- Assumes nothing.
use Prim.Native.Nat.{ℕ, zero, suc, ◌+◌, ◌-◌, ◌<◌}
use native.Mathlib.Omega.{arith}
use mathlib.Core.Path.{◌≡◌, refl, ap}
use mathlib.Core.Bool.{Bool, true, false}
use mathlib.Core.List.{List, []}
use lib.Dec.{leb, ltb}
use lib.ListN.{length}
use borrow.Author.Tests.{ltb-true, leb-true}
use Rattle.basics.specs.Choice.{pick}
use Rattle.jvms.specs.Stack.{key_at}
use Rattle.fixed.specs.Fixed.{size_at}
use Rattle.effects.specs.Lookup.{Lookup}
use Rattle.effects.specs.Rows.{Row, unmodelled, opaque, aload, aload_far, aload_of, carries, keeps, gets, calls, puts, makes}
use Rattle.walk.specs.Room.{completing, completed_from, completed, Roomed, lacks, judged}
use Rattle.walk.specs.Walk.{Marks, past_end, Effect, effect_by, applied, landed}
use Rattle.walk.specs.Walk.{Outcome, stops, goes, passes, step, ended, after, walk_from, walk}
use Rattle.walks.specs.Comes.{ComesIn, first, then}
use Rattle.walks.specs.Models.{AlikeFor, WalkAsks}

module _ {A : Type 0} (marks : Marks A) (rows : ℕ → Row) (one other : Lookup) (code : List ℕ) (fault leader room : ℕ) where
  effect_same : (pc : ℕ) (row : Row) → AlikeFor row one other code pc → effect_by one code pc row ≡ effect_by other code pc row
  effect_same pc unmodelled a = refl
  effect_same pc (opaque taken given) a = refl
  effect_same pc aload a = refl
  effect_same pc aload_far a = refl
  effect_same pc (aload_of local) a = refl
  effect_same pc (carries taken places) a = refl
  effect_same pc keeps a = refl
  effect_same pc (gets taken) a = rw a
  effect_same pc (calls taken) a = rw a
  effect_same pc (puts taken) a = rw a
  effect_same pc makes a = refl

  step_same :
      (pc : ℕ) (list : List A) → AlikeFor (rows (key_at code pc)) one other code pc →
      step marks rows one code fault pc list ≡ step marks rows other code fault pc list
  unfolding step
  step_same pc list a =
      ap
      (λ (x : Effect).
      pick (ltb pc (length code)) (landed fault (pc + size_at code pc) (applied marks pc x list)) (stops past_end))
      (effect_same pc (rows (key_at code pc)) a)

  abbrev Come : ℕ → ℕ → List A → Type 0
  Come = ComesIn marks rows one code fault leader room

  -- the walk by a lookup from an index on, judged by the room
  abbrev from : Lookup → ℕ → ℕ → List A → ℕ → Roomed A
  from lookup turns pc list n =
      judged room (completed_from marks rows lookup code fault turns pc list) (walk_from marks rows lookup code fault turns pc list n)

  -- and behind one instruction
  abbrev behind : Lookup → ℕ → ℕ → ℕ → Outcome A → Roomed A
  behind lookup turns pc n x =
      judged room
      (completing marks rows lookup code fault x pc (λ next l. completed_from marks rows lookup code fault turns next l))
      (after marks rows lookup code fault x pc n (λ next l. walk_from marks rows lookup code fault turns next l (n + 1)))

  module _ (alike :
      (count pc : ℕ) (list : List A) → Come count pc list → pc < fault → AlikeFor (rows (key_at code pc)) one other code pc) where
    same : (turns pc : ℕ) (list : List A) (n : ℕ) → Come n pc list → from one turns pc list n ≡ from other turns pc list n
    unfolding walk_from completed_from
    same zero pc list n c = refl
    same (suc turns) pc list n c = by_test (ltb pc fault) refl (λ next l d. same turns next l (n + 1) d)
      where
        Rest : Type 0
        Rest = (next : ℕ) (l : List A) → Come (n + 1) next l → from one turns next l (n + 1) ≡ from other turns next l (n + 1)

        by_room :
            Rest → (next : ℕ) (l : List A) → pc < fault → step marks rows one code fault pc list ≡ goes next l →
            (b : Bool) → leb (length l) room ≡ b →
            pick b (from one turns next l (n + 1)) (lacks pc) ≡ pick b (from other turns next l (n + 1)) (lacks pc)
        by_room rest next l short e true fits = rest next l (then c short e (omega (arith, leb-true (length l) room fits)))
        by_room rest next l short e false lacking = refl

        by_outcome :
            Rest → pc < fault → (x : Outcome A) → step marks rows one code fault pc list ≡ x →
            behind one turns pc n x ≡ behind other turns pc n x
        by_outcome rest short (stops reason) e = refl
        by_outcome rest short (goes next l) e = by_room rest next l short e (leb (length l) room) refl
        by_outcome rest short (passes l) e = refl

        by_test :
            (b : Bool) → ltb pc fault ≡ b → Rest →
            judged room
            (pick b
            (completing marks rows one code fault (step marks rows one code fault pc list) pc
            (λ next l. completed_from marks rows one code fault turns next l))
            [])
            (pick b
            (after marks rows one code fault (step marks rows one code fault pc list) pc n
            (λ next l. walk_from marks rows one code fault turns next l (n + 1)))
            (ended marks rows one code fault pc list n))
            ≡ judged room
            (pick b
            (completing marks rows other code fault (step marks rows other code fault pc list) pc
            (λ next l. completed_from marks rows other code fault turns next l))
            [])
            (pick b
            (after marks rows other code fault (step marks rows other code fault pc list) pc n
            (λ next l. walk_from marks rows other code fault turns next l (n + 1)))
            (ended marks rows other code fault pc list n))
        by_test true h rest =
            let short : pc < fault = ltb-true pc fault h in
            rw (← step_same pc list (alike n pc list c short)) (by_outcome rest short (step marks rows one code fault pc list) refl)
        by_test false h rest = refl

pub walk_asks : WalkAsks
unfolding walk completed
walk_asks A marks rows one other code fault leader room alike =
    same marks rows one other code fault leader room alike (fault - leader) leader [] 0 first
