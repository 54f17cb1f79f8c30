-- Two ways to write slots: the walks go alike.
-- Assumes nothing.
use Prim.Native.Nat.{ℕ, zero, suc, ◌+◌, ◌-◌, ◌<◌}
use mathlib.Core.Path.{◌≡◌, refl, ap}
use mathlib.Core.Bool.{Bool, true, false}
use mathlib.Core.List.{List, [], ◌∷◌, ◌++◌}
use lib.Dec.{leb, ltb, eqb}
use lib.ListN.{length, take}
use borrow.Author.Tests.{ltb-true}
use Rattle.basics.specs.Choice.{pick}
use Rattle.basics.specs.Each.{Each, none, one}
use Rattle.basics.proofs.Each.{each_length, each_take, each_drop, each_append, each_replicate}
use Rattle.jvms.specs.Stack.{key_at}
use Rattle.fixed.specs.Fixed.{size_at}
use Rattle.effects.specs.Lookup.{Lookup}
use Rattle.effects.specs.Rows.{Row}
use Rattle.walk.specs.Room.{completing, completed_from, completed}
use Rattle.walk.specs.Walk.{Reason, past_end, too_few, too_large, overshot, Marks, Push, blanks, load, carried, unread, Effect, fails, does, effect_by}
use Rattle.walk.specs.Walk.{Made, refused, made, placed, pushed, applied, Outcome, stops, goes, passes, landed, done, failed, step, ended, after, walk_from, walk}
use Rattle.walks.specs.Marks.{Related, EndAlike, both_done, both_failed, WalkBoth}

data MadeAlike {A B : Type 0} (R : A → B → Type 0) : Made A → Made B → Type 0 where
  both_refused : {reason : Reason} → MadeAlike R (refused reason) (refused reason)
  both_made : {slots : List A} {others : List B} → Each R slots others → MadeAlike R (made slots) (made others)

data StepAlike {A B : Type 0} (R : A → B → Type 0) : Outcome A → Outcome B → Type 0 where
  both_stop : {reason : Reason} → StepAlike R (stops reason) (stops reason)
  both_go : {next : ℕ} {slots : List A} {others : List B} → Each R slots others → StepAlike R (goes next slots) (goes next others)
  both_pass : {slots : List A} {others : List B} → Each R slots others → StepAlike R (passes slots) (passes others)

each_placed :
    {A B : Type 0} {R : A → B → Type 0} (places : List ℕ) {slots : List A} {others : List B} → Each R slots others →
    Each R (placed places slots) (placed places others)
each_placed [] h = none
each_placed (j ∷ js) {slots} {others} h =
    rw (each_length h) (each_append (each_take 1 (each_drop (length others - j) h)) (each_placed js h))

module _ {A B : Type 0} (R : A → B → Type 0) (M : Marks A) (N : Marks B) where
  -- ---- an effect, of the instruction at pc

  module _ (pc : ℕ) (blank : R (M.blank pc) (N.blank pc)) where
    -- what is asked of a load
    abbrev Loads : ℕ → Type 0
    Loads local = R (M.mark pc local) (N.mark pc local) × (M.holds pc local ≡ N.holds pc local)

    pushed_alike :
        {kept slots : List A} {left others : List B} → Each R kept left → Each R slots others → (push : Push) →
        ((local : ℕ) → push ≡ load local → Loads local) → MadeAlike R (pushed M pc kept slots push) (pushed N pc left others push)
    pushed_alike k h (blanks n) asked = both_made (each_append k (each_replicate n (M.blank pc) (N.blank pc) blank))
    pushed_alike {kept} {slots} {left} {others} k h (load local) asked =
        rw (asked local refl).1 (by_test (N.holds pc local))
      where
        by_test :
            (b : Bool) →
            MadeAlike R (pick b (made (kept ++ M.mark pc local ∷ [])) (refused too_large))
            (pick b (made (left ++ N.mark pc local ∷ [])) (refused too_large))
        by_test true = both_made (each_append k (one (asked local refl).0 none))
        by_test false = both_refused
    pushed_alike k h (carried places) asked = both_made (each_append k (each_placed places h))
    pushed_alike k h (unread reason) asked = both_refused

    applied_alike :
        (effect : Effect) → ((takes local : ℕ) → effect ≡ does takes (load local) → Loads local) →
        {slots : List A} {others : List B} → Each R slots others →
        MadeAlike R (applied M pc effect slots) (applied N pc effect others)
    applied_alike (fails reason) asked h = both_refused
    applied_alike (does takes push) asked {slots} {others} h = rw (each_length h) (by_test (leb takes (length others)))
      where
        by_test :
            (b : Bool) →
            MadeAlike R (pick b (pushed M pc (take (length others - takes) slots) slots push) (refused too_few))
            (pick b (pushed N pc (take (length others - takes) others) others push) (refused too_few))
        by_test true =
            pushed_alike (each_take (length others - takes) h) h push (λ local e. asked takes local (ap (does takes) e))
        by_test false = both_refused

  landed_alike :
      (fault next : ℕ) {x : Made A} {y : Made B} → MadeAlike R x y → StepAlike R (landed fault next x) (landed fault next y)
  landed_alike fault next both_refused = both_stop
  landed_alike fault next (both_made {slots} {others} h) = by_test (leb next fault)
    where
      by_test : (b : Bool) → StepAlike R (pick b (goes next slots) (passes slots)) (pick b (goes next others) (passes others))
      by_test true = both_go h
      by_test false = both_pass h

  module _ (rows : ℕ → Row) (lookup : Lookup) (code : List ℕ) (related : Related R M N rows lookup code) (fault : ℕ) where
    step_alike :
        (pc : ℕ) {slots : List A} {others : List B} → Each R slots others →
        StepAlike R (step M rows lookup code fault pc slots) (step N rows lookup code fault pc others)
    unfolding step
    step_alike pc {slots} {others} h = by_test (ltb pc (length code)) refl
      where
        effect : Effect
        effect = effect_by lookup code pc (rows (key_at code pc))

        by_test :
            (b : Bool) → ltb pc (length code) ≡ b →
            StepAlike R (pick b (landed fault (pc + size_at code pc) (applied M pc effect slots)) (stops past_end))
            (pick b (landed fault (pc + size_at code pc) (applied N pc effect others)) (stops past_end))
        by_test true t =
            let inside : pc < length code = ltb-true pc (length code) t in
            landed_alike fault (pc + size_at code pc)
            (applied_alike pc (related.blanks pc inside) effect
            (λ takes local e. (related.loads pc takes local inside e, related.holds pc takes local inside e))
            h)
        by_test false t = both_stop

    -- ---- the walk

    ended_alike :
        (pc n : ℕ) {slots : List A} {others : List B} → Each R slots others →
        EndAlike R (ended M rows lookup code fault pc slots n) (ended N rows lookup code fault pc others n)
    ended_alike pc n {slots} {others} h = by_test (eqb pc fault)
      where
        by_test :
            (b : Bool) → EndAlike R (pick b (done slots n) (failed n pc overshot)) (pick b (done others n) (failed n pc overshot))
        by_test true = both_done h
        by_test false = both_failed

    abbrev Both : ℕ → ℕ → ℕ → List A → List B → Type 0
    Both turns pc n slots others =
        EndAlike R (walk_from M rows lookup code fault turns pc slots n) (walk_from N rows lookup code fault turns pc others n)
        × (completed_from M rows lookup code fault turns pc slots ≡ completed_from N rows lookup code fault turns pc others)

    walks_alike :
        (turns pc n : ℕ) {slots : List A} {others : List B} → Each R slots others → Both turns pc n slots others
    unfolding walk_from completed_from
    walks_alike zero pc n h = (ended_alike pc n h, refl)
    walks_alike (suc turns) pc n {slots} {others} h =
        by_test (ltb pc fault) (λ next xs ys k. walks_alike turns next (n + 1) k)
      where
        Rest : Type 0
        Rest = (next : ℕ) (xs : List A) (ys : List B) → Each R xs ys → Both turns next (n + 1) xs ys

        by_step :
            Rest → {x : Outcome A} {y : Outcome B} → StepAlike R x y →
            EndAlike R (after M rows lookup code fault x pc n (λ next l. walk_from M rows lookup code fault turns next l (n + 1)))
            (after N rows lookup code fault y pc n (λ next l. walk_from N rows lookup code fault turns next l (n + 1)))
            × (completing M rows lookup code fault x pc (λ next l. completed_from M rows lookup code fault turns next l)
            ≡ completing N rows lookup code fault y pc (λ next l. completed_from N rows lookup code fault turns next l))
        by_step rest both_stop = (both_failed, refl)
        by_step rest (both_go {next} {slots} {others} k) =
            let more = rest next slots others k in
            (more.0, rw (each_length k, more.1))
        by_step rest (both_pass k) = (both_failed, rw (each_length k))

        by_test :
            (b : Bool) → Rest →
            EndAlike R
            (pick b
            (after M rows lookup code fault (step M rows lookup code fault pc slots) pc n
            (λ next l. walk_from M rows lookup code fault turns next l (n + 1)))
            (ended M rows lookup code fault pc slots n))
            (pick b
            (after N rows lookup code fault (step N rows lookup code fault pc others) pc n
            (λ next l. walk_from N rows lookup code fault turns next l (n + 1)))
            (ended N rows lookup code fault pc others n))
            × (pick b
            (completing M rows lookup code fault (step M rows lookup code fault pc slots) pc
            (λ next l. completed_from M rows lookup code fault turns next l))
            []
            ≡ pick b
            (completing N rows lookup code fault (step N rows lookup code fault pc others) pc
            (λ next l. completed_from N rows lookup code fault turns next l))
            [])
        by_test true rest = by_step rest (step_alike pc h)
        by_test false rest = (ended_alike pc n h, refl)

pub walk_both : WalkBoth
unfolding walk completed
walk_both A B R M N rows lookup code related fault leader =
    walks_alike R M N rows lookup code related fault (fault - leader) leader 0 none
