-- What the code's answer to one instruction tells of the walk from there on, by any table of rows.
-- Assumes nothing.
use Rattle.std.specs.Prelude.{Result, Ok, Err}
use Prim.Native.Nat.{ℕ, zero, suc, ◌+◌, ◌≤◌, ◌<◌}
use native.Mathlib.Omega.{arith}
use mathlib.Core.Path.{◌≡◌, refl, ap}
use mathlib.Core.Bool.{Bool, true, false}
use mathlib.Core.List.{List}
use lib.Dec.{leb}
use lib.ListN.{length}
use borrow.Author.Tests.{lt-ltb, le-ltb, eq-eqb, ne_eqb, leb-true}
use Rattle.basics.specs.Choice.{pick}
use Rattle.effects.specs.Lookup.{Lookup}
use Rattle.effects.specs.Rows.{Row}
use Rattle.walk.specs.Room.{completing, completed_from, Roomed, lacks, fits, judged, shown}
use Rattle.walk.specs.Walk.{Reason, overshot, cells, Outcome, stops, goes, passes, done, failed, step, after, walk_from}
use Rattle.block.specs.Inner.{going, step_of, Stepped}
use Rattle.block.specs.declared.Halt.{Halt}
use Rattle.block.specs.declared.Place.{Place}
use Rattle.block.specs.declared.Halt.TheVariants.{Stops, Lacks, Passes}

no_stops : {P : Type 0} (b : Bool) (other : Result Place Halt) → (Err Stops ≡ other → ⊥) → Err Stops ≡ pick b other (Err Lacks) → P
no_stops true other never e = absurd (never e)
no_stops false other never e = absurd cc

-- an instruction that stops, or lacks room, leaves the cells as they were
module _ (stack left : List ℕ) where
  pub kept_stopped : (x : Outcome ℕ) → Stepped stack (Err Stops) left x → left ≡ stack
  kept_stopped (stops reason) s = s.leaves
  kept_stopped (goes next list) s =
      no_stops (leb (length list) (length stack)) (going next (length list)) (λ z. cc) s.answers
  kept_stopped (passes list) s = no_stops (leb (length list) (length stack)) (Err Passes) (λ z. cc) s.answers

  kept_unless :
      (b : Bool) (other : Result Place Halt) (list : List ℕ) → (Err Lacks ≡ other → ⊥) → Err Lacks ≡ pick b other (Err Lacks) →
      left ≡ pick b list stack → left ≡ stack
  kept_unless true other list never e l = absurd (never e)
  kept_unless false other list never e l = l

  pub kept_lacked : (x : Outcome ℕ) → Stepped stack (Err Lacks) left x → left ≡ stack
  kept_lacked (stops reason) s = s.leaves
  kept_lacked (goes next list) s =
      kept_unless (leb (length list) (length stack)) (going next (length list)) (shown (length stack) list) (λ z. cc)
      s.answers s.leaves
  kept_lacked (passes list) s =
      kept_unless (leb (length list) (length stack)) (Err Passes) (shown (length stack) list) (λ z. cc) s.answers s.leaves

module _ (rows : ℕ → Row) (lookup : Lookup) (code : List ℕ) (fault room : ℕ) where
  abbrev pub at : ℕ → List ℕ → Outcome ℕ
  at pc slots = step cells rows lookup code fault pc slots

  abbrev pub from : ℕ → ℕ → List ℕ → ℕ → Roomed ℕ
  from turns pc slots count =
      judged room (completed_from cells rows lookup code fault turns pc slots)
      (walk_from cells rows lookup code fault turns pc slots count)

  -- what follows an instruction
  abbrev pub following : ℕ → ℕ → ℕ → Outcome ℕ → Roomed ℕ
  following turns pc count (stops reason) = fits (failed count pc reason)
  following turns pc count (goes next slots) = pick (leb (length slots) room) (from turns next slots (count + 1)) (lacks pc)
  following turns pc count (passes slots) = pick (leb (length slots) room) (fits (failed (count + 1) pc overshot)) (lacks pc)

  pub turn :
      (turns pc count : ℕ) (slots : List ℕ) → pc < fault →
      from (suc turns) pc slots count ≡ following turns pc count (at pc slots)
  unfolding completed_from walk_from
  turn turns pc count slots short = rw (lt-ltb pc fault short) (by_outcome (at pc slots))
    where
      by_outcome :
          (x : Outcome ℕ) →
          judged room
          (completing cells rows lookup code fault x pc
          (λ next list. completed_from cells rows lookup code fault turns next list))
          (after cells rows lookup code fault x pc count
          (λ next list. walk_from cells rows lookup code fault turns next list (count + 1)))
          ≡ following turns pc count x
      by_outcome (stops reason) = refl
      by_outcome (goes next list) = refl
      by_outcome (passes list) = refl

  pub ended_at : (turns pc count : ℕ) (slots : List ℕ) → pc ≡ fault → from turns pc slots count ≡ fits (done slots count)
  unfolding completed_from walk_from
  ended_at zero pc count slots e = rw (eq-eqb pc fault e)
  ended_at (suc turns) pc count slots e = rw (le-ltb pc fault (omega arith), eq-eqb pc fault e)

  pub ended_past :
      (turns pc count : ℕ) (slots : List ℕ) → fault ≤ pc → (pc ≡ fault → ⊥) →
      from turns pc slots count ≡ fits (failed count pc overshot)
  unfolding completed_from walk_from
  ended_past zero pc count slots l e = rw (ne_eqb pc fault e)
  ended_past (suc turns) pc count slots l e = rw (le-ltb pc fault l, ne_eqb pc fault e)

  -- ---- by what the code answers of the instruction

  pub stopped :
      (turns pc count : ℕ) (x : Outcome ℕ) → Err Stops ≡ step_of room x →
      (reason : Reason) × (following turns pc count x ≡ fits (failed count pc reason))
  stopped turns pc count (stops reason) e = (reason, refl)
  stopped turns pc count (goes next list) e = no_stops (leb (length list) room) (going next (length list)) (λ z. cc) e
  stopped turns pc count (passes list) e = no_stops (leb (length list) room) (Err Passes) (λ z. cc) e

  pub lacked : (turns pc count : ℕ) (x : Outcome ℕ) → Err Lacks ≡ step_of room x → following turns pc count x ≡ lacks pc
  lacked turns pc count (stops reason) e = absurd cc
  lacked turns pc count (goes next list) e = by_test (leb (length list) room) e
    where
      by_test :
          (b : Bool) → Err Lacks ≡ pick b (going next (length list)) (Err Lacks) →
          pick b (from turns next list (count + 1)) (lacks pc) ≡ lacks pc
      by_test true e = absurd cc
      by_test false e = refl
  lacked turns pc count (passes list) e = by_test (leb (length list) room) e
    where
      by_test :
          (b : Bool) → ◌≡◌ {A = Result Place Halt} (Err Lacks) (pick b (Err Passes) (Err Lacks)) →
          pick {A = Roomed ℕ} b (fits (failed (count + 1) pc overshot)) (lacks pc) ≡ lacks pc
      by_test true e = absurd cc
      by_test false e = refl

  pub passed :
      (turns pc count : ℕ) (x : Outcome ℕ) → Err Passes ≡ step_of room x →
      following turns pc count x ≡ fits (failed (count + 1) pc overshot)
  passed turns pc count (stops reason) e = absurd cc
  passed turns pc count (goes next list) e = by_test (leb (length list) room) e
    where
      by_test : {P : Type 0} (b : Bool) → Err Passes ≡ pick b (going next (length list)) (Err Lacks) → P
      by_test true e = absurd cc
      by_test false e = absurd cc
  passed turns pc count (passes list) e = by_test (leb (length list) room) e
    where
      by_test :
          (b : Bool) → ◌≡◌ {A = Result Place Halt} (Err Passes) (pick b (Err Passes) (Err Lacks)) →
          pick {A = Roomed ℕ} b (fits (failed (count + 1) pc overshot)) (lacks pc) ≡ fits (failed (count + 1) pc overshot)
      by_test true e = refl
      by_test false e = absurd cc

  same_place : (p q : Place) → ◌≡◌ {A = Result Place Halt} (Ok p) (Ok q) → p ≡ q
  same_place p q e = cc

  abbrev pub Went : ℕ → ℕ → Outcome ℕ → Type 0
  Went next high x = (list : List ℕ) × (x ≡ goes next list) × (high ≡ length list) × (length list ≤ room)

  pub went : (next high : ℕ) (x : Outcome ℕ) → going next high ≡ step_of room x → Went next high x
  went next high (stops reason) e = absurd cc
  went next high (goes q list) e = by_test (leb (length list) room) refl e
    where
      by_test :
          (b : Bool) → leb (length list) room ≡ b → going next high ≡ pick b (going q (length list)) (Err Lacks) →
          Went next high (goes q list)
      by_test true t e =
          let place = same_place _ _ e in
          let same : next ≡ q = ap (λ (p : Place). p.pc) place in
          let size : high ≡ length list = ap (λ (p : Place). p.height) place in
          (list, rw same, size, leb-true (length list) room t)
      by_test false t e = absurd cc
  went next high (passes list) e = by_test (leb (length list) room) e
    where
      by_test : {P : Type 0} (b : Bool) → going next high ≡ pick b (Err Passes) (Err Lacks) → P
      by_test true e = absurd cc
      by_test false e = absurd cc
