-- From a list that is laid into the cells to the instruction that does so, by any table of rows.
-- Assumes nothing.
use Rattle.std.specs.Prelude.{Result, Ok, Err}
use Prim.Native.Nat.{ℕ, ◌+◌, ◌≤◌, ◌<◌}
use mathlib.Core.Path.{◌≡◌, refl}
use mathlib.Core.Bool.{Bool, true, false}
use mathlib.Core.List.{List}
use lib.Dec.{leb}
use lib.ListN.{length}
use borrow.Author.Tests.{lt-ltb, le-ltb}
use Rattle.basics.specs.Choice.{pick}
use Rattle.jvms.specs.Stack.{key_at}
use Rattle.fixed.specs.Fixed.{size_at}
use Rattle.effects.specs.Lookup.{Lookup}
use Rattle.effects.specs.Rows.{Row}
use Rattle.walk.specs.Walk.{Reason, too_few, cells, blanks, load, carried, unread, Effect, fails, does, effect_by, Made}
use Rattle.walk.specs.Walk.{refused, made, applied, goes, passes, landed, step}
use Rattle.instruction.specs.Code.{bare}
use Rattle.block.specs.Inner.{going, laid_in, Laid, Stepped}
use Rattle.block.specs.declared.Halt.{Halt}
use Rattle.block.specs.declared.Place.{Place}
use Rattle.block.specs.declared.Halt.TheVariants.{Stops, Lacks, Passes}

-- why an effect fails does not show in the cells
module _ (stack : List ℕ) (answer : Result ℕ Halt) (left : List ℕ) (pc : ℕ) (slots : List ℕ) where
  abbrev Lays : Effect → Type 0
  Lays effect = Laid stack answer left (applied cells pc effect slots)

  unread_fails :
      (b : Bool) (reason : Reason) → Laid stack answer left (refused reason) →
      (other : Reason) → Laid stack answer left (pick b (refused other) (refused too_few))
  unread_fails true reason laid other = record { answers = laid.answers; leaves = laid.leaves }
  unread_fails false reason laid other = record { answers = laid.answers; leaves = laid.leaves }

  with_reason : (effect : Effect) → Lays (bare effect) → Lays effect
  with_reason (fails reason) laid = record { answers = laid.answers; leaves = laid.leaves }
  with_reason (does takes (blanks n)) laid = laid
  with_reason (does takes (load local)) laid = laid
  with_reason (does takes (carried places)) laid = laid
  with_reason (does takes (unread reason)) laid = unread_fails (leb takes (length slots)) _ laid reason

-- ---- how the instruction ends, by how its list was laid

err_so : (other : Result Place Halt) (b : Bool) (k : ℕ) (why : Halt) → Err why ≡ pick b (Ok k) (Err Lacks) → Err why ≡ pick b other (Err Lacks)
err_so other true k why e = absurd cc
err_so other false k why e = cc

high_so : (b : Bool) (k j : ℕ) → Ok j ≡ pick b (Ok k) (Err Lacks) → (b ≡ true) × (j ≡ k)
high_so true k j e = let same : j ≡ k = cc in (refl, same)
high_so false k j e = absurd cc

module _ (stack left : List ℕ) (fault next : ℕ) where
  abbrev Ends : Result Place Halt → Made ℕ → Type 0
  Ends answer outcome = Stepped stack answer left (landed fault next outcome)

  -- going on or passing the fault, in room enough or not
  lands :
      (test : Bool) (answer : Result Place Halt) (slots : List ℕ) →
      answer ≡ pick (leb (length slots) (length stack)) (pick test (going next (length slots)) (Err Passes)) (Err Lacks) →
      left ≡ laid_in stack (made slots) → Stepped stack answer left (pick test (goes next slots) (passes slots))
  lands true answer slots a l = record { answers = a; leaves = l }
  lands false answer slots a l = record { answers = a; leaves = l }

  halts : (outcome : Made ℕ) (why : Halt) → Laid stack (Err why) left outcome → Ends (Err why) outcome
  halts (refused reason) why laid =
      let answers : Err why ≡ Err Stops = laid.answers in
      let same : why ≡ Stops = cc in
      record { answers = rw same; leaves = laid.leaves }
  halts (made slots) why laid =
      lands (leb next fault) (Err why) slots (err_so _ (leb (length slots) (length stack)) (length slots) why laid.answers) laid.leaves

  fits :
      (outcome : Made ℕ) (height : ℕ) (answer : Result Place Halt) → Laid stack (Ok height) left outcome →
      answer ≡ pick (leb next fault) (going next height) (Err Passes) → Ends answer outcome
  fits (refused reason) height answer laid e =
      let e : Ok height ≡ Err Stops = laid.answers in
      absurd cc
  fits (made slots) height answer laid e =
      let told = high_so (leb (length slots) (length stack)) (length slots) height laid.answers in
      lands (leb next fault) answer slots (rw (told.0, ← told.1) e) laid.leaves

-- ---- the instruction at pc

module _ (rows : ℕ → Row) (lookup : Lookup) (code : List ℕ) (fault pc : ℕ) (stack slots : List ℕ) where
  abbrev pub Steps : Result Place Halt → List ℕ → Type 0
  Steps answer left = Stepped stack answer left (step cells rows lookup code fault pc slots)

  pub past_end : length code ≤ pc → Steps (Err Stops) stack
  unfolding step
  past_end l = rw (le-ltb pc (length code) l) (record { answers = refl; leaves = refl })

  -- effect: what the code read
  module _ (inside : pc < length code) (effect : Effect)
      (read : effect ≡ bare (effect_by lookup code pc (rows (key_at code pc)))) (left : List ℕ) where
    abbrev known : Result ℕ Halt → Type 0
    known answer = Laid stack answer left (applied cells pc effect slots)

    lay :
        (answer : Result ℕ Halt) → known answer →
        Laid stack answer left (applied cells pc (effect_by lookup code pc (rows (key_at code pc))) slots)
    lay answer laid =
        with_reason stack answer left pc slots (effect_by lookup code pc (rows (key_at code pc))) (rw read at laid)

    pub halts_at : (why : Halt) → known (Err why) → Steps (Err why) left
    unfolding step
    halts_at why laid = rw (lt-ltb pc (length code) inside) (halts stack left fault _ _ why (lay (Err why) laid))

    pub lands_at :
        (height size : ℕ) (answer : Result Place Halt) → size ≡ size_at code pc → known (Ok height) →
        answer ≡ pick (leb (pc + size) fault) (going (pc + size) height) (Err Passes) → Steps answer left
    unfolding step
    lands_at height size answer e laid a =
        rw (lt-ltb pc (length code) inside) (fits stack left fault _ _ height answer (lay (Ok height) laid) (rw e at a))
