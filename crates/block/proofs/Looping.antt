-- The walk's loop, by any table of rows: the walk from an index on is the walk from the leader. Where the loop ends, the contract is met.
-- Assumes nothing.
use Rattle.std.specs.Prelude.{Result, Err}
use Prim.Native.Nat.{ℕ, zero, suc, ◌+◌, ◌-◌, ◌≤◌, ◌<◌}
use native.Mathlib.Nat.{zero-add}
use native.Mathlib.Omega.{arith}
use mathlib.Core.Path.{◌≡◌, refl, ◌∙◌, sym, ap}
use mathlib.Core.List.{List, []}
use lib.ListN.{length, take, replicate, length-replicate}
use lib.Seq.{length-take-le}
use borrow.Author.Tests.{le-leb}
use Rattle.basics.specs.Bytes.{AreBytes}
use Rattle.effects.specs.Agreement.{Sized}
use Rattle.effects.specs.Lookup.{Lookup, lookup_in}
use Rattle.effects.specs.Rows.{Row, rows_of}
use Rattle.effects.specs.declared.Model.{Model}
use Rattle.block.specs.Inner.{going, Clean, step_of, stepped_in, Stepped}
use Rattle.walk.specs.Room.{completed, Roomed, fits, block_walk_by, block_walk_in, answer_of, shown, cells_of, WalksIn}
use Rattle.walk.specs.Walk.{Reason, overshot, cells, Outcome, goes, failed, walk}
use Rattle.walk.proofs.Step.{onward}
use Rattle.walk.specs.declared.Walk.{Walk}
use Rattle.walk.specs.declared.Walk.TheVariants.{Done, Failed, NoRoom}
use Rattle.block.proofs.Laying.{shown_take, shown_length, clean_shown}
use Rattle.block.proofs.Walking.{at, from, following, turn, ended_at, ended_past, stopped, lacked, passed}
use Rattle.block.proofs.Walking.{went, kept_stopped, kept_lacked}
use Rattle.block.specs.declared.Halt.{Halt}
use Rattle.block.specs.declared.Place.{Place}
use Rattle.block.specs.declared.Halt.TheVariants.{Stops, Lacks, Passes}

module _ (rows : ℕ → Row) (code members : List ℕ) (count leader fault : ℕ) where
  abbrev lookup : Lookup
  lookup = lookup_in members count

  abbrev whole : ℕ → Roomed ℕ
  whole room = block_walk_by rows code members count leader fault room

  -- stack: the cells, whose first so many are the slots
  abbrev pub Inv : ℕ → List ℕ → ℕ → ℕ → ℕ → Type 0
  Inv room stack pc height completed =
      (length stack ≡ room) × Clean stack height
      × ((turns : ℕ) × (fault - pc ≤ turns) × (completed + turns ≡ fault - leader)
      × (from rows lookup code fault room turns pc (take height stack) completed ≡ whole room))

  -- the loop starts at the leader, in cells that are zero
  pub starts : (room : ℕ) (stack : List ℕ) → stack ≡ replicate room 0 → Inv (length stack) stack leader 0 0
  unfolding completed walk
  starts room stack e =
      let size : length stack ≡ room = ap length e ∙ length-replicate room 0 in
      let clean : Clean (shown (length stack) []) 0 = clean_shown (length stack) [] (omega arith) in
      let none : length stack - 0 ≡ room = omega (arith, size) in
      let same : shown (length stack) [] ≡ stack = ap (λ (k : ℕ). replicate k 0) none ∙ sym e in
      (refl, rw same at clean, (fault - leader, omega arith, zero-add _, refl))

  -- ---- a turn

  moved :
      (room : ℕ) (left list : List ℕ) (next high completed turns : ℕ) → left ≡ shown room list → high ≡ length list →
      length list ≤ room → fault - next ≤ turns → completed + turns ≡ fault - leader →
      from rows lookup code fault room turns next list completed ≡ whole room → Inv room left next high completed
  moved room left list next high completed turns left_is high_is small enough spent e = (
    ap length left_is ∙ shown_length room list small,
    rw (left_is, high_is) (clean_shown room list small),
    (turns, enough, spent, rw (left_is, high_is, shown_take room list) e),
  )

  module _ (room : ℕ) (stack : List ℕ) (pc height completed : ℕ) (i : Inv room stack pc height completed) where
    abbrev here : Outcome ℕ
    here = at rows lookup code fault room pc (take height stack)

    -- some turns are left
    next_turn :
        (turns : ℕ) → pc < fault → fault - pc ≤ turns →
        from rows lookup code fault room turns pc (take height stack) completed ≡ whole room →
        following rows lookup code fault room (turns - 1) pc completed here ≡ whole room
    next_turn zero short enough e = absurd (omega arith)
    next_turn (suc turns) short enough e =
        let one : suc turns - 1 ≡ turns = omega arith in
        rw one (sym (turn rows lookup code fault room turns pc completed (take height stack) short) ∙ e)

    told : pc < fault → following rows lookup code fault room (i.2.0 - 1) pc completed here ≡ whole room
    told short = next_turn i.2.0 short i.2.1 i.2.3

    sized_so : (answer : Result Place Halt) → answer ≡ step_of (length stack) here → answer ≡ step_of room here
    sized_so answer e = e ∙ ap (λ (k : ℕ). step_of k here) i.0

    laid :
        (left list : List ℕ) (next : ℕ) → here ≡ goes next list → left ≡ stepped_in stack here → length list ≤ room →
        left ≡ shown room list
    laid left list next e l small =
        l ∙ ap (stepped_in stack) e
        ∙ rw (le-leb (length list) (length stack) (omega (arith, i.0))) (ap (λ (k : ℕ). shown k list) i.0)

    module _ (sized : Sized rows) (bytes : AreBytes code) (short : pc < fault) (left : List ℕ) (next high : ℕ)
        (s : Stepped stack (going next high) left here) where
      pub up : pc < next
      up =
          let w = went rows lookup code fault room next high here (sized_so (going next high) s.answers) in
          onward cells rows lookup code fault pc (take height stack) sized bytes next w.0 w.1

      pub again : Inv room left next high (completed + 1)
      again =
          let w = went rows lookup code fault room next high here (sized_so (going next high) s.answers) in
          let list : List ℕ = w.0 in
          let left_is : left ≡ shown room list = laid left list next w.1 s.leaves w.3 in
          let goes_on : following rows lookup code fault room (i.2.0 - 1) pc completed (goes next list) ≡ whole room =
          rw w.1 at (told short) in
          moved room left list next high (completed + 1) (i.2.0 - 1) left_is w.2 w.3 (omega (arith, i.2.1, up))
          (omega (arith, i.2.1, i.2.2)) (rw (le-leb (length list) room w.3) at goes_on)

  -- ---- the contract, where the loop ends. entry: the lent cells; first: these before the first turn

  abbrev pub Met : List ℕ → List ℕ → Walk → Type 0
  Met entry left answer = (answer ≡ answer_of (whole (length entry))) × (left ≡ cells_of (length entry) (whole (length entry)))

  module _ (entry first : List ℕ) (zeros : first ≡ replicate (length entry) 0) where
    same : length first ≡ length entry
    same = ap length zeros ∙ length-replicate (length entry) 0

    failed_so :
        (left : List ℕ) (completed index : ℕ) (reason : Reason) → whole (length first) ≡ fits (failed completed index reason) →
        left ≡ replicate (length entry) 0 → Met entry left (Failed completed)
    failed_so left completed index reason e l = rw (ap whole (sym same) ∙ e) (refl, l)

    module _ (stack : List ℕ) (pc height completed : ℕ) (i : Inv (length first) stack pc height completed) where
      abbrev now : Outcome ℕ
      now = here (length first) stack pc height completed i

      -- an instruction that stops, or lacks room, leaves the slots as they were
      pub clean_stopped : (left : List ℕ) → Stepped stack (Err Stops) left now → Clean left height
      clean_stopped left s = rw (kept_stopped stack left now s) i.1

      pub clean_lacked : (left : List ℕ) → Stepped stack (Err Lacks) left now → Clean left height
      clean_lacked left s = rw (kept_lacked stack left now s) i.1

      -- left: the cells that the instruction leaves; final: these cleared
      module _ (left final : List ℕ) (none : final ≡ replicate (length left) 0) where
        cleared : length left ≡ length entry → final ≡ replicate (length entry) 0
        cleared size = none ∙ ap (λ (k : ℕ). replicate k 0) size

        as_long : left ≡ stack → length left ≡ length entry
        as_long kept = ap length kept ∙ i.0 ∙ same

        pub ends_stopped : pc < fault → Stepped stack (Err Stops) left now → Met entry final (Failed completed)
        ends_stopped short s =
            let t = stopped rows lookup code fault (length first) (i.2.0 - 1) pc completed now
            (sized_so (length first) stack pc height completed i (Err Stops) s.answers) in
            failed_so final completed pc t.0
            (sym (told (length first) stack pc height completed i short) ∙ t.1)
            (cleared (as_long (kept_stopped stack left now s)))

        pub ends_lacked : pc < fault → Stepped stack (Err Lacks) left now → Met entry final (NoRoom pc)
        ends_lacked short s =
            let t = lacked rows lookup code fault (length first) (i.2.0 - 1) pc completed now
            (sized_so (length first) stack pc height completed i (Err Lacks) s.answers) in
            rw (ap whole (sym same) ∙ sym (told (length first) stack pc height completed i short) ∙ t)
            (refl, cleared (as_long (kept_lacked stack left now s)))

        pub ends_passed :
            pc < fault → length left ≡ length entry → Stepped stack (Err Passes) left now → Met entry final (Failed (completed + 1))
        ends_passed short size s =
            let t = passed rows lookup code fault (length first) (i.2.0 - 1) pc completed now
            (sized_so (length first) stack pc height completed i (Err Passes) s.answers) in
            failed_so final (completed + 1) pc overshot (sym (told (length first) stack pc height completed i short) ∙ t)
            (cleared size)

      pub ends_past :
          fault ≤ pc → (pc ≡ fault → ⊥) → (final : List ℕ) → final ≡ replicate (length stack) 0 →
          Met entry final (Failed completed)
      ends_past l e final none =
          failed_so final completed pc overshot
          (sym i.2.3 ∙ ended_past rows lookup code fault (length first) i.2.0 pc completed (take height stack) l e)
          (cleared stack final none (as_long stack final none refl))

      pub ends_done : pc ≡ fault → Met entry stack (Done height completed)
      ends_done e =
          let high : length (take height stack) ≡ height = length-take-le height stack i.1.high in
          rw
          (ap whole (sym same) ∙ sym i.2.3
          ∙ ended_at rows lookup code fault (length first) i.2.0 pc completed (take height stack) e) (
            ap (λ (k : ℕ). Done k completed) (sym high),
            i.1.zeros ∙ ap (λ (k : ℕ). shown k (take height stack)) (i.0 ∙ same),
          )

-- by the rows of a model
pub walks :
    (model : Model) (code members : List ℕ) (count leader fault : ℕ) (entry left : List ℕ) (answer : Walk) →
    Met (rows_of model) code members count leader fault entry left answer →
    WalksIn model code members count leader fault entry answer left
unfolding block_walk_in
walks model code members count leader fault entry left answer met = record { answers = met.0; leaves = met.1 }
