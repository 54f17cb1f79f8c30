-- What the walk's answer and its cells tell of the trace.
-- Assumes nothing.
use Rattle.std.specs.Prelude.{Option, None, Err}
use Prim.Native.Nat.{ℕ, ◌+◌, ◌-◌, ◌≤◌, ◌<◌}
use native.Mathlib.Omega.{arith}
use mathlib.Core.Bool.{Bool, true, false}
use mathlib.Core.List.{List, ◌++◌}
use mathlib.Core.Path.{◌≡◌, refl, ◌∙◌, sym, ap, ap₂}
use lib.Dec.{ltb}
use lib.ListN.{length, get_or, take, drop, replicate, length-append, replicate-append-replicate}
use lib.Seq.{get_or-take, take_at, drop_at, length-take-le}
use borrow.Author.Tests.{ltb-true}
use Rattle.basics.specs.Choice.{pick}
use Rattle.cell.specs.Cell.{unpacked}
use Rattle.cell.specs.declared.Load.{Load}
use Rattle.walk.specs.Room.{Roomed, lacks, fits, answer_of, shown, cells_of}
use Rattle.walk.specs.Walk.{done, failed}
use Rattle.walk.specs.declared.Walk.TheVariants.{Done, Failed, NoRoom}
use Rattle.trace.specs.Trace.{slot_from, trace_of, traced_with}

module _ (scan depth room : ℕ) where
  -- the answer of the trace, and the zero cells
  abbrev Cleared : List ℕ → Roomed ℕ → Type 0
  Cleared left walked = left ≡ cells_of room walked → left ≡ replicate room 0

  pub lacked :
      (walked : Roomed ℕ) (index : ℕ) (left : List ℕ) → NoRoom index ≡ answer_of walked →
      (Err index ≡ trace_of scan depth walked) × Cleared left walked
  lacked (lacks i) index left e = let same : index ≡ i = cc in (ap (λ (k : ℕ). Err k) same, λ l. l)
  lacked (fits (done slots count)) index left e = absurd cc
  lacked (fits (failed count at reason)) index left e = absurd cc

  pub failing :
      (walked : Roomed ℕ) (block : ℕ) (left : List ℕ) → Failed block ≡ answer_of walked →
      (traced_with scan block None ≡ trace_of scan depth walked) × Cleared left walked
  failing (lacks i) block left e = absurd cc
  failing (fits (done slots count)) block left e = absurd cc
  failing (fits (failed count at reason)) block left e =
      let same : block ≡ count = cc in
      (ap (λ (k : ℕ). traced_with scan k None) same, λ l. l)

  -- the slots of a walk that is done, in the cells that it leaves
  pub record Finished (walked : Roomed ℕ) (height block : ℕ) : Type 0 where
    pub slots : List ℕ
    pub walked_so : walked ≡ fits (done slots block)
    pub high : height ≡ length slots

  pub finished : (walked : Roomed ℕ) (height block : ℕ) → Done height block ≡ answer_of walked → Finished walked height block
  finished (lacks i) height block e = absurd cc
  finished (fits (failed count at reason)) height block e = absurd cc
  finished (fits (done slots count)) height block e =
      let same : block ≡ count = cc in
      let size : height ≡ length slots = cc in
      record { slots = slots; walked_so = ap (λ (k : ℕ). fits (done slots k)) (sym same); high = size }

  module _
      (walked : Roomed ℕ) (height block : ℕ) (f : Finished walked height block)
      (left : List ℕ) (leaves : left ≡ cells_of room walked) where
    left_is : left ≡ shown room f.slots
    left_is = leaves ∙ ap (cells_of room) f.walked_so

    pub reaches : height ≤ length left
    reaches =
        omega (arith, f.high, ap length left_is, length-append f.slots (replicate (room - length f.slots) 0))

    slot_is : (k : ℕ) → k < length f.slots → get_or left k 0 ≡ get_or f.slots k 0
    slot_is k below =
        let start : take (length f.slots) (shown room f.slots) ≡ f.slots =
        take_at f.slots (replicate (room - length f.slots) 0) (length f.slots) refl in
        ap (λ (l : List ℕ). get_or l k 0) left_is ∙ sym (get_or-take (length f.slots) (shown room f.slots) k 0 below)
        ∙ ap (λ (l : List ℕ). get_or l k 0) start

    cause_is : pick (ltb depth height) (unpacked (get_or left (height - 1 - depth) 0)) None ≡ slot_from f.slots depth
    unfolding slot_from
    cause_is = rw f.high (by_test (ltb depth (length f.slots)) refl)
      where
        by_test :
            (b : Bool) → ltb depth (length f.slots) ≡ b →
            pick b (unpacked (get_or left (length f.slots - 1 - depth) 0)) None
            ≡ pick b (unpacked (get_or f.slots (length f.slots - 1 - depth) 0)) None
        by_test true test =
            let inside : depth < length f.slots = ltb-true depth (length f.slots) test in
            ap unpacked (slot_is (length f.slots - 1 - depth) (omega arith))
        by_test false test = refl

    pub traces :
        (cause : Option Load) → cause ≡ pick (ltb depth height) (unpacked (get_or left (height - 1 - depth) 0)) None →
        traced_with scan block cause ≡ trace_of scan depth walked
    traces cause e = rw f.walked_so (ap (traced_with scan block) (e ∙ cause_is))

    -- the first cells cleared, as many as there are slots
    pub emptied :
        length left ≡ room → (cleared : List ℕ) → cleared ≡ replicate (length (take height left)) 0 →
        cleared ++ drop height left ≡ replicate room 0
    emptied size cleared e =
        let behind : ℕ = room - length f.slots in
        let few : length (take height left) ≡ height = length-take-le height left reaches in
        let rest : drop height left ≡ replicate behind 0 =
        ap (drop height) left_is ∙ drop_at f.slots (replicate behind 0) height (sym f.high) in
        let all : height + behind ≡ room = omega (arith, f.high, reaches, size) in
        ap₂ (λ (x y : List ℕ). x ++ y) (e ∙ ap (λ (k : ℕ). replicate k 0) few) rest
        ∙ replicate-append-replicate height behind 0 ∙ ap (λ (k : ℕ). replicate k 0) all
