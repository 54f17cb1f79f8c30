-- The walk from a leader to a fault (document 01, "The walk"; document 02, requests 1 and 7), over any way to write slots and any table
-- of rows. It is defined without room; Room.antt judges that.
-- Assumes nothing.
use Rattle.std.specs.Prelude.{ℕ, zero, suc, ◌+◌, ◌-◌, Bool, List, [], ◌∷◌, ◌++◌, eqb, leb, ltb, length, take, drop, replicate, Option, Some, None}
use Rattle.basics.specs.Bytes.{byte_at, u16_at}
use Rattle.basics.specs.Choice.{pick}
use Rattle.jvms.specs.Stack.{key_at}
use Rattle.fixed.specs.Fixed.{size_at}
use Rattle.cell.specs.Cell.{cell_of, has_cell}
use Rattle.descriptor.specs.Readers.{parameters, return_slots, field_slots}
use Rattle.descriptor.specs.declared.Params.{Params}
use Rattle.effects.specs.Lookup.{Known, missing, known, Lookup}
use Rattle.effects.specs.Rows.{Row, unmodelled, opaque, aload, aload_far, aload_of, carries, keeps, gets, calls, puts, makes}

-- why a walk fails. A step tests in this order; `overshot` is the walk's own. Dimensions of 0 are `notModelled`, tested where they are
-- not cut. A `wide` that nothing follows is `notModelled` too.
pub data Reason : Type 0 where
  past_end not_modelled cut too_large missing_member unreadable_parameters too_few unreadable_return overshot : Reason

-- how slots are written: an opaque one that the instruction at an index pushes, the load of a local at an index, and which
-- loads can be written at all
pub record Marks (A : Type 0) : Type 0 where
  pub blank : ℕ → A
  pub mark : ℕ → ℕ → A
  pub holds : ℕ → ℕ → Bool

-- as cells: "A cell is 0 when opaque"
abbrev pub cells : Marks ℕ
cells = record { blank = λ index. 0; mark = cell_of; holds = has_cell }

-- ---- an instruction's effect, with its operands read

-- what comes in the place of the slots that are taken
pub data Push : Type 0 where
  blanks : ℕ → Push
  load : ℕ → Push
  carried : List ℕ → Push
  unread : Reason → Push

pub data Effect : Type 0 where
  fails : Reason → Effect
  does : ℕ → Push → Effect

abbrev pub getting : ℕ → Known → Effect
getting takes missing = fails missing_member
getting takes (known descriptor) = does takes (blanks (field_slots descriptor))

abbrev pub putting : ℕ → Known → Effect
putting takes missing = fails missing_member
putting takes (known descriptor) = does (takes + field_slots descriptor) (blanks 0)

-- "`multianewarray` (dimension 0 fails)" (document 02, request 1)
abbrev pub making : ℕ → Effect
making dimensions = pick (eqb dimensions 0) (fails not_modelled) (does dimensions (blanks 1))

abbrev pub returning : Option ℕ → Push
returning (Some n) = blanks n
returning None = unread unreadable_return

abbrev pub called : ℕ → Option Params → Option ℕ → Effect
called takes (Some p) result = does (takes + p.slots) (returning result)
called takes None result = fails unreadable_parameters

abbrev pub calling : ℕ → Known → Effect
calling takes missing = fails missing_member
calling takes (known descriptor) = called takes (parameters descriptor) (return_slots descriptor)

module _ (lookup : Lookup) (code : List ℕ) (pc : ℕ) where
  -- "Only `aload`'s local and member indexes are read, failing when cut"; in the full model the dimensions byte and the local of
  -- `wide aload` too
  abbrev pub uncut : ℕ → Effect → Effect
  uncut last effect = pick (ltb last (length code)) effect (fails cut)

  abbrev pub effect_by : Row → Effect
  effect_by unmodelled = fails not_modelled
  effect_by (opaque takes gives) = does takes (blanks gives)
  effect_by aload = uncut (pc + 1) (does 0 (load (byte_at code (pc + 1))))
  effect_by aload_far = uncut (pc + 3) (does 0 (load (u16_at code (pc + 2))))
  effect_by (aload_of local) = does 0 (load local)
  effect_by (carries takes places) = does takes (carried places)
  effect_by keeps = does 0 (blanks 0)
  effect_by (gets takes) = uncut (pc + 2) (getting takes (lookup 0 (u16_at code (pc + 1))))
  effect_by (calls takes) = uncut (pc + 2) (calling takes (lookup 1 (u16_at code (pc + 1))))
  effect_by (puts takes) = uncut (pc + 2) (putting takes (lookup 0 (u16_at code (pc + 1))))
  effect_by makes = uncut (pc + 3) (making (byte_at code (pc + 3)))

-- ---- a step

-- the list that an effect makes, or why it fails
pub data Made (A : Type 0) : Type 0 where
  refused : Reason → Made A
  made : List A → Made A

-- the slots that places name, counted from the top of a list
abbrev pub placed : {A : Type 0} → List ℕ → List A → List A
placed [] slots = []
placed (j ∷ js) slots = take 1 (drop (length slots - j) slots) ++ placed js slots

module _ {A : Type 0} (marks : Marks A) (pc : ℕ) where
  -- kept: what lies below the slots that are taken; slots: all
  abbrev pub pushed : List A → List A → Push → Made A
  pushed kept slots (blanks n) = made (kept ++ replicate n (marks.blank pc))
  pushed kept slots (load local) = pick (marks.holds pc local) (made (kept ++ marks.mark pc local ∷ [])) (refused too_large)
  pushed kept slots (carried places) = made (kept ++ placed places slots)
  pushed kept slots (unread reason) = refused reason

  -- "Taking more slots than the list has fails."
  abbrev pub applied : Effect → List A → Made A
  applied (fails reason) slots = refused reason
  applied (does takes push) slots =
      pick (leb takes (length slots)) (pushed (take (length slots - takes) slots) slots push) (refused too_few)

-- An instruction fails, or it is completed and goes on at an index, or it is completed and passes the fault.
pub data Outcome (A : Type 0) : Type 0 where
  stops : Reason → Outcome A
  goes : ℕ → List A → Outcome A
  passes : List A → Outcome A

-- next: the index after the instruction
abbrev pub landed : {A : Type 0} → ℕ → ℕ → Made A → Outcome A
landed fault next (refused reason) = stops reason
landed fault next (made slots) = pick (leb next fault) (goes next slots) (passes slots)

-- ---- the walk

-- the slot list, bottom first, and the instructions completed; or these, the index of the instruction that it fails at, and why
pub data Walked (A : Type 0) : Type 0 where
  done : List A → ℕ → Walked A
  failed : ℕ → ℕ → Reason → Walked A

-- "Block count: instructions the walk completed"
abbrev pub count_of : {A : Type 0} → Walked A → ℕ
count_of (done slots count) = count
count_of (failed count index reason) = count

module _ {A : Type 0} (marks : Marks A) (rows : ℕ → Row) (lookup : Lookup) (code : List ℕ) (fault : ℕ) where
  -- "an opcode past the code's end fails"
  unfoldable pub step : ℕ → List A → Outcome A
  step pc slots =
      pick (ltb pc (length code))
      (landed fault (pc + size_at code pc) (applied marks pc (effect_by lookup code pc (rows (key_at code pc))) slots))
      (stops past_end)

  -- "until the fault is reached exactly; passing it fails"
  abbrev pub ended : ℕ → List A → ℕ → Walked A
  ended pc slots count = pick (eqb pc fault) (done slots count) (failed count pc overshot)

  -- "An instruction is completed once its effect is applied, even if it passes the fault."
  abbrev pub after : Outcome A → ℕ → ℕ → (ℕ → List A → Walked A) → Walked A
  after (stops reason) pc count following = failed count pc reason
  after (goes next slots) pc count following = following next slots
  after (passes slots) pc count following = failed (count + 1) pc overshot

  -- from an index with a list and so many instructions completed; an instruction has a byte, so fault - pc turns are enough
  unfoldable pub walk_from : ℕ → ℕ → List A → ℕ → Walked A
  walk_from zero pc slots count = ended pc slots count
  walk_from (suc turns) pc slots count =
      pick (ltb pc fault) (after (step pc slots) pc count (λ next list. walk_from turns next list (count + 1))) (ended pc slots count)

  -- "From the leader, empty list"
  unfoldable pub walk : ℕ → Walked A
  walk leader = walk_from (fault - leader) leader [] 0
