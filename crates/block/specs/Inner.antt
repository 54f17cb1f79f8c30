-- Bookkeeping of private functions: what the inner functions of the walk answer and leave, an instruction at a time. No promise
-- of a public function rests on it; what a walk is stands in crates/walk/specs.
-- Assumes nothing.
use Rattle.std.specs.Prelude.{ℕ, ◌≤◌, ◌≡◌, List, leb, length, take, Result, Ok, Err}
use Rattle.basics.specs.Choice.{pick}
use Rattle.walk.specs.Room.{shown}
use Rattle.walk.specs.Walk.{Made, refused, made, Outcome, stops, goes, passes}
use Rattle.block.specs.declared.Halt.{Halt}
use Rattle.block.specs.declared.Place.{Place}
use Rattle.block.specs.declared.Halt.TheVariants.{Stops, Lacks, Passes}

-- the first h cells are slots, and the others are zero
pub record Clean (stack : List ℕ) (height : ℕ) : Type 0 where
  pub high : height ≤ length stack
  pub zeros : stack ≡ shown (length stack) (take height stack)

-- what laying a list into the cells answers, and the cells that it leaves
abbrev pub high_of : ℕ → Made ℕ → Result ℕ Halt
high_of room (refused reason) = Err Stops
high_of room (made slots) = pick (leb (length slots) room) (Ok (length slots)) (Err Lacks)

abbrev pub laid_in : List ℕ → Made ℕ → List ℕ
laid_in stack (refused reason) = stack
laid_in stack (made slots) = pick (leb (length slots) (length stack)) (shown (length stack) slots) stack

pub record Laid (stack : List ℕ) (answer : Result ℕ Halt) (left : List ℕ) (outcome : Made ℕ) : Type 0 where
  pub answers : answer ≡ high_of (length stack) outcome
  pub leaves : left ≡ laid_in stack outcome

-- the walk goes on at an index, with a height
abbrev pub going : ℕ → ℕ → Result Place Halt
going pc height = Ok (record { pc = pc; height = height })

-- what an instruction answers, and the cells that it leaves
abbrev pub step_of : ℕ → Outcome ℕ → Result Place Halt
step_of room (stops reason) = Err Stops
step_of room (goes next slots) = pick (leb (length slots) room) (going next (length slots)) (Err Lacks)
step_of room (passes slots) = pick (leb (length slots) room) (Err Passes) (Err Lacks)

abbrev pub stepped_in : List ℕ → Outcome ℕ → List ℕ
stepped_in stack (stops reason) = stack
stepped_in stack (goes next slots) = laid_in stack (made slots)
stepped_in stack (passes slots) = laid_in stack (made slots)

pub record Stepped (stack : List ℕ) (answer : Result Place Halt) (left : List ℕ) (outcome : Outcome ℕ) : Type 0 where
  pub answers : answer ≡ step_of (length stack) outcome
  pub leaves : left ≡ stepped_in stack outcome
