-- What a reader of one item answers, and what a reader of many tells of a reading.
-- Assumes nothing.
use Rattle.std.specs.Prelude.{ℕ, ◌+◌, List, leb, Result, Ok, Err, Option, Some, None}
use Rattle.basics.specs.Choice.{pick}
use Rattle.format.specs.Format.{number_at, window_right, Reading, right, wrong}

-- a number of so many bytes, before a limit
unfoldable pub item_at : ℕ → ℕ → List ℕ → ℕ → Option (ℕ × ℕ)
item_at width limit file at = pick (leb (at + width) limit) (Some (number_at width file at, at + width)) None

-- a length of so many bytes, behind which that many lie before a limit
unfoldable pub window_at : ℕ → ℕ → List ℕ → ℕ → Option (ℕ × ℕ)
window_at width limit file at =
    pick (window_right width limit file at) (Some (at + width, at + width + number_at width file at)) None

-- what is made of what came and of the place after it, or the place of the first wrong item
abbrev pub told_by : {A B : Type 0} → (A → ℕ → B) → Reading A → Result B ℕ
told_by make (right a end) = Ok (make a end)
told_by make (wrong offset) = Err offset

-- where it ended, or the place of the first wrong item
abbrev pub run_of : {A : Type 0} → Reading A → Result ℕ ℕ
run_of r = told_by (λ a end. end) r
