-- Cells once more, below others: what dup, dup_x1, dup_x2, dup2, dup2_x1 and dup2_x2 of JVMS 6.5 do to the first cells of a stack.
-- Assumes nothing.
use Rattle.std.specs.Prelude.{ℕ, ◌+◌, ◌-◌, List, ◌++◌, leb, length, take, drop}
use Rattle.basics.specs.Choice.{pick}

-- of the first `height` cells the topmost `count`, and on them these and the `under` cells below them
abbrev pub copied : List ℕ → ℕ → ℕ → ℕ → List ℕ
copied cells height count under =
    take (height - (count + under)) cells
    ++ (drop (height - count) (take height cells) ++ drop (height - (count + under)) (take height cells))

-- These are written over the first cells, and those behind them stay. Where fewer than `count + under` cells are among the first, or
-- the stack has no room for `count` more, all stay.
unfoldable pub copied_below : List ℕ → ℕ → ℕ → ℕ → List ℕ
copied_below cells height count under =
    pick (leb (count + under) height)
    (pick (leb (height + count) (length cells)) (copied cells height count under ++ drop (height + count) cells) cells)
    cells
