-- `row::widened_row` meets its contract. Each arm is one computed test, and so is the rest.
-- Assumes nothing.
use Prim.Native.Nat.{ℕ}
use native.Mathlib.Omega.{arith}
use mathlib.Core.List.{List, [], ◌∷◌}
use Rattle.effects.specs.Rows.{unmodelled, opaque, widened_row}
use Rattle.row.proofs.OfOpcode.{of_keys, all_unkeyed}
use Rattle.row.proofs.widened_row.Goals as goal

-- the keys of the arms, the last first
abbrev arms : List (List ℕ)
arms = (132 ∷ []) ∷ (55 ∷ 57 ∷ []) ∷ (54 ∷ 56 ∷ 58 ∷ []) ∷ (25 ∷ []) ∷ (22 ∷ 24 ∷ []) ∷ (21 ∷ 23 ∷ []) ∷ []

pub returns-in-21 : goal.returns-in-21
unfolding widened_row
returns-in-21 c = of_keys widened_row (opaque 0 1) (21 ∷ 23 ∷ []) tt c.args.op c.in-21.is

pub returns-in-22 : goal.returns-in-22
unfolding widened_row
returns-in-22 c = of_keys widened_row (opaque 0 2) (22 ∷ 24 ∷ []) tt c.args.op c.in-22.is

pub returns-in-25 : goal.returns-in-25
unfolding widened_row
returns-in-25 c = rw c.in-25.is

pub returns-in-54 : goal.returns-in-54
unfolding widened_row
returns-in-54 c = of_keys widened_row (opaque 1 0) (54 ∷ 56 ∷ 58 ∷ []) tt c.args.op c.in-54.is

pub returns-in-55 : goal.returns-in-55
unfolding widened_row
returns-in-55 c = of_keys widened_row (opaque 2 0) (55 ∷ 57 ∷ []) tt c.args.op c.in-55.is

pub returns-in-132 : goal.returns-in-132
unfolding widened_row
returns-in-132 c = rw c.in-132.is

pub returns-in_default : goal.returns-in_default
unfolding widened_row
returns-in_default c =
    all_unkeyed widened_row unmodelled arms 0 256 tt c.args.op (omega arith) (omega (arith, c.ranges.op))
    c.in_default.in_default-own.rest
