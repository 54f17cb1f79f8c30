-- `row::conversion_row` meets its contract. Each arm and each gap between arms is one computed test.
-- Assumes nothing.
use Prim.Native.Nat.{ℕ}
use native.Mathlib.Omega.{arith}
use mathlib.Core.List.{List, [], ◌∷◌}
use Rattle.effects.specs.Rows.{unmodelled, opaque, added_row}
use Rattle.row.proofs.OfOpcode.{of_keys, all_unkeyed}
use Rattle.row.proofs.conversion_row.Goals as goal

-- the keys of the arms, the last first
abbrev arms : List (List ℕ)
arms = (148 ∷ []) ∷ (138 ∷ 143 ∷ []) ∷ (142 ∷ 144 ∷ []) ∷ (133 ∷ 135 ∷ []) ∷ (132 ∷ []) ∷ []

pub returns-in-132 : goal.returns-in-132
unfolding added_row
returns-in-132 c = of_keys added_row unmodelled (132 ∷ []) tt c.args.op c.in-132.is

pub returns-in-138 : goal.returns-in-138
unfolding added_row
returns-in-138 c = of_keys added_row (opaque 2 2) (138 ∷ 143 ∷ []) tt c.args.op c.in-138.is

pub returns-in-149 : goal.returns-in-149
unfolding added_row
returns-in-149 c =
    all_unkeyed added_row (opaque 2 1) arms 148 3 tt c.args.op (omega arith) (omega arith)
    c.in-149.in_default-own.rest

pub returns-in_default : goal.returns-in_default
unfolding added_row
returns-in_default c =
    all_unkeyed added_row (opaque 1 1) arms 132 4 tt c.args.op (omega arith) (omega arith)
    c.in_default.in_default-own.rest

pub returns-in_default-2 : goal.returns-in_default-2
unfolding added_row
returns-in_default-2 c =
    all_unkeyed added_row (opaque 1 1) arms 138 2 tt c.args.op (omega arith) (omega arith)
    c.in_default.in_default-own.rest

pub returns-in_default-3 : goal.returns-in_default-3
unfolding added_row
returns-in_default-3 c =
    all_unkeyed added_row (opaque 1 1) arms 142 6 tt c.args.op (omega arith) (omega arith)
    c.in_default.in_default-own.rest

pub returns-in_default-4 : goal.returns-in_default-4
returns-in_default-4 c = absurd (omega arith)

pub returns-in-148 : goal.returns-in-148
unfolding added_row
returns-in-148 c = of_keys added_row (opaque 4 1) (148 ∷ []) tt c.args.op c.in-148.is

pub returns-in-148-2 : goal.returns-in-148-2
unfolding added_row
returns-in-148-2 c =
    all_unkeyed added_row (opaque 4 1) arms 151 2 tt c.args.op (omega arith) (omega arith)
    c.in-148.in_default-own.rest

pub returns-in-136 : goal.returns-in-136
unfolding added_row
returns-in-136 c = of_keys added_row (opaque 2 1) (142 ∷ 144 ∷ []) tt c.args.op c.in-136.is

pub returns-in-136-2 : goal.returns-in-136-2
unfolding added_row
returns-in-136-2 c =
    all_unkeyed added_row (opaque 2 1) arms 135 3 tt c.args.op (omega arith) (omega arith)
    c.in-136.in_default-own.rest

pub returns-in-133 : goal.returns-in-133
unfolding added_row
returns-in-133 c = of_keys added_row (opaque 1 2) (133 ∷ 135 ∷ []) tt c.args.op c.in-133.is

pub returns-in-133-2 : goal.returns-in-133-2
unfolding added_row
returns-in-133-2 c =
    all_unkeyed added_row (opaque 1 2) arms 140 2 tt c.args.op (omega arith) (omega arith)
    c.in-133.in_default-own.rest
