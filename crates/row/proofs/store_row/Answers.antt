-- `row::store_row` meets its contract. Each arm and each gap between arms is one computed test.
-- Assumes nothing.
use Prim.Native.Nat.{ℕ}
use native.Mathlib.Omega.{arith}
use mathlib.Core.List.{List, [], ◌∷◌}
use Rattle.effects.specs.Rows.{unmodelled, opaque, added_row}
use Rattle.row.proofs.OfOpcode.{of_keys, all_unkeyed}
use Rattle.row.proofs.store_row.Goals as goal

-- the keys of the arms, the last first
abbrev arms : List (List ℕ)
arms = (94 ∷ []) ∷ (93 ∷ []) ∷ (91 ∷ []) ∷ (90 ∷ []) ∷ (79 ∷ 81 ∷ []) ∷ (80 ∷ 82 ∷ []) ∷ []

pub returns-in-80 : goal.returns-in-80
unfolding added_row
returns-in-80 c = of_keys added_row (opaque 4 0) (80 ∷ 82 ∷ []) tt c.args.op c.in-80.is

pub returns-in-90 : goal.returns-in-90
unfolding added_row
returns-in-90 c = rw c.in-90.is

pub returns-in-91 : goal.returns-in-91
unfolding added_row
returns-in-91 c = rw c.in-91.is

pub returns-in-93 : goal.returns-in-93
unfolding added_row
returns-in-93 c = rw c.in-93.is

pub returns-in-94 : goal.returns-in-94
unfolding added_row
returns-in-94 c = rw c.in-94.is

pub returns-in_default : goal.returns-in_default
unfolding added_row
returns-in_default c =
    all_unkeyed added_row unmodelled arms 0 79 tt c.args.op (omega arith) (omega arith)
    c.in_default.in_default-own.rest

pub returns-in_default-2 : goal.returns-in_default-2
unfolding added_row
returns-in_default-2 c =
    all_unkeyed added_row unmodelled arms 87 9 tt c.args.op (omega arith) (omega arith)
    c.in_default.in_default-own.rest

pub returns-in-79-to-86 : goal.returns-in-79-to-86
unfolding added_row
returns-in-79-to-86 c = of_keys added_row (opaque 3 0) (79 ∷ 81 ∷ []) tt c.args.op c.in-79-to-86.in-79-to-86-own.keys2

pub returns-in-79-to-86-2 : goal.returns-in-79-to-86-2
unfolding added_row
returns-in-79-to-86-2 c =
    all_unkeyed added_row (opaque 3 0) arms 79 8 tt c.args.op (omega arith) (omega arith)
    c.in-79-to-86.in_default-own.rest
