-- `row::added_row` meets its contract. The ranges of many opcodes by their own functions; each other arm and each gap is one computed test.
-- Assumes nothing.
use Prim.Native.Nat.{ℕ}
use native.Mathlib.Omega.{arith}
use mathlib.Core.List.{List, [], ◌∷◌}
use Rattle.effects.specs.Rows.{unmodelled, opaque, added_row}
use Rattle.row.proofs.OfOpcode.{all_unkeyed}
use Rattle.row.proofs.added_row.Goals as goal

-- the keys of the arms, the last first
abbrev arms : List (List ℕ)
arms = (197 ∷ []) ∷ (181 ∷ []) ∷ (179 ∷ []) ∷ []

pub returns-in-179 : goal.returns-in-179
unfolding added_row
returns-in-179 c = rw c.in-179.is

pub returns-in-181 : goal.returns-in-181
unfolding added_row
returns-in-181 c = rw c.in-181.is

pub returns-in-197 : goal.returns-in-197
unfolding added_row
returns-in-197 c = rw c.in-197.is

pub returns-in-194-to-195 : goal.returns-in-194-to-195
unfolding added_row
returns-in-194-to-195 c =
    all_unkeyed added_row (opaque 1 0) arms 194 2 tt c.args.op (omega arith) (omega arith)
    c.in-194-to-195.in_default-own.rest

pub returns-in_default : goal.returns-in_default
unfolding added_row
returns-in_default c =
    all_unkeyed added_row unmodelled arms 153 41 tt c.args.op (omega arith) (omega arith)
    c.in_default.in_default-own.rest

pub returns-in_default-2 : goal.returns-in_default-2
unfolding added_row
returns-in_default-2 c =
    all_unkeyed added_row unmodelled arms 196 60 tt c.args.op (omega arith) (omega arith)
    c.in_default.in_default-own.rest
