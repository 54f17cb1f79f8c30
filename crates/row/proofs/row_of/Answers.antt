-- `row::row_of` meets its contract. Each arm and each gap between arms is one computed test.
-- Assumes nothing.
use Prim.Native.Nat.{ℕ}
use native.Mathlib.Omega.{arith}
use mathlib.Core.List.{List, [], ◌∷◌}
use Rattle.effects.specs.Rows.{unmodelled, opaque, calls, row_of}
use Rattle.row.proofs.OfOpcode.{all_have, all_unkeyed}
use Rattle.row.proofs.row_of.Goals as goal

-- the keys of the arms, the last first
abbrev arms : List (List ℕ)
arms =
    (193 ∷ []) ∷ (192 ∷ []) ∷ (187 ∷ []) ∷ (184 ∷ []) ∷ (185 ∷ []) ∷ (180 ∷ []) ∷ (178 ∷ []) ∷ (132 ∷ []) ∷ (95 ∷ [])
    ∷ (92 ∷ []) ∷ (89 ∷ []) ∷ (88 ∷ []) ∷ (87 ∷ []) ∷ []

pub returns-then-op-le-ASTORE_3 : goal.returns-then-op-le-ASTORE_3
unfolding row_of
returns-then-op-le-ASTORE_3 c = c.local_row.ensures

pub returns-in-87 : goal.returns-in-87
unfolding row_of
returns-in-87 c = rw c.in-87.is

pub returns-in-88 : goal.returns-in-88
unfolding row_of
returns-in-88 c = rw c.in-88.is

pub returns-in-89 : goal.returns-in-89
unfolding row_of
returns-in-89 c = rw c.in-89.is

pub returns-in-92 : goal.returns-in-92
unfolding row_of
returns-in-92 c = rw c.in-92.is

pub returns-in-95 : goal.returns-in-95
unfolding row_of
returns-in-95 c = rw c.in-95.is

pub returns-in-132 : goal.returns-in-132
unfolding row_of
returns-in-132 c = rw c.in-132.is

pub returns-in-178 : goal.returns-in-178
unfolding row_of
returns-in-178 c = rw c.in-178.is

pub returns-in-180 : goal.returns-in-180
unfolding row_of
returns-in-180 c = rw c.in-180.is

pub returns-in-184 : goal.returns-in-184
unfolding row_of
returns-in-184 c = rw c.in-184.is

pub returns-in-187 : goal.returns-in-187
unfolding row_of
returns-in-187 c = rw c.in-187.is

pub returns-in-192 : goal.returns-in-192
unfolding row_of
returns-in-192 c = rw c.in-192.is

pub returns-in-193 : goal.returns-in-193
unfolding row_of
returns-in-193 c = rw c.in-193.is

pub returns-in-188-to-190 : goal.returns-in-188-to-190
unfolding row_of
returns-in-188-to-190 c =
    all_unkeyed row_of (opaque 1 1) arms 187 4 tt c.args.op
    (omega arith) (omega arith) c.in-188-to-190.in_default-own.rest

pub returns-in_default : goal.returns-in_default
unfolding row_of
returns-in_default c =
    all_unkeyed row_of unmodelled arms 79 103 tt c.args.op
    (omega arith) (omega arith) c.in_default.in_default-own.rest

pub returns-in_default-2 : goal.returns-in_default-2
unfolding row_of
returns-in_default-2 c =
    all_unkeyed row_of unmodelled arms 184 3 tt c.args.op
    (omega arith) (omega arith) c.in_default.in_default-own.rest

pub returns-in_default-3 : goal.returns-in_default-3
unfolding row_of
returns-in_default-3 c =
    all_unkeyed row_of unmodelled arms 191 65 tt c.args.op
    (omega arith) (omega arith) c.in_default.in_default-own.rest

pub returns-in-182 : goal.returns-in-182
unfolding row_of
returns-in-182 c = rw c.in-182.is

pub returns-in-182-2 : goal.returns-in-182-2
unfolding row_of
returns-in-182-2 c = all_have row_of (λ op. calls 1) 182 2 tt c.args.op (omega arith) (omega arith)
