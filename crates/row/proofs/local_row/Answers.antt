-- `row::local_row` meets its contract. Each arm and each gap between arms is one computed test.
-- Assumes nothing.
use Prim.Native.Nat.{◌-◌, ℕ}
use native.Mathlib.Omega.{arith}
use mathlib.Core.Logic.{⊎_elim}
use mathlib.Core.List.{List, [], ◌∷◌}
use Rattle.effects.specs.Rows.{opaque, aload_of, row_of}
use Rattle.row.proofs.OfOpcode.{all_have, all_unkeyed}
use Rattle.row.proofs.local_row.Goals as goal

-- the keys of the arms, the last first
abbrev arms : List (List ℕ)
arms =
    (55 ∷ 57 ∷ []) ∷ (46 ∷ 48 ∷ []) ∷ (47 ∷ 49 ∷ []) ∷ (25 ∷ []) ∷ (20 ∷ 22 ∷ 24 ∷ []) ∷ (21 ∷ 23 ∷ []) ∷ (0 ∷ []) ∷ []

pub returns-in-0 : goal.returns-in-0
unfolding row_of
returns-in-0 c = rw c.in-0.is

pub returns-in-21 : goal.returns-in-21
unfolding row_of
returns-in-21 c = ⊎_elim (λ e. rw e) (λ e. rw e) c.in-21.is

pub returns-in-20 : goal.returns-in-20
unfolding row_of
returns-in-20 c = ⊎_elim (λ e. rw e) (⊎_elim (λ e. rw e) (λ e. rw e)) c.in-20.is

pub returns-in-25 : goal.returns-in-25
unfolding row_of
returns-in-25 c = rw c.in-25.is

pub returns-in-47 : goal.returns-in-47
unfolding row_of
returns-in-47 c = ⊎_elim (λ e. rw e) (λ e. rw e) c.in-47.is

pub returns-in-55 : goal.returns-in-55
unfolding row_of
returns-in-55 c = ⊎_elim (λ e. rw e) (λ e. rw e) c.in-55.is

pub returns-in-1-to-8 : goal.returns-in-1-to-8
unfolding row_of
returns-in-1-to-8 c = all_have row_of (λ op. opaque 0 1) 1 8 tt c.args.op (omega arith) (omega arith)

pub returns-in-9-to-10 : goal.returns-in-9-to-10
unfolding row_of
returns-in-9-to-10 c = all_have row_of (λ op. opaque 0 2) 9 2 tt c.args.op (omega arith) (omega arith)

pub returns-in-11-to-13 : goal.returns-in-11-to-13
unfolding row_of
returns-in-11-to-13 c =
    all_have row_of (λ op. opaque 0 1) 11 3 tt c.args.op
    (omega arith) (omega arith)

pub returns-in-14-to-15 : goal.returns-in-14-to-15
unfolding row_of
returns-in-14-to-15 c =
    all_have row_of (λ op. opaque 0 2) 14 2 tt c.args.op
    (omega arith) (omega arith)

pub returns-in-16-to-19 : goal.returns-in-16-to-19
unfolding row_of
returns-in-16-to-19 c =
    all_have row_of (λ op. opaque 0 1) 16 4 tt c.args.op
    (omega arith) (omega arith)

pub returns-in-26-to-29 : goal.returns-in-26-to-29
unfolding row_of
returns-in-26-to-29 c =
    all_unkeyed row_of (opaque 0 1) arms 20 10 tt c.args.op
    (omega arith) (omega arith) c.in-26-to-29.in_default-own.rest

pub returns-in-30-to-33 : goal.returns-in-30-to-33
unfolding row_of
returns-in-30-to-33 c =
    all_have row_of (λ op. opaque 0 2) 30 4 tt c.args.op
    (omega arith) (omega arith)

pub returns-in-34-to-37 : goal.returns-in-34-to-37
unfolding row_of
returns-in-34-to-37 c =
    all_have row_of (λ op. opaque 0 1) 34 4 tt c.args.op
    (omega arith) (omega arith)

pub returns-in-38-to-41 : goal.returns-in-38-to-41
unfolding row_of
returns-in-38-to-41 c = all_have row_of (λ op. opaque 0 2) 38 4 tt c.args.op (omega arith) (omega arith)

pub returns-in-42-to-45 : goal.returns-in-42-to-45
unfolding row_of
returns-in-42-to-45 c =
    all_have row_of (λ op. aload_of (op - 42)) 42 4 tt c.args.op
    (omega arith) (omega arith)

pub returns-in-63-to-66 : goal.returns-in-63-to-66
unfolding row_of
returns-in-63-to-66 c =
    all_have row_of (λ op. opaque 2 0) 63 4 tt c.args.op
    (omega arith) (omega arith)

pub returns-in-71-to-74 : goal.returns-in-71-to-74
unfolding row_of
returns-in-71-to-74 c =
    all_have row_of (λ op. opaque 2 0) 71 4 tt c.args.op
    (omega arith) (omega arith)

pub returns-in_default : goal.returns-in_default
unfolding row_of
returns-in_default c =
    all_unkeyed row_of (opaque 1 0) arms 54 9 tt c.args.op
    (omega arith) (omega arith) c.in_default.in_default-own.rest

pub returns-in_default-2 : goal.returns-in_default-2
unfolding row_of
returns-in_default-2 c =
    all_have row_of (λ op. opaque 1 0) 67 4 tt c.args.op
    (omega arith) (omega arith)

pub returns-in_default-3 : goal.returns-in_default-3
unfolding row_of
returns-in_default-3 c =
    all_have row_of (λ op. opaque 1 0) 75 4 tt c.args.op
    (omega arith) (omega arith)

pub returns-in-46-to-53 : goal.returns-in-46-to-53
unfolding row_of
returns-in-46-to-53 c = ⊎_elim (λ e. rw e) (λ e. rw e) c.in-46-to-53.in-46-to-53-own.keys6

pub returns-in-46-to-53-2 : goal.returns-in-46-to-53-2
unfolding row_of
returns-in-46-to-53-2 c =
    all_unkeyed row_of (opaque 2 1) arms 46 8 tt c.args.op
    (omega arith) (omega arith) c.in-46-to-53.in_default-own.rest
