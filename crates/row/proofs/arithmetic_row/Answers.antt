-- `row::arithmetic_row` meets its contract. Each arm is one computed test.
-- Assumes nothing.
use Prim.Native.Nat.{ℕ}
use native.Mathlib.Omega.{arith}
use mathlib.Core.List.{List, [], ◌∷◌}
use Rattle.effects.specs.Rows.{opaque, added_row}
use Rattle.row.proofs.OfOpcode.{of_keys, all_unkeyed}
use Rattle.row.proofs.arithmetic_row.Goals as goal

-- the keys of the arms
abbrev singles : List ℕ
singles = 116 ∷ 118 ∷ []

abbrev doubles : List ℕ
doubles = 117 ∷ 119 ∷ []

abbrev shifts : List ℕ
shifts = 121 ∷ 123 ∷ 125 ∷ []

abbrev longs : List ℕ
longs = 97 ∷ 99 ∷ 101 ∷ 103 ∷ 105 ∷ 107 ∷ 109 ∷ 111 ∷ 113 ∷ 115 ∷ 127 ∷ 129 ∷ 131 ∷ []

pub returns-in-116 : goal.returns-in-116
unfolding added_row
returns-in-116 c = of_keys added_row (opaque 1 1) singles tt c.args.op c.in-116.is

pub returns-in-117 : goal.returns-in-117
unfolding added_row
returns-in-117 c = of_keys added_row (opaque 2 2) doubles tt c.args.op c.in-117.is

pub returns-in-121 : goal.returns-in-121
unfolding added_row
returns-in-121 c = of_keys added_row (opaque 3 2) shifts tt c.args.op c.in-121.is

pub returns-in-97 : goal.returns-in-97
unfolding added_row
returns-in-97 c = of_keys added_row (opaque 4 2) longs tt c.args.op c.in-97.is

-- the last arm comes first in the list
pub returns-in_default : goal.returns-in_default
unfolding added_row
returns-in_default c =
    all_unkeyed added_row (opaque 2 1) (longs ∷ shifts ∷ doubles ∷ singles ∷ []) 96 36 tt c.args.op
    (omega arith) (omega arith) c.in_default.in_default-own.rest
