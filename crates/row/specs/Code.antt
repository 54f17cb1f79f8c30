-- What the code's rows stand for: the rows of the two models (crates/effects/specs/Rows.antt).
-- Assumes nothing.
use Rattle.std.specs.Prelude.{ℕ, zero, suc, ◌+◌, ◌≤◌, List, [], ◌∷◌, ◌++◌}
use Rattle.effects.specs.Rows.{Row, unmodelled, opaque, aload, aload_far, aload_of, carries, keeps, gets, calls, puts, makes}
use Rattle.row.specs.declared.Row.{Row as CodeRow}
use Rattle.row.specs.declared.Row.TheVariants.{Unmodelled, Opaque, Aload, AloadFar, AloadOf, Copies, Swap, Keeps, Gets, Calls, Puts, Makes}

-- the places from one down to the topmost, 1
abbrev pub down_from : ℕ → List ℕ
down_from zero = []
down_from (suc n) = suc n ∷ down_from n

-- dup, dup_x1, dup_x2, dup2, dup2_x1, dup2_x2: the topmost slots, and on them all that are taken
abbrev pub copy_places : ℕ → ℕ → List ℕ
copy_places count under = down_from count ++ down_from (count + under)

abbrev pub swap_places : List ℕ
swap_places = 1 ∷ 2 ∷ []

abbrev pub row_from : CodeRow → Row
row_from Unmodelled = unmodelled
row_from (Opaque takes gives) = opaque takes gives
row_from Aload = aload
row_from AloadFar = aload_far
row_from (AloadOf local) = aload_of local
row_from (Copies count under) = carries (count + under) (copy_places count under)
row_from Swap = carries 2 swap_places
row_from Keeps = keeps
row_from (Gets takes) = gets takes
row_from (Calls takes) = calls takes
row_from (Puts takes) = puts takes
row_from Makes = makes

-- a row that takes the slots of the member that it cites takes one more at most
abbrev pub Few : CodeRow → Type 0
Few Unmodelled = Unit {0}
Few (Opaque takes gives) = Unit {0}
Few Aload = Unit {0}
Few AloadFar = Unit {0}
Few (AloadOf local) = Unit {0}
Few (Copies count under) = Unit {0}
Few Swap = Unit {0}
Few Keeps = Unit {0}
Few (Gets takes) = Unit {0}
Few (Calls takes) = takes ≤ 1
Few (Puts takes) = takes ≤ 1
Few Makes = Unit {0}
