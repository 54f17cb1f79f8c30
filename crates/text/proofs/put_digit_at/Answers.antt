-- `text::put_digit_at` meets its contract. A case on whether the output reaches the place.
-- Assumes nothing.
use Prim.Native.Nat.{◌+◌}
use native.Mathlib.Omega.{arith}
use mathlib.Core.Path.{sym}
use mathlib.Core.List.{[], ◌∷◌}
use Rattle.text.proofs.Writing.{nothing_past, stored_one}
use Rattle.text.proofs.put_digit_at.Goals as goal

pub returns-then-at-out : goal.returns-then-at-out
returns-then-at-out c =
    let a = c.args in
    stored_one a.at (48 + a.digit) a.out.now (omega arith)

pub returns-else-at-out : goal.returns-else-at-out
returns-else-at-out c =
    let a = c.args in
    sym (nothing_past a.at ((48 + a.digit) ∷ []) a.out.now (omega arith))
