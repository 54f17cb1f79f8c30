-- `laying::put_byte_at` meets its contract. A case on whether the output reaches the place.
-- Assumes nothing.
use native.Mathlib.Omega.{arith}
use mathlib.Core.Path.{◌≡◌, ◌∙◌, sym}
use mathlib.Core.List.{[], ◌∷◌}
use Rattle.text.specs.Writing.{splice, following}
use Rattle.text.proofs.Writing.{nothing_past, stored_one}
use Rattle.laying.proofs.put_byte_at.Goals as goal
use Rattle.laying.proofs.put_byte_at.Goals.{Joined-at-out, then-at-out, else-at-out}

-- where the two ways meet, the byte is in its place
in_place :
    (c : Joined-at-out) →
    let a = c.args in
    c.if-at-out.out ≡ splice a.at (a.byte ∷ []) a.out.now
in_place c =
    let a = c.args in
    elim c.if-at-out.branch [
      | then-at-out w ↦ w.out-is ∙ stored_one a.at a.byte a.out.now (omega (arith, w.if-at-out.true))
      | else-at-out w ↦ w.out-is ∙ sym (nothing_past a.at (a.byte ∷ []) a.out.now (omega (arith, w.if-at-out.false)))
    ]

pub returns : goal.returns
unfolding following
returns c = record { place = omega (arith, c.saturating_add.ensures); bytes = in_place (goal.at.returns c).Joined-at-out }
