-- `utf8::turn_by` meets its contract. By the form of the first unit.
-- Assumes nothing.
use mathlib.Core.Path.{refl, ◌∙◌, sym}
use native.Mathlib.Omega.{arith}
use Rattle.utf8.specs.Turning.{turn_by}
use Rattle.utf8.proofs.turn_by.Goals as goal

pub returns-then-is_single : goal.returns-then-is_single
unfolding turn_by
returns-then-is_single c =
    rw (sym c.is_single.ensures ∙ c.if-is_single.true) (record { takes = refl; gives = refl; few = omega arith; room = refl })

pub returns-then-is_pair : goal.returns-then-is_pair
unfolding turn_by
returns-then-is_pair c =
    rw (
      sym c.is_single.ensures ∙ c.if-is_single.false,
      sym c.is_pair.ensures ∙ c.if-is_pair.true,
    )
    c.turn_pair.ensures

pub returns-then-is_triple : goal.returns-then-is_triple
unfolding turn_by
returns-then-is_triple c =
    rw (
      sym c.is_single.ensures ∙ c.if-is_single.false,
      sym c.is_pair.ensures ∙ c.if-is_pair.false,
      sym c.is_triple.ensures ∙ c.if-is_triple.true,
    )
    c.turn_triple.ensures

pub returns : goal.returns
unfolding turn_by
returns c =
    rw (
      sym c.is_single.ensures ∙ c.if-is_single.false,
      sym c.is_pair.ensures ∙ c.if-is_pair.false,
      sym c.is_triple.ensures ∙ c.if-is_triple.false,
    )
    (record { takes = refl; gives = refl; few = omega arith; room = refl })
