-- `utf8::unit_size` meets its contract. By the form of the first unit.
-- Assumes nothing.
use mathlib.Core.Path.{◌∙◌, sym}
use Rattle.utf8.specs.Turning.{size_by}
use Rattle.utf8.proofs.unit_size.Goals as goal

pub returns-then-is_single : goal.returns-then-is_single
unfolding size_by
returns-then-is_single c = rw (sym c.is_single.ensures ∙ c.if-is_single.true)

pub returns-then-is_pair : goal.returns-then-is_pair
unfolding size_by
returns-then-is_pair c =
    rw (
      sym c.is_single.ensures ∙ c.if-is_single.false,
      sym c.is_pair.ensures ∙ c.if-is_pair.true,
    )

pub returns-then-is_triple : goal.returns-then-is_triple
unfolding size_by
returns-then-is_triple c =
    rw (
      sym c.is_single.ensures ∙ c.if-is_single.false,
      sym c.is_pair.ensures ∙ c.if-is_pair.false,
      sym c.is_triple.ensures ∙ c.if-is_triple.true,
    )

pub returns : goal.returns
unfolding size_by
returns c =
    rw (
      sym c.is_single.ensures ∙ c.if-is_single.false,
      sym c.is_pair.ensures ∙ c.if-is_pair.false,
      sym c.is_triple.ensures ∙ c.if-is_triple.false,
    )
