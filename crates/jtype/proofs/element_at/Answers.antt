-- `jtype::element_at` meets its contract. The last two returns rewrite the definition with all the tests on their way.
-- Assumes nothing.
use mathlib.Core.Path.{◌∙◌, sym}
use borrow.Author.Tests.{ne_eqb}
use Rattle.jtype.proofs.Laws.{element_next}
use Rattle.jtype.proofs.element_at.Goals as goal

pub returns-then-is_base : goal.returns-then-is_base
returns-then-is_base c =
    rw (
      element_next _ _ _ c.if-text-at.false,
      ne_eqb _ _ c.if-letter-eq76.false,
      ne_eqb _ _ c.if-letter-eq41.false,
      ne_eqb _ _ c.if-letter-eq86.false,
      sym c.is_base.ensures ∙ c.if-is_base.true,
    )
    c.unnamed-then-is_base.ensures

pub returns : goal.returns
returns c =
    rw (
      element_next _ _ _ c.if-text-at.false,
      ne_eqb _ _ c.if-letter-eq76.false,
      ne_eqb _ _ c.if-letter-eq41.false,
      ne_eqb _ _ c.if-letter-eq86.false,
      sym c.is_base.ensures ∙ c.if-is_base.false,
    )
