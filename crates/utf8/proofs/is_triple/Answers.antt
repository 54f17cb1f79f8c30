-- `utf8::is_triple` meets its contract. One test after the other.
-- Assumes nothing.
use borrow.Author.Tests.{eq-eqb, ne_eqb}
use mathlib.Core.Path.{◌∙◌, sym}
use Rattle.utf8.proofs.is_triple.Goals as goal

pub returns-then-x-eq224 : goal.returns-then-x-eq224
returns-then-x-eq224 c =
    rw (sym c.is_tail.ensures ∙ c.if-is_tail.true, eq-eqb _ _ c.if-x-eq224.true)
    c.within.ensures

pub returns-then-within : goal.returns-then-within
returns-then-within c =
    rw (
      sym c.is_tail.ensures ∙ c.if-is_tail.true,
      ne_eqb _ _ c.if-x-eq224.false,
      sym c.within-then-is_tail.ensures ∙ c.if-within.true,
    )
    c.is_tail-then-within.ensures

pub returns-else-within : goal.returns-else-within
returns-else-within c =
    rw (
      sym c.is_tail.ensures ∙ c.if-is_tail.true,
      ne_eqb _ _ c.if-x-eq224.false,
      sym c.within-then-is_tail.ensures ∙ c.if-within.false,
    )

pub returns-else-is_tail : goal.returns-else-is_tail
returns-else-is_tail c = rw (sym c.is_tail.ensures ∙ c.if-is_tail.false)
