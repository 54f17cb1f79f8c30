-- `utf8::is_trail` meets its contract. One test after the other.
-- Assumes nothing.
use borrow.Author.Tests.{eq-eqb, ne_eqb}
use mathlib.Core.Path.{◌∙◌, sym}
use Rattle.utf8.proofs.is_trail.Goals as goal

pub returns-then-within : goal.returns-then-within
returns-then-within c =
    rw (eq-eqb _ _ c.if-u-eq237.true, sym c.within.ensures ∙ c.if-within.true)
    c.is_tail.ensures

pub returns-else-within : goal.returns-else-within
returns-else-within c = rw (eq-eqb _ _ c.if-u-eq237.true, sym c.within.ensures ∙ c.if-within.false)

pub returns-else-u-eq237 : goal.returns-else-u-eq237
returns-else-u-eq237 c = rw (ne_eqb _ _ c.if-u-eq237.false)
