-- `utf8::is_pair` meets its contract. One test after the other.
-- Assumes nothing.
use borrow.Author.Tests.{eq-eqb, ne_eqb}
use mathlib.Core.Path.{◌∙◌, sym}
use Rattle.utf8.proofs.is_pair.Goals as goal

pub returns-then-x-eq192 : goal.returns-then-x-eq192
returns-then-x-eq192 c = rw (eq-eqb _ _ c.if-x-eq192.true)

pub returns-then-within : goal.returns-then-within
returns-then-within c =
    rw (ne_eqb _ _ c.if-x-eq192.false, sym c.within.ensures ∙ c.if-within.true)
    c.is_tail.ensures

pub returns : goal.returns
returns c = rw (ne_eqb _ _ c.if-x-eq192.false, sym c.within.ensures ∙ c.if-within.false)
