-- `utf8::turn_surrogate` meets its contract. A pair is one character; any other surrogate is lone.
-- Assumes nothing.
use borrow.Author.Tests.{le-leb, lt-leb}
use mathlib.Core.Path.{refl, ◌∙◌, sym}
use native.Mathlib.Omega.{arith}
use Rattle.utf8.proofs.turn_surrogate.Goals as goal

pub returns-then-is_trail : goal.returns-then-is_trail
returns-then-is_trail c =
    rw (le-leb _ _ c.if-y-le175.true, sym c.is_trail.ensures ∙ c.if-is_trail.true)
    (record { takes = refl; gives = refl; few = omega arith; room = refl })

pub returns-else-is_trail : goal.returns-else-is_trail
returns-else-is_trail c =
    rw (le-leb _ _ c.if-y-le175.true, sym c.is_trail.ensures ∙ c.if-is_trail.false)
    (record { takes = refl; gives = refl; few = omega arith; room = refl })

pub returns-else-y-le175 : goal.returns-else-y-le175
returns-else-y-le175 c = rw (lt-leb _ _ c.if-y-le175.false) (record { takes = refl; gives = refl; few = omega arith; room = refl })
