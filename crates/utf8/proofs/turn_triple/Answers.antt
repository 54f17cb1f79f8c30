-- `utf8::turn_triple` meets its contract. A surrogate, or three bytes as they are.
-- Assumes nothing.
use borrow.Author.Tests.{eq-eqb, ne_eqb, le-leb, lt-leb}
use mathlib.Core.Path.{refl}
use native.Mathlib.Omega.{arith}
use Rattle.utf8.proofs.turn_triple.Goals as goal

pub returns-then-y-ge160 : goal.returns-then-y-ge160
returns-then-y-ge160 c = rw (eq-eqb _ _ c.if-x-eq237.true, le-leb _ _ c.if-y-ge160.true) c.turn_surrogate.ensures

pub returns-else-y-ge160 : goal.returns-else-y-ge160
returns-else-y-ge160 c =
    rw (eq-eqb _ _ c.if-x-eq237.true, lt-leb _ _ c.if-y-ge160.false)
    (record { takes = refl; gives = refl; few = omega arith; room = refl })

pub returns-else-x-eq237 : goal.returns-else-x-eq237
returns-else-x-eq237 c = rw (ne_eqb _ _ c.if-x-eq237.false) (record { takes = refl; gives = refl; few = omega arith; room = refl })
