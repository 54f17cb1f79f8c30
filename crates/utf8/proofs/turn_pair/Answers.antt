-- `utf8::turn_pair` meets its contract. The null character, or two bytes as they are.
-- Assumes nothing.
use borrow.Author.Tests.{eq-eqb, ne_eqb}
use mathlib.Core.Path.{refl}
use native.Mathlib.Omega.{arith}
use Rattle.utf8.proofs.turn_pair.Goals as goal

pub returns-then-x-ne192 : goal.returns-then-x-ne192
returns-then-x-ne192 c = rw (ne_eqb _ _ c.if-x-ne192.true) (record { takes = refl; gives = refl; few = omega arith; room = refl })

pub returns : goal.returns
returns c = rw (eq-eqb _ _ c.if-x-ne192.false) (record { takes = refl; gives = refl; few = omega arith; room = refl })
