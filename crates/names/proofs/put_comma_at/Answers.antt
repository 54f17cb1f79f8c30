-- `names::put_comma_at` meets its contract. A case on the index.
-- Assumes nothing.
use native.Mathlib.Omega.{arith}
use borrow.Author.Tests.{eq-eqb}
use Rattle.text.proofs.Writing.{written_none}
use Rattle.names.proofs.put_comma_at.Goals as goal

pub returns-then-index-eq1 : goal.returns-then-index-eq1
returns-then-index-eq1 c = rw (eq-eqb c.args.index 1 c.if-index-eq1.true) (written_none c.args.out.now (omega arith))
