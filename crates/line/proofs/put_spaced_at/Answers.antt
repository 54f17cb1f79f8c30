-- `line::put_spaced_at` meets its contract. One text after the other.
-- Assumes nothing.
use native.Mathlib.Omega.{arith}
use Rattle.text.proofs.Writing.{written_then}
use Rattle.line.specs.Head.{spaced}
use Rattle.line.proofs.put_spaced_at.Goals as goal

pub returns : goal.returns
unfolding spaced
returns c = written_then (omega arith) c.put_decimal_at-end.ensures c.put_at.ensures
