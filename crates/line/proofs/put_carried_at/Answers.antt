-- `line::put_carried_at` meets its contract. One text after the other.
-- Assumes nothing.
use native.Mathlib.Omega.{arith}
use Rattle.text.proofs.Writing.{written_then}
use Rattle.line.specs.Pieces.{carried}
use Rattle.line.proofs.put_carried_at.Goals as goal

pub returns : goal.returns
unfolding carried
returns c =
    (written_then (omega arith) (written_then (omega arith) c.put_at-zeros.ensures c.put_at-number.ensures) c.put_decimal_at.ensures)
