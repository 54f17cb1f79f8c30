-- `line::put_counted_at` meets its contract. One text after the other.
-- Assumes nothing.
use native.Mathlib.Omega.{arith}
use Rattle.text.proofs.Writing.{written_then}
use Rattle.line.specs.Pieces.{counted}
use Rattle.line.proofs.put_counted_at.Goals as goal

pub returns : goal.returns
unfolding counted
returns c =
    written_then (omega arith)
    (written_then (omega arith) (written_then (omega arith) c.put_at-kind_at.ensures c.put_spaced_at-scan_at.ensures) c.put_spaced_at-block_at.ensures)
    c.put_spaced_at.ensures
