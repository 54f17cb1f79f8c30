-- `words::put_quoted_at` meets its contract. Four writers, one after the other.
-- Assumes nothing.
use native.Mathlib.Omega.{arith}
use Rattle.words.specs.Words.{quoted}
use Rattle.text.proofs.Writing.{written_then}
use Rattle.words.proofs.put_quoted_at.Goals as goal

pub returns : goal.returns
unfolding quoted
returns c =
    written_then (omega arith)
    (written_then (omega arith)
    (written_then (omega arith)
    c.put_at-opened.ensures
    c.put_at-start.ensures)
    c.put_at-end.ensures)
    c.put_at.ensures
