-- `words::put_array_at` meets its contract. Three writers, one after the other.
-- Assumes nothing.
use native.Mathlib.Omega.{arith}
use Rattle.words.specs.Words.{array_text}
use Rattle.text.proofs.Writing.{written_then}
use Rattle.words.proofs.put_array_at.Goals as goal

pub returns : goal.returns
unfolding array_text
returns c =
    written_then (omega arith)
    (written_then (omega arith) c.put_at-start.ensures c.put_element_at-end.ensures)
    c.put_at.ensures
