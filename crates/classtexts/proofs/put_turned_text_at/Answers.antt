-- `classtexts::put_turned_text_at` meets its contract. Two writers, one after the other; the first writes the length that was measured.
-- Assumes nothing.
use native.Mathlib.Omega.{arith}
use Rattle.items.specs.Text.{text_bytes}
use Rattle.text.proofs.Writing.{written_then}
use Rattle.classtexts.proofs.put_turned_text_at.Goals as goal

pub returns : goal.returns
unfolding text_bytes
returns c =
    rw (← c.turned_length-size.ensures)
    (written_then (omega arith) c.put_number_at-start.ensures c.put_turned_at.ensures)
