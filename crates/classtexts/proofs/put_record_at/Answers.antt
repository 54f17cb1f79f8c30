-- `classtexts::put_record_at` meets its contract. Four writers, one after the other.
-- Assumes nothing.
use native.Mathlib.Omega.{arith}
use Rattle.cases.specs.LaidOut.{record_bytes}
use Rattle.text.proofs.Writing.{written_then}
use Rattle.classtexts.proofs.put_record_at.Goals as goal

pub returns : goal.returns
unfolding record_bytes
returns c =
    written_then (omega arith) c.put_number_at-size_at.ensures
    (written_then (omega arith) c.put_number_at-slot_at.ensures
    (written_then (omega arith) c.put_number_at-name_at.ensures c.put_turned_text_at.ensures))
