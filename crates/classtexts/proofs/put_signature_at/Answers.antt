-- `classtexts::put_signature_at` meets its contract. Three writers, one after the other.
-- Assumes nothing.
use native.Mathlib.Omega.{arith}
use Rattle.text.proofs.Writing.{written_then}
use Rattle.classtexts.proofs.put_signature_at.Goals as goal

pub returns : goal.returns
returns c =
    written_then (omega arith) c.put_turned_at-colon_at.ensures
    (written_then (omega arith) c.put_at-descriptor_at.ensures c.put_turned_at.ensures)
