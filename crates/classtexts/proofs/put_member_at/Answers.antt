-- `classtexts::put_member_at` meets its contract. Five writers, one after the other.
-- Assumes nothing.
use native.Mathlib.Omega.{arith}
use Rattle.cases.specs.LaidOut.{texts_bytes, member_bytes}
use Rattle.text.proofs.Writing.{written_then}
use Rattle.classtexts.proofs.put_member_at.Goals as goal

pub returns : goal.returns
unfolding member_bytes texts_bytes
returns c =
    let short = c.well_formed in
    written_then (omega (arith, short)) c.put_number_at-kind_at.ensures
    (written_then (omega (arith, short)) c.put_number_at-class_at.ensures
    (written_then (omega (arith, short)) c.put_turned_text_at-name_at.ensures
    (written_then (omega (arith, short)) c.put_turned_text_at-descriptor_at.ensures c.put_turned_text_at.ensures)))
