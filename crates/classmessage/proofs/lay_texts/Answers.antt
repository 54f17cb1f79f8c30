-- `classmessage::lay_texts` meets its contract. Three writers, one after the other.
-- Assumes nothing.
use native.Mathlib.Omega.{arith}
use Rattle.basics.specs.Bytes.{AreBytes}
use Rattle.text.specs.Writing.{Written}
use Rattle.text.proofs.Writing.{written_then}
use Rattle.classmessage.specs.Message.{signature_in, texts_bytes}
use Rattle.classmessage.proofs.Rooms.{texts_within}
use Rattle.classmessage.proofs.lay_texts.Goals as goal

pub returns : goal.returns
unfolding texts_bytes
returns c =
    let a = c.args in
    let are : AreBytes a.file.now = λ i. (c.type_inv.file i).fits in
    let both = written_then (omega arith) c.put_cited_at-members.ensures.writes c.put_found_at-records.ensures.writes in
    let text : Written c.put_found_at-records.result (signature_in a.file.now a.table.now a.texts) c.put_found_at-records.new.out c.put_signature_at-signature.result c.put_signature_at-signature.new.out =
    rw (← c.find_name-name.ensures, ← c.find_name-descriptor.ensures) c.put_signature_at-signature.ensures in
    record {
      members = c.put_cited_at-members.ensures.writes.place;
      records = both.place;
      whole = written_then (omega arith) both text;
      few = texts_within a.file.now a.table.now are a.texts c.put_cited_at-members.ensures.few c.put_found_at-records.ensures.few;
    }
