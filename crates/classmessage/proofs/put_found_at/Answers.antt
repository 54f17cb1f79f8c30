-- `classmessage::put_found_at` meets its contract.
-- Assumes nothing.
use native.Mathlib.Omega.{arith}
use mathlib.Core.Path.{◌≡◌, sym, subst}
use mathlib.Core.List.{List}
use Prim.Native.Nat.{ℕ, ◌≤◌}
use lib.ListN.{length}
use Rattle.basics.specs.Bytes.{AreBytes}
use Rattle.text.specs.Writing.{Written}
use Rattle.text.proofs.Writing.{written_none}
use Rattle.entries.specs.Entries.{entry_by}
use Rattle.classparts.specs.Parts.{text_by}
use Rattle.classmessage.specs.Message.{longest_record}
use Rattle.classmessage.proofs.Rooms.{no_record, one_record, record-within}
use borrow.Author.Rules.{rules}
use Rattle.classmessage.proofs.put_found_at.Goals as goal

pub returns-in-Some : goal.returns-in-Some
returns-in-Some c =
    let a = c.args in
    let one = one_record a.file.now a.table.now a.slot c.in-Some.is in
    let text : c.find_name-text.result.now ≡ text_by a.file.now (entry_by a.file.now a.table.now) c.in-Some.record.name =
    c.find_name-text.ensures in
    let are : AreBytes a.file.now = λ i. (c.type_inv.file i).fits in record {
      writes = subst (λ (t : List ℕ). Written a.at t a.out.now c.put_record_at.result c.put_record_at.new.out) (sym one)
          (rw (← text) c.put_record_at.ensures);
      few = subst (λ (t : List ℕ). length t ≤ longest_record) (sym one)
          (record-within a.file.now a.table.now are a.slot c.in-Some.record.start c.in-Some.record.size c.in-Some.record.name (omega arith) (omega arith) (omega arith));
    }

pub returns-in-None : goal.returns-in-None
returns-in-None c =
    let a = c.args in
    let none = no_record a.file.now a.table.now a.slot c.in-None.is in record { writes = subst (λ (t : List ℕ). Written a.at t a.out.now a.at a.out.now) (sym none) (written_none a.out.now (search rules)); few = subst (λ (t : List ℕ). length t ≤ longest_record) (sym none) (omega arith) }
