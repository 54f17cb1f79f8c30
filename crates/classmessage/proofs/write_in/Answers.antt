-- `classmessage::write_in` meets its contract.
-- Assumes nothing.
use native.Mathlib.Omega.{arith}
use Rattle.classmessage.proofs.Rooms.{in_order, told}
use Rattle.classmessage.proofs.write_in.Goals as goal

pub overflow_sub-laid : goal.overflow_sub-laid
overflow_sub-laid c =
    let a = c.args in
    (in_order a.file.now a.table.now a.texts _ _ _ c.lay_texts-laid.ensures).0

pub overflow_sub-laid-2 : goal.overflow_sub-laid-2
overflow_sub-laid-2 c =
    let a = c.args in
    (in_order a.file.now a.table.now a.texts _ _ _ c.lay_texts-laid.ensures).1

pub returns : goal.returns
returns c =
    let a = c.args in
    told a.file.now a.table.now a.texts _ _ _ c.lay_texts-laid.ensures (omega arith) c.requires a.wording a.failure _ _ _ _ _ _ _ _
    c.part_at-members.ensures c.part_at-records.ensures c.part_at-signature.ensures
    c.run_count.ensures c.found_count.ensures c.write_message.ensures
