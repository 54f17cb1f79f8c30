-- `citedfault::decode_in` meets its contract.
-- Assumes nothing.
use native.Mathlib.Omega.{arith}
use Rattle.citedfault.proofs.Laid.{by_room}
use Rattle.citedfault.proofs.decode_in.Goals as goal

pub returns : goal.returns
returns c =
    let a = c.args in
    by_room a.file.now a.table.now a.index _ _ _ _ _ _ _ _ (omega arith) c.requires c.put_cited_at-size.ensures.writes c.part_at-members.ensures
    c.run_count.ensures c.decode_fault.ensures
