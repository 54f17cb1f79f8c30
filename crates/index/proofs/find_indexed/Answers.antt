-- `index::find_indexed` meets its contract. By the entry of the index's bucket, or by the whole run.
-- Assumes nothing.
use Rattle.index.proofs.Tables as tables
use Rattle.index.proofs.find_indexed.Goals as goal

pub returns-then-bucket-table : goal.returns-then-bucket-table
returns-then-bucket-table c =
    let a = c.args in
    let all = tables.found_in_entry a.members.now a.count a.table.now a.index a.kind _ c.if-bucket-table.true
    c.find_from.ensures in
    record { hands = all.0; finds = all.1 }

pub returns : goal.returns
returns c =
    let a = c.args in
    let all = tables.found_in_whole a.members.now a.count a.table.now a.index a.kind _ c.if-bucket-table.false
    c.find_from-2.ensures in
    record { hands = all.0; finds = all.1 }
