-- `index::index_members` meets its contract. The invariant: the buckets before this one are filled, and what is left of the
-- run serves the others.
-- Assumes nothing.
use native.Mathlib.Omega.{arith}
use lib.ListN.{length-set}
use Rattle.index.proofs.Tables as tables
use Rattle.index.proofs.index_members.Goals as goal

pub loop-bucket-init : goal.loop-bucket-init
loop-bucket-init c = let a = c.args in tables.filling_starts a.members.now a.count a.table.now

pub bounds-table-bucket-in-loop-bucket : goal.bounds-table-bucket-in-loop-bucket
bounds-table-bucket-in-loop-bucket c = simp length-set (omega (arith, c.loop-bucket.invariant.long))

pub bounds-table-bucket-in-loop-bucket-2 : goal.bounds-table-bucket-in-loop-bucket-2
bounds-table-bucket-in-loop-bucket-2 c = simp length-set (omega (arith, c.loop-bucket.invariant.long))

pub loop-bucket-preserved : goal.loop-bucket-preserved
loop-bucket-preserved c =
    let l = c.loop-bucket in
    let a = c.args in
    tables.filling_on a.members.now a.count a.table.now l.table l.rest.at l.rest.last l.rest.left l.bucket l.invariant
    c.loop-bucket-test.true _ c.skip_to-rest.ensures

pub returns : goal.returns
returns c =
    let l = c.loop-bucket in
    let a = c.args in
    let all = tables.tabled a.members.now a.count a.table.now l.table l.rest.at l.rest.last l.rest.left l.bucket l.invariant
    c.loop-bucket-test.false in
    record { fills = all.0; serves = all.1 }
