-- `index::index_members` meets its contract. The invariant: the buckets before this one are filled, and what is left of the
-- run serves the others.
-- Assumes nothing.
use Rattle.index.proofs.Tables as tables
use Rattle.index.proofs.index_members.Given as goal

abbrev pub invariant-loop-bucket : goal.invariant-loop-bucket
invariant-loop-bucket l = tables.Filling l.members l.count l.initial.table l.table l.rest.at l.rest.last l.rest.left l.bucket
