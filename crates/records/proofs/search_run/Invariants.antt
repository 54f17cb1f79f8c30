-- `records::search_run` meets its contract. What is found, with what the rest of the run gives, is the whole answer.
-- Assumes nothing.
use Rattle.std.proofs.Common.{◌≡◌}
use Rattle.search.specs.Search.{first_match}
use Rattle.records.specs.Run.{viewed_all}
use Rattle.records.proofs.Search.{found_from}
use Rattle.records.proofs.search_run.Given as goal

abbrev pub invariant-loop-local : goal.invariant-loop-local
invariant-loop-local l = found_from l.run l.slot l.load l.local-index l.found ≡ first_match (viewed_all l.run) l.slot l.load
