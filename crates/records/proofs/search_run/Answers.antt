-- `records::search_run` meets its contract. A record by itself, and those after it.
-- Assumes nothing.
use Rattle.std.proofs.Common.{◌∙◌, arith}
use native.Mathlib.Numerals.{add-one}
use Rattle.records.proofs.Search.{found_next}
use Rattle.records.proofs.search_run.Goals as goal

pub loop-local-preserved : goal.loop-local-preserved
loop-local-preserved c =
    let l = c.loop-local in
    let a = c.args in
    rw (add-one, c.name_or-found.ensures)
    (found_next a.run.now a.slot a.load l.local-index l.found (omega arith) ∙ l.invariant)
