-- `citedfault::decode_cited` meets its contract. The member was measured; and no member is longer than the longest room.
-- Assumes nothing.
use native.Mathlib.Omega.{arith}
use Rattle.citing.proofs.Room.{measured}
use Rattle.citing.proofs.Sizes.{run-within}
use Rattle.citedfault.proofs.decode_cited.Goals as goal

pub decode_within-requires-clause-fits : goal.decode_within-requires-clause-fits
decode_within-requires-clause-fits c = measured c.put_cited_at.ensures.writes c.if-put_cited_at-le-USUAL.true (omega arith)

pub returns-then-put_cited_at-le-USUAL : goal.returns-then-put_cited_at-le-USUAL
returns-then-put_cited_at-le-USUAL c = rw (← c.cited_index-index.ensures.0) c.decode_within.ensures

pub decode_within-requires-2-clause-fits : goal.decode_within-requires-2-clause-fits
decode_within-requires-2-clause-fits c =
    let a = c.args in
    run-within a.file.now a.table.now (λ i. (c.type_inv.file i).fits) c.cited_index-index.result (omega arith)

pub returns : goal.returns
returns c = rw (← c.cited_index-index.ensures.0) c.decode_within-2.ensures
