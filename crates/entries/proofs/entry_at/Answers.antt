-- `entries::entry_at` meets its contract.
-- Assumes nothing.
use lib.ListN.{length}
use borrow.Author.Tests.{eq-eqb, ne_eqb, lt-ltb, le-ltb}
use Rattle.entries.specs.Entries.{entry_at}
use Rattle.entries.proofs.entry_at.Goals as goal

pub returns-then-place-eq0 : goal.returns-then-place-eq0
unfolding entry_at
returns-then-place-eq0 c = rw (← c.place_of-place.ensures, eq-eqb c.place_of-place.result 0 c.if-place-eq0.true)

pub returns-then-place-file : goal.returns-then-place-file
unfolding entry_at
returns-then-place-file c =
    let p = c.place_of-place in rw (← p.ensures, ne_eqb p.result 0 c.if-place-eq0.false, lt-ltb p.result (length c.args.file.now) c.if-place-file.true) c.entry_behind.ensures

pub returns : goal.returns
unfolding entry_at
returns c =
    let p = c.place_of-place in rw (← p.ensures, ne_eqb p.result 0 c.if-place-eq0.false, le-ltb p.result (length c.args.file.now) c.if-place-file.false)
