-- `citedfault::run_count` meets its contract.
-- Assumes nothing.
use borrow.Author.Tests.{lt-ltb, le-ltb}
use Rattle.citedfault.proofs.run_count.Goals as goal

pub returns-then-size-gt0 : goal.returns-then-size-gt0
returns-then-size-gt0 c = rw (lt-ltb _ _ c.if-size-gt0.true)

pub returns : goal.returns
returns c = rw (le-ltb _ _ c.if-size-gt0.false)
