-- `utf8::within` meets its contract. One test after the other.
-- Assumes nothing.
use borrow.Author.Tests.{le-leb, lt-leb}
use Rattle.utf8.proofs.within.Goals as goal

pub returns-then-low-byte : goal.returns-then-low-byte
returns-then-low-byte c = rw (le-leb _ _ c.if-low-byte.true)

pub returns : goal.returns
returns c = rw (lt-leb _ _ c.if-low-byte.false)
