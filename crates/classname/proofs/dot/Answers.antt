-- `classname::dot` meets its contract. A case on the byte.
-- Assumes nothing.
use borrow.Author.Tests.{eq-eqb, ne_eqb}
use Rattle.classname.specs.ClassName.{dot_of}
use Rattle.classname.proofs.dot.Goals as goal

pub returns-then-byte-eq47 : goal.returns-then-byte-eq47
unfolding dot_of
returns-then-byte-eq47 c = rw (eq-eqb _ _ c.if-byte-eq47.true)

pub returns-else-byte-eq47 : goal.returns-else-byte-eq47
unfolding dot_of
returns-else-byte-eq47 c = rw (ne_eqb _ _ c.if-byte-eq47.false)
