-- `jtype::get_next` meets its contract. Both are read off at the place behind the brackets.
-- Assumes nothing.
use borrow.Author.Tests.{lt-ltb, le-ltb}
use Rattle.jtype.proofs.Laws.{type_behind}
use Rattle.jtype.proofs.get_next.Goals as goal

pub returns-then-depth-gt255 : goal.returns-then-depth-gt255
returns-then-depth-gt255 c = rw (type_behind _ _ _ c.after_run-place.ensures, lt-ltb _ _ c.if-depth-gt255.true)

pub returns : goal.returns
returns c =
    rw (type_behind _ _ _ c.after_run-place.ensures, le-ltb _ _ c.if-depth-gt255.false)
    c.element_at.ensures
