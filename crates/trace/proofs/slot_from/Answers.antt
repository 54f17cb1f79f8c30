-- `trace::slot_from` meets its contract. The cell is read only where the height exceeds the depth.
-- Assumes nothing.
use borrow.Author.Tests.{lt-ltb, le-ltb}
use Rattle.trace.proofs.slot_from.Goals as goal

pub returns-then-depth-height : goal.returns-then-depth-height
returns-then-depth-height c =
    let a = c.args in
    rw (lt-ltb a.depth a.height c.if-depth-height.true) c.unpack.ensures

pub returns : goal.returns
returns c = rw (le-ltb c.args.depth c.args.height c.if-depth-height.false)
