-- `names::put_params_at` meets its contract. Nothing is left to write where the list is over or can't be read any further.
-- Assumes nothing.
use mathlib.Core.Path.{sym}
use Rattle.descriptor.proofs.Listing.{list_past, list_closed, list_unread}
use Rattle.names.proofs.Left.{over_now, unread_now}
use Rattle.names.proofs.put_params_at.Goals as goal

pub returns-in_default : goal.returns-in_default
returns-in_default c =
    let l = c.loop-index in
    unread_now l.invariant.0 l.index (list_unread _ l.index c.loop-index-test.true c.if-descriptor-index-ne41.true (sym c.in_default.ensures))

pub returns-else-descriptor-index-ne41 : goal.returns-else-descriptor-index-ne41
returns-else-descriptor-index-ne41 c =
    let l = c.loop-index in
    over_now l.invariant.0 l.index (list_closed _ l.index c.loop-index-test.true c.if-descriptor-index-ne41.false)

pub returns-after-loop-index : goal.returns-after-loop-index
returns-after-loop-index c = let l = c.loop-index in over_now l.invariant.0 l.index (list_past _ l.index c.loop-index-test.false)
