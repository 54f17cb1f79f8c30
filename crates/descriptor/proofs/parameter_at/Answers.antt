-- `descriptor::parameter_at` meets its contract. The parameter of a turn starts at the slot.
-- Assumes nothing.
use mathlib.Core.Path.{◌∙◌, sym}
use Rattle.descriptor.proofs.Listing.{list_one}
use Rattle.descriptor.proofs.Turns.{found_now}
use Rattle.descriptor.proofs.parameter_at.Goals as goal

pub returns-then-first-slot : goal.returns-then-first-slot
returns-then-first-slot c =
    let l = c.loop-at in
    let listed = list_one _ l.at c.loop-at-test.true c.if-descriptor-at-ne41.true c.in_ok-t.t (sym c.in_ok-t.ensures) in
    found_now _ l.first _ l.k c.in_ok-t.t _ listed c.if-first-slot.true ∙ l.invariant.0
