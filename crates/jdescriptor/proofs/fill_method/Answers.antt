-- `jdescriptor::fill_method` meets its contract. Invariant: what is still to be written over what stands gives the whole.
-- Assumes nothing.
use mathlib.Core.Path.{◌∙◌, sym, ap}
use Rattle.std.specs.Prelude.{Ok}
use Rattle.jdescriptor.proofs.Filling.{fits, closing}
use Rattle.jdescriptor.proofs.fill_method.Goals as goal
use Rattle.jdescriptor.proofs.fill_method.Goals.{in_default, in_default-2}

pub put_record-requires : goal.put_record-requires
put_record-requires c = fits _ _ _ _ _ c.loop-t.invariant _ _ (sym c.get_next.ensures ∙ c.in-Ok-Some.is ∙ ap Ok c.in-Ok-Some.field-0-is)

pub fill_return-requires : goal.fill_return-requires
fill_return-requires c =
    let f = closing _ _ _ _ _ c.loop-t.invariant (λ t end e. elim c.match-get_next.branch [ in_default w ↦ cc | in_default-2 w ↦ cc ]) in
    record { types = f.are; at_in_bounds = f.room }

pub returns : goal.returns
returns c =
    c.fill_return.ensures
    ∙ (closing _ _ _ _ _ c.loop-t.invariant (λ t end e. elim c.match-get_next.branch [ in_default w ↦ cc | in_default-2 w ↦ cc ])).from_here
