-- `block::give_up` meets its contract. Behind the slots the cells are zero.
-- Assumes nothing.
use mathlib.Core.Path.{refl, sym}
use lib.Seq.{length-take-le}
use Rattle.block.proofs.Laying.{all_zero}
use Rattle.block.proofs.give_up.Goals as goal

pub slice_bounds-clear-end-2 : goal.slice_bounds-clear-end-2
slice_bounds-clear-end-2 c = sym (length-take-le _ _ c.requires.high)

pub returns : goal.returns
returns c = record { answers = refl; leaves = all_zero c.args.stack.now c.args.height c.requires _ c.clear.ensures }
