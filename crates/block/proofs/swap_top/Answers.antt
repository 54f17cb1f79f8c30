-- `block::swap_top` meets its contract. Too few slots, or the two topmost stored in the other order.
-- Assumes nothing.
use native.Mathlib.Omega.{arith}
use Prim.Native.Nat.{◌-◌}
use mathlib.Core.Path.{◌∙◌, sym}
use Rattle.std.proofs.lemmas.List.Edits.{swap_is}
use Rattle.row.specs.Code.{swap_places}
use Rattle.walk.specs.Walk.{carried}
use Rattle.block.proofs.Laying as laying
use Rattle.block.proofs.swap_top.Goals as goal

pub returns-then-height-lt2 : goal.returns-then-height-lt2
returns-then-height-lt2 c =
    let a = c.args in
    laying.too_few a.stack.now a.height c.requires 0 2 (carried swap_places) c.if-height-lt2.true

pub returns : goal.returns
returns c =
    let stack = c.args.stack.now in
    let height = c.args.height in
    let clean = c.requires in
    let size = laying.swap_length stack height clean (omega arith) in
    laying.laid_high stack _ _ (laying.swap_is stack height clean 0 (omega arith)) _ _ (sym size)
    (omega (arith, size, clean.high))
    (c.swap.ensures.after ∙ sym (swap_is stack (height - 1) (height - 2) 0 (omega (arith, clean.high)) (omega (arith, clean.high)))
    ∙ laying.swap_shown stack height clean (omega arith))
