-- `block::push_copies` meets its contract. Too few slots, too few cells, or the cells as copying leaves them.
-- Assumes nothing.
use Prim.Native.Nat.{◌+◌, ◌≤◌, ◌<◌}
use native.Mathlib.Omega.{arith}
use mathlib.Core.Path.{◌∙◌, sym}
use Rattle.row.specs.Code.{copy_places}
use Rattle.walk.specs.Walk.{carried}
use Rattle.block.proofs.Copying as copying
use Rattle.block.proofs.Laying as laying
use Rattle.block.proofs.push_copies.Goals as goal
use Rattle.block.proofs.push_copies.Goals.{then-height-count-via-then-height-count, then-height-count-via-else-height-count+then-height-count-2}

pub returns-then-height-count : goal.returns-then-height-count
returns-then-height-count c =
    let a = c.args in
    let few : a.height < a.count + a.under =
    elim c.then-height-count.branch [
      | then-height-count-via-then-height-count w ↦ omega (arith, w.if-height-count.true)
      | then-height-count-via-else-height-count+then-height-count-2 w ↦ omega (arith, w.if-height-count-2.true)
    ] in
    laying.too_few a.stack.now a.height c.requires 0 (a.count + a.under) (carried (copy_places a.count a.under)) few

pub returns-then-stack-height : goal.returns-then-stack-height
returns-then-stack-height c =
    let a = c.args in
    let enough : a.count + a.under ≤ a.height = omega arith in
    laying.laid_over a.stack.now _ _
    (copying.copies_are a.stack.now a.height c.requires a.count a.under enough)
    (omega (arith, copying.tall a.stack.now a.height c.requires a.count a.under enough))

pub returns : goal.returns
returns c =
    let a = c.args in
    let enough : a.count + a.under ≤ a.height = omega arith in
    let size = copying.tall a.stack.now a.height c.requires a.count a.under enough in
    laying.laid_high a.stack.now _ _
    (copying.copies_are a.stack.now a.height c.requires a.count a.under enough) _ _
    (sym size) (omega (arith, size))
    (c.copy_below.ensures
    ∙ copying.copied_shown a.stack.now a.height c.requires a.count a.under enough (omega arith))
