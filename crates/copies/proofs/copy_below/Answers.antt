-- `copies::copy_below` meets its contract. Too few cells in one of four ways, or two moves of cells.
-- Assumes nothing.
use Prim.Native.Nat.{◌+◌, ◌<◌}
use native.Mathlib.Omega.{arith}
use lib.ListN.{length}
use borrow.Author.Tests.{le-leb, lt-leb}
use Rattle.copies.specs.Copies.{copied_below}
use Rattle.copies.proofs.Copying as copying
use Rattle.copies.proofs.copy_below.Goals as goal
use Rattle.copies.proofs.copy_below.Goals.{then-height-count-via-then-height-count, then-height-count-via-else-height-count+then-height-count-2}
use Rattle.copies.proofs.copy_below.Goals.{then-cells-height-via-then-cells-height, then-cells-height-via-else-cells-height+then-cells-height-2}

pub returns-then-height-count : goal.returns-then-height-count
unfolding copied_below
returns-then-height-count c =
    let a = c.args in
    let few : a.height < a.count + a.under =
    elim c.then-height-count.branch [
      | then-height-count-via-then-height-count w ↦ omega (arith, w.if-height-count.true)
      | then-height-count-via-else-height-count+then-height-count-2 w ↦ omega (arith, w.if-height-count-2.true)
    ] in
    rw (lt-leb (a.count + a.under) a.height few)

pub returns-then-cells-height : goal.returns-then-cells-height
unfolding copied_below
returns-then-cells-height c =
    let a = c.args in
    let few : length a.cells.now < a.height + a.count =
    elim c.then-cells-height.branch [
      | then-cells-height-via-then-cells-height w ↦ omega (arith, w.if-cells-height.true)
      | then-cells-height-via-else-cells-height+then-cells-height-2 w ↦ omega (arith, w.if-cells-height-2.true)
    ] in
    rw (le-leb (a.count + a.under) a.height (omega arith), lt-leb (a.height + a.count) (length a.cells.now) few)

pub returns : goal.returns
unfolding copied_below
returns c =
    let a = c.args in
    rw (
      le-leb (a.count + a.under) a.height (omega arith),
      le-leb (a.height + a.count) (length a.cells.now) (omega arith),
      c.copy_within-2.ensures.after,
      c.copy_within.ensures.after,
    )
    (copying.copies_are a.cells.now a.height a.count a.under _ (omega arith) (omega arith))
