-- `block::push_load` meets its contract. A load without a cell, too few cells, or the cell stored on top.
-- Assumes nothing.
use native.Mathlib.Omega.{arith}
use mathlib.Core.Path.{sym, ◌∙◌}
use Rattle.block.proofs.Laying as laying
use Rattle.block.proofs.push_load.Goals as goal

pub returns-in_default : goal.returns-in_default
returns-in_default c =
    let a = c.args in
    laying.load_refused a.stack.now a.height c.requires a.pc a.local
    (sym c.pack.ensures ∙ c.in_default.is)

pub returns-then-stack-height : goal.returns-then-stack-height
returns-then-stack-height c =
    let a = c.args in
    laying.load_over a.stack.now a.height c.requires a.pc a.local c.in-Some.cell
    (sym c.pack.ensures ∙ c.in-Some.is) c.if-stack-height.true

pub returns : goal.returns
returns c =
    let a = c.args in
    laying.load_high a.stack.now a.height c.requires a.pc a.local c.in-Some.cell
    (sym c.pack.ensures ∙ c.in-Some.is) (omega arith)
