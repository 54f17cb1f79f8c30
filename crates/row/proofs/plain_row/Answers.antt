-- `row::plain_row` meets its contract. By whether document 01 models the opcode, and by the model.
-- Assumes nothing.
use native.Mathlib.Omega.{arith}
use mathlib.Core.Path.{◌∙◌}
use Rattle.row.proofs.Full.{full_added, kept_in}
use Rattle.row.proofs.plain_row.Goals as goal

pub returns-in-Full : goal.returns-in-Full
returns-in-Full c =
    rw c.in-Full.is
    (c.added_row.ensures
    ∙ full_added c.args.op (omega (arith, c.ranges.op)) _ c.row_of-row.ensures
    c.in-Unmodelled.is)

pub returns-in_default-model : goal.returns-in_default-model
returns-in_default-model c = rw c.in_default-model.is c.row_of-row.ensures

pub returns-in_default : goal.returns-in_default
returns-in_default c =
    let a = c.args in
    kept_in a.model a.op c.row_of-row.result c.row_of-row.ensures c.in_default.not-Unmodelled
