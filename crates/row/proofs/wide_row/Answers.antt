-- `row::wide_row` meets its contract. A case on the model.
-- Assumes nothing.
use native.Mathlib.Omega.{arith}
use mathlib.Core.Path.{◌∙◌, sym}
use Rattle.effects.proofs.Rows.{none_behind}
use Rattle.row.proofs.Full.{wide_full}
use Rattle.row.proofs.wide_row.Goals as goal

pub returns-in-Document : goal.returns-in-Document
returns-in-Document c = rw c.in-Document.is (sym (none_behind c.args.op (omega (arith, c.ranges.op))))

pub returns : goal.returns
returns c =
    rw c.in_default.is
    (c.widened_row.ensures ∙ wide_full c.args.op (omega (arith, c.ranges.op)))
