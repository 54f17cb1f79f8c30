-- `bytecode::length_by` meets its contract. A case on the table's entry.
-- Assumes nothing.
use native.Mathlib.Omega.{arith}
use mathlib.Core.Path.{◌∙◌}
use Rattle.bytecode.proofs.Measuring.{entry_open, entry_taken, past_by_table}
use Rattle.bytecode.proofs.length_by.Goals as goal
use Rattle.bytecode.proofs.length_by.Goals.{then-pc-code+else-fixed-gt0, else-pc-code}

pub returns-then-fixed-gt0 : goal.returns-then-fixed-gt0
returns-then-fixed-gt0 c = c.within.ensures ∙ entry_taken _ _ _ _ c.fixed_by-fixed.ensures (omega arith)

pub returns : goal.returns
returns c =
    c.instruction_length.ensures
    ∙ elim c.if-pc-code.branch [ then-pc-code+else-fixed-gt0 w ↦ entry_open _ _ _ _ w.fixed_by-fixed.ensures (omega arith) | else-pc-code w ↦ past_by_table _ _ _ w.if-pc-code.false ]
