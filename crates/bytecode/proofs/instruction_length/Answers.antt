-- `bytecode::instruction_length` meets its contract. Past the end there is no byte; a byte is reserved or not.
-- Assumes nothing.
use native.Mathlib.Omega.{arith}
use mathlib.Core.Path.{◌∙◌}
use Rattle.bytecode.specs.Length.{document_length}
use Rattle.bytecode.proofs.Measuring.{is-reserved, not_reserved, none_past}
use Rattle.bytecode.proofs.instruction_length.Goals as goal

pub returns-then-code-pc : goal.returns-then-code-pc
returns-then-code-pc c = none_past _ _ c.if-code-pc.true

pub returns-then-code-pc-ge-BREAKPOINT : goal.returns-then-code-pc-ge-BREAKPOINT
returns-then-code-pc-ge-BREAKPOINT c = is-reserved _ _ (omega arith)

pub returns : goal.returns
unfolding document_length
returns c = rw c.bytes_of-bytes.ensures at c.within.ensures ∙ not_reserved _ _ (omega arith)
