-- `citedfault::cited_index` meets its contract. Past the end every byte is 0.
-- Assumes nothing.
use native.Mathlib.Omega.{arith}
use mathlib.Core.Path.{sym}
use Rattle.basics.proofs.Bytes.{u16_past}
use Rattle.citedfault.proofs.cited_index.Goals as goal

pub returns : goal.returns
returns c = (sym (u16_past _ _ (omega (arith, c.if-fault-code.false))), omega arith)
