-- `bytecode::bytes_of` meets its contract. Three opcodes have rules of their own; any other that is not reserved fixes its length by
-- itself.
-- Assumes nothing.
use native.Mathlib.Omega.{arith}
use mathlib.Core.Path.{◌∙◌}
use Rattle.bytecode.specs.Length.{bytes_of}
use Rattle.jvms.specs.Format.{format_of}
use Rattle.bytecode.proofs.Measuring.{opcode_fixes}
use Rattle.bytecode.proofs.bytes_of.Goals as goal

pub returns-in-196 : goal.returns-in-196
unfolding bytes_of format_of
returns-in-196 c = rw c.in-196.is c.wide_bytes.ensures

pub returns-in-170 : goal.returns-in-170
unfolding bytes_of format_of
returns-in-170 c = rw c.in-170.is c.table_bytes.ensures

pub returns-in-171 : goal.returns-in-171
unfolding bytes_of format_of
returns-in-171 c = rw c.in-171.is c.lookup_bytes.ensures

pub returns-in_default : goal.returns-in_default
returns-in_default c =
    let a = c.args in
    let rest = c.in_default.in_default-own.rest in
    c.fixed_length.ensures
    ∙ opcode_fixes a.code.now a.pc (omega (arith, c.type_inv.code a.pc))
    rest.0.1 rest.1 rest.0.0.1
