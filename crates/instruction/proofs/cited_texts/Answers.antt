-- `instruction::cited_texts` meets its contract. A case on the bytes behind the opcode.
-- Assumes nothing.
use native.Mathlib.Omega.{arith}
use Rattle.instruction.proofs.Effects as laws
use Rattle.instruction.proofs.cited_texts.Goals as goal

pub returns-then-bytes_from-lt3 : goal.returns-then-bytes_from-lt3
returns-then-bytes_from-lt3 c =
    let a = c.args in
    laws.cited_cut a.members.now a.count a.table.now a.code.now a.pc a.kind
    (omega (arith, c.bytes_from.ensures))

pub returns : goal.returns
returns c =
    let a = c.args in
    laws.cited a.members.now a.count a.table.now a.code.now a.pc a.kind _ _
    (omega (arith, c.bytes_from.ensures)) c.read_u16.ensures.0 c.find_indexed.ensures.hands
