-- `fault::read_fault` meets its contract. One law for each way out.
-- Assumes nothing.
use native.Mathlib.Omega.{arith}
use Rattle.fault.proofs.Decode as decode
use Rattle.fault.proofs.read_fault.Goals as goal

pub returns-then-code-fault-lt3 : goal.returns-then-code-fault-lt3
returns-then-code-fault-lt3 c =
    let a = c.args in
    decode.read_cut a.code.now a.members.now a.count a.fault (omega arith)

pub returns-then-find_member-eq0 : goal.returns-then-find_member-eq0
returns-then-find_member-eq0 c =
    let a = c.args in
    decode.read_missing a.code.now a.members.now a.count a.fault _ _ (omega arith)
    c.read_u16-index.ensures.0 c.find_member.ensures c.if-find_member-eq0.true

pub returns : goal.returns
returns c =
    let a = c.args in
    decode.reads_field a.code.now a.members.now a.count a.fault _ _ (omega arith)
    c.read_u16-index.ensures.0 c.find_member.ensures c.if-find_member-eq0.false
