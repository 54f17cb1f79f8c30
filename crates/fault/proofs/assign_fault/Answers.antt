-- `fault::assign_fault` meets its contract. One law for each way out.
-- Assumes nothing.
use native.Mathlib.Omega.{arith}
use mathlib.Core.Path.{ap, ◌∙◌}
use Rattle.descriptor.specs.Readers.{field_slots}
use Rattle.fault.proofs.Decode as decode
use Rattle.fault.proofs.assign_fault.Goals as goal

pub returns-then-code-fault-lt3 : goal.returns-then-code-fault-lt3
returns-then-code-fault-lt3 c =
    let a = c.args in
    decode.assign_cut a.code.now a.members.now a.count a.fault (omega arith)

pub returns-then-texts-eq0 : goal.returns-then-texts-eq0
returns-then-texts-eq0 c =
    let a = c.args in
    decode.assign_missing a.code.now a.members.now a.count a.fault _ _ (omega arith)
    c.read_u16-index.ensures.0 c.find_member-texts.ensures c.if-texts-eq0.true

pub returns : goal.returns
returns c =
    let a = c.args in
    decode.assigns_field a.code.now a.members.now a.count a.fault _ _ (omega arith)
    c.read_u16-index.ensures.0 c.find_member-texts.ensures _
    c.if-texts-eq0.false (c.slots_of_field_type.ensures ∙ ap field_slots c.descriptor_of.ensures)
