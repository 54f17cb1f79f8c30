-- `instruction::cited_slots` meets its contract. No texts, or the slots of the field.
-- Assumes nothing.
use mathlib.Core.Path.{◌∙◌, ap}
use Rattle.descriptor.specs.Readers.{field_slots}
use Rattle.instruction.proofs.Effects.{cited_none, cited_some}
use Rattle.instruction.proofs.cited_slots.Goals as goal

pub returns-then-texts-eq0 : goal.returns-then-texts-eq0
returns-then-texts-eq0 c =
    let a = c.args in
    cited_none a.code.now a.pc a.members.now a.count a.table.now _ c.cited_texts-texts.ensures c.if-texts-eq0.true

pub returns : goal.returns
returns c =
    let a = c.args in
    cited_some a.code.now a.pc a.members.now a.count a.table.now _ c.cited_texts-texts.ensures _
    c.if-texts-eq0.false (c.slots_of_field_type.ensures ∙ ap field_slots c.descriptor_of.ensures)
