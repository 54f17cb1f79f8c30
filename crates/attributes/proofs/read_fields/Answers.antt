-- `attributes::read_fields` meets its contract. The invariant: what is left answers what all of it answers.
-- Assumes nothing.
use Prim.Native.Nat.{◌+◌, ◌-◌}
use native.Mathlib.Omega.{arith}
use mathlib.Core.Path.{◌∙◌, sym}
use Rattle.format.proofs.Items.{passed_on, turn_wrong, turn_right, none_left}
use Rattle.classformat.specs.ClassFile.{field_format}
use Rattle.entries.specs.Entries.{names_by}
use Rattle.attributes.proofs.read_fields.Goals as goal

pub returns-in_err-at : goal.returns-in_err-at
returns-in_err-at c =
    let a = c.args in
    let l = c.loop in
    let one = field_format (names_by a.file.now a.table.now) a.limit in
    let wrong-is = sym c.read_field.ensures ∙ c.in_err-at.was in
    passed_on c.from_residual.ensures.1 ∙ sym (l.invariant ∙ (turn_wrong one _ (a.count - l.counter) (omega arith) wrong-is).is)

pub loop-preserved : goal.loop-preserved
loop-preserved c =
    let a = c.args in
    let l = c.loop in
    let one = field_format (names_by a.file.now a.table.now) a.limit in
    let next_is = sym c.read_field.ensures ∙ c.in_ok-at.was in
    l.invariant ∙ (turn_right one (a.count - l.counter) (a.count - (l.counter + 1)) (omega arith) next_is).is

pub returns : goal.returns
returns c =
    let a = c.args in
    let l = c.loop in
    let one = field_format (names_by a.file.now a.table.now) a.limit in
    sym (l.invariant ∙ (none_left one (a.count - l.counter) (omega arith)).is)
