-- `classfile::read_rest` meets its contract.
-- Assumes nothing.
use mathlib.Core.Path.{◌∙◌, sym}
use Rattle.format.proofs.Items.{passed_on, told, then_right, then_wrong}
use Rattle.classformat.specs.ClassFile.{rest_format}
use Rattle.entries.specs.Entries.{names_by}
use Rattle.classfile.specs.Class.{methods_told}
use Rattle.classfile.proofs.read_rest.Goals as goal

pub returns : goal.returns
unfolding rest_format
returns c =
    let a = c.args in
    told methods_told (rest_format (names_by a.file.now a.table.now) a.limit) (then_right _ _ (sym c.read_head.ensures ∙ c.in_ok-fields_at.was) (λ head.
    then_right _ _ (sym c.read_field_table.ensures ∙ c.in_ok-methods_at.was) (λ fields. record { is = sym c.read_method_table.ensures })))

pub returns-in_err-methods_at : goal.returns-in_err-methods_at
unfolding rest_format
returns-in_err-methods_at c =
    let a = c.args in
    passed_on c.from_residual-in_err-methods_at.ensures.1 ∙ told methods_told (rest_format (names_by a.file.now a.table.now) a.limit) (then_right _ _ (sym c.read_head.ensures ∙ c.in_ok-fields_at.was) (λ head. then_wrong _ _ _ (sym c.read_field_table.ensures ∙ c.in_err-methods_at.was)))

pub returns-in_err-fields_at : goal.returns-in_err-fields_at
unfolding rest_format
returns-in_err-fields_at c =
    let a = c.args in
    passed_on c.from_residual.ensures.1 ∙ told methods_told (rest_format (names_by a.file.now a.table.now) a.limit) (then_wrong _ _ _ (sym c.read_head.ensures ∙ c.in_err-fields_at.was))
