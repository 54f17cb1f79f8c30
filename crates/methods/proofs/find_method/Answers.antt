-- `methods::find_method` meets its contract.
-- Assumes nothing.
use mathlib.Core.Path.{◌∙◌, sym}
use Rattle.format.proofs.Items.{passed_on, told, then_right, then_wrong}
use Rattle.classformat.specs.ClassFile.{method_format}
use Rattle.entries.specs.Entries.{names_by}
use Rattle.methods.specs.Method.{method_told, method_behind}
use Rattle.methods.proofs.find_method.Goals as goal

pub returns : goal.returns
returns c =
    let a = c.args in
    told method_told (method_behind a.place (method_format (names_by a.file.now a.table.now) a.limit)) (then_right _ _ (sym c.read_methods.ensures ∙ c.in_ok-method_at.was) (λ before. record { is = sym c.read_method.ensures }))

pub returns-in_err-method_at : goal.returns-in_err-method_at
returns-in_err-method_at c =
    let a = c.args in
    passed_on c.from_residual.ensures.1 ∙ told method_told (method_behind a.place (method_format (names_by a.file.now a.table.now) a.limit)) (then_wrong _ _ _ (sym c.read_methods.ensures ∙ c.in_err-method_at.was))
