-- `bodies::read_tables` meets its contract.
-- Assumes nothing.
use mathlib.Core.Path.{refl, ◌∙◌, sym}
use Rattle.format.specs.Items.{run_of}
use Rattle.format.proofs.Items.{passed_on, told, number_cut, number_right, then_right, then_wrong, then_done}
use Rattle.classformat.specs.ClassFile.{code_tables_format}
use Rattle.entries.specs.Entries.{names_by}
use Rattle.bodies.proofs.read_tables.Goals as goal

pub returns-in_default : goal.returns-in_default
unfolding code_tables_format
returns-in_default c =
    let a = c.args in
    told run_of (code_tables_format (names_by a.file.now a.table.now) a.limit) (number_cut (sym c.read_u2.ensures ∙ c.in_default.is))

pub returns : goal.returns
unfolding code_tables_format
returns c =
    let a = c.args in
    let count = sym c.read_u2.ensures ∙ c.in-Some.is in
    c.read_code_end.ensures
    ∙ told run_of (code_tables_format (names_by a.file.now a.table.now) a.limit) (number_right count refl (then_right _ _ (sym c.read_handlers.ensures ∙ c.in_ok-next.was) (λ handlers. then_done _ _)))

pub returns-in_err-next : goal.returns-in_err-next
unfolding code_tables_format
returns-in_err-next c =
    let a = c.args in
    let count = sym c.read_u2.ensures ∙ c.in-Some.is in
    passed_on c.from_residual.ensures.1 ∙ told run_of (code_tables_format (names_by a.file.now a.table.now) a.limit) (number_right count refl (then_wrong _ _ _ (sym c.read_handlers.ensures ∙ c.in_err-next.was)))
