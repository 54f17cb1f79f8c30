-- `classfile::read_field_table` meets its contract.
-- Assumes nothing.
use mathlib.Core.Path.{refl, ◌∙◌, sym}
use Rattle.format.specs.Items.{run_of}
use Rattle.format.proofs.Items.{told, number_cut, number_right, then_done}
use Rattle.classformat.specs.ClassFile.{fields_format}
use Rattle.entries.specs.Entries.{names_by}
use Rattle.classfile.proofs.read_field_table.Goals as goal

pub returns-in_default : goal.returns-in_default
unfolding fields_format
returns-in_default c =
    let a = c.args in
    told run_of (fields_format (names_by a.file.now a.table.now) a.limit) (number_cut (sym c.read_u2.ensures ∙ c.in_default.is))

pub returns : goal.returns
unfolding fields_format
returns c =
    let a = c.args in
    let count = sym c.read_u2.ensures ∙ c.in-Some.is in
    c.read_fields.ensures ∙ told run_of (fields_format (names_by a.file.now a.table.now) a.limit) (number_right count refl (then_done _ _))
