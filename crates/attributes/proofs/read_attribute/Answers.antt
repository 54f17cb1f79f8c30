-- `attributes::read_attribute` meets its contract.
-- Assumes nothing.
use mathlib.Core.Path.{◌∙◌, sym}
use Rattle.format.proofs.Items.{told}
use Rattle.format.specs.Items.{run_of}
use Rattle.format.proofs.Items.{number_cut, number_bad, number_right}
use Rattle.classformat.specs.ClassFile.{attribute_format}
use Rattle.entries.specs.Entries.{names_by}
use Rattle.attributes.proofs.read_attribute.Goals as goal

pub returns-in_default : goal.returns-in_default
unfolding attribute_format
returns-in_default c =
    let a = c.args in
    told run_of (attribute_format (names_by a.file.now a.table.now) a.limit) (number_cut (sym c.read_u2.ensures ∙ c.in_default.is))

pub returns-then-is_name : goal.returns-then-is_name
unfolding attribute_format
returns-then-is_name c =
    let a = c.args in
    let name = sym c.read_u2.ensures ∙ c.in-Some.is in
    let named = sym c.is_name.ensures ∙ c.if-is_name.true in
    told run_of (attribute_format (names_by a.file.now a.table.now) a.limit) (number_right name named (record { is = sym c.pass_over.ensures }))

pub returns : goal.returns
unfolding attribute_format
returns c =
    let a = c.args in
    let name = sym c.read_u2.ensures ∙ c.in-Some.is in
    let unnamed = sym c.is_name.ensures ∙ c.if-is_name.false in
    told run_of (attribute_format (names_by a.file.now a.table.now) a.limit) (number_bad name unnamed)
