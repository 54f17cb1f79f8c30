-- `methods::read_method_attribute` meets its contract.
-- Assumes nothing.
use mathlib.Core.Path.{◌∙◌, sym}
use Rattle.format.proofs.Items.{told, number_cut, number_bad, number_right}
use Rattle.classformat.specs.ClassFile.{method_attribute_format}
use Rattle.entries.specs.Entries.{names_by}
use Rattle.methods.specs.Method.{body_told}
use Rattle.methods.proofs.Told.{other_name, first_code, second_code, nameless}
use Rattle.methods.proofs.read_method_attribute.Goals as goal

pub returns-in_default : goal.returns-in_default
unfolding method_attribute_format
returns-in_default c =
    let a = c.args in
    λ before is. told body_told (method_attribute_format (names_by a.file.now a.table.now) a.limit before) (number_cut (sym c.read_u2.ensures ∙ c.in_default.is))

pub returns-in-None : goal.returns-in-None
unfolding method_attribute_format
returns-in-None c =
    let a = c.args in
    let name = sym c.read_u2.ensures ∙ c.in-Some.is in
    let there = sym c.is_name.ensures ∙ c.if-is_name.true in
    let code = sym c.is_named.ensures ∙ c.if-is_named.true in
    λ before is.
    told body_told (method_attribute_format (names_by a.file.now a.table.now) a.limit before)
    (number_right name (first_code (names_by a.file.now a.table.now) c.in-Some.name there before (is ∙ c.in-None.is)) (rw code (record { is = sym c.read_coded.ensures })))

pub returns-in-Some-body : goal.returns-in-Some-body
unfolding method_attribute_format
returns-in-Some-body c =
    let a = c.args in
    let name = sym c.read_u2.ensures ∙ c.in-Some.is in
    let there = sym c.is_name.ensures ∙ c.if-is_name.true in
    let code = sym c.is_named.ensures ∙ c.if-is_named.true in
    λ before is. told body_told (method_attribute_format (names_by a.file.now a.table.now) a.limit before) (number_bad name (second_code (names_by a.file.now a.table.now) c.in-Some.name there code before (is ∙ c.in-Some-body.is)))

pub returns-then-is_name : goal.returns-then-is_name
unfolding method_attribute_format
returns-then-is_name c =
    let a = c.args in
    let name = sym c.read_u2.ensures ∙ c.in-Some.is in
    let there = sym c.is_name.ensures ∙ c.if-is_name.true in
    let code = sym c.is_named.ensures ∙ c.if-is_named.false in
    λ before is.
    told body_told (method_attribute_format (names_by a.file.now a.table.now) a.limit before) (number_right name (other_name (names_by a.file.now a.table.now) c.in-Some.name there code before) (rw code (record { is = sym (c.pass_attribute.ensures before is) })))

pub returns : goal.returns
unfolding method_attribute_format
returns c =
    let a = c.args in
    let name = sym c.read_u2.ensures ∙ c.in-Some.is in
    let unnamed = sym c.is_name.ensures ∙ c.if-is_name.false in
    λ before is. told body_told (method_attribute_format (names_by a.file.now a.table.now) a.limit before) (number_bad name (nameless (names_by a.file.now a.table.now) c.in-Some.name unnamed before))
