-- `attributes::read_field` meets its contract.
-- Assumes nothing.
use mathlib.Core.Path.{refl, ◌∙◌, sym}
use Rattle.format.specs.Items.{run_of}
use Rattle.format.specs.Format.{times}
use Rattle.format.proofs.Items.{told, number_cut, number_right, then_done}
use Rattle.classformat.specs.ClassFile.{attribute_format, field_format}
use Rattle.entries.specs.Entries.{names_by}
use Rattle.attributes.proofs.read_field.Goals as goal

pub returns-in_default : goal.returns-in_default
unfolding field_format
returns-in_default c =
    let a = c.args in
    told run_of (field_format (names_by a.file.now a.table.now) a.limit) (number_cut (sym c.read_u2.ensures ∙ c.in_default.is))

pub returns-in_default-read_u2 : goal.returns-in_default-read_u2
unfolding field_format
returns-in_default-read_u2 c =
    let a = c.args in
    let flags = sym c.read_u2.ensures ∙ c.in-Some.is in
    told run_of (field_format (names_by a.file.now a.table.now) a.limit) (number_right flags refl (number_cut (sym c.read_u2-2.ensures ∙ c.in_default-read_u2.is)))

pub returns-in_default-read_u2-2 : goal.returns-in_default-read_u2-2
unfolding field_format
returns-in_default-read_u2-2 c =
    let a = c.args in
    let flags = sym c.read_u2.ensures ∙ c.in-Some.is in
    let name = sym c.read_u2-2.ensures ∙ c.in-Some-read_u2.is in
    told run_of (field_format (names_by a.file.now a.table.now) a.limit) (number_right flags refl (number_right name refl (number_cut (sym c.read_u2-3.ensures ∙ c.in_default-read_u2-2.is))))

pub returns-in_default-read_u2-3 : goal.returns-in_default-read_u2-3
unfolding field_format
returns-in_default-read_u2-3 c =
    let a = c.args in
    let flags = sym c.read_u2.ensures ∙ c.in-Some.is in
    let name = sym c.read_u2-2.ensures ∙ c.in-Some-read_u2.is in
    let descriptor = sym c.read_u2-3.ensures ∙ c.in-Some-read_u2-2.is in
    told run_of (field_format (names_by a.file.now a.table.now) a.limit) (number_right flags refl (number_right name refl (number_right descriptor refl (number_cut (sym c.read_u2-4.ensures ∙ c.in_default-read_u2-3.is)))))

pub returns : goal.returns
unfolding field_format
returns c =
    let a = c.args in
    let flags = sym c.read_u2.ensures ∙ c.in-Some.is in
    let name = sym c.read_u2-2.ensures ∙ c.in-Some-read_u2.is in
    let descriptor = sym c.read_u2-3.ensures ∙ c.in-Some-read_u2-2.is in
    let count = sym c.read_u2-4.ensures ∙ c.in-Some-read_u2-3.is in
    c.read_attributes.ensures
    ∙ told run_of (field_format (names_by a.file.now a.table.now) a.limit) (number_right flags refl (number_right name refl (number_right descriptor refl (number_right count refl
    (then_done (times c.in-Some-read_u2-3.count (attribute_format (names_by a.file.now a.table.now) a.limit)) (λ attributes. tt {0}))))))
