-- `bodies::read_local` meets its contract.
-- Assumes nothing.
use mathlib.Core.Path.{refl, ◌∙◌, sym}
use Rattle.format.proofs.Items.{told, number_cut, number_bad, number_right, all_done}
use Rattle.classformat.specs.ClassFile.{local_format}
use Rattle.entries.specs.Entries.{names_by}
use Rattle.bodies.specs.Body.{record_told}
use Rattle.bodies.proofs.read_local.Goals as goal

pub returns-in_default : goal.returns-in_default
unfolding local_format
returns-in_default c =
    let a = c.args in
    told record_told (local_format (names_by a.file.now a.table.now) a.limit) (number_cut (sym c.read_u2.ensures ∙ c.in_default.is))

pub returns-in_default-read_u2 : goal.returns-in_default-read_u2
unfolding local_format
returns-in_default-read_u2 c =
    let a = c.args in
    let start = sym c.read_u2.ensures ∙ c.in-Some.is in
    told record_told (local_format (names_by a.file.now a.table.now) a.limit) (number_right start refl (number_cut (sym c.read_u2-2.ensures ∙ c.in_default-read_u2.is)))

pub returns-in_default-read_u2-2 : goal.returns-in_default-read_u2-2
unfolding local_format
returns-in_default-read_u2-2 c =
    let a = c.args in
    let start = sym c.read_u2.ensures ∙ c.in-Some.is in
    let size = sym c.read_u2-2.ensures ∙ c.in-Some-read_u2.is in
    told record_told (local_format (names_by a.file.now a.table.now) a.limit) (number_right start refl (number_right size refl (number_cut (sym c.read_u2-3.ensures ∙ c.in_default-read_u2-2.is))))

pub returns-in_default-read_u2-3 : goal.returns-in_default-read_u2-3
unfolding local_format
returns-in_default-read_u2-3 c =
    let a = c.args in
    let start = sym c.read_u2.ensures ∙ c.in-Some.is in
    let size = sym c.read_u2-2.ensures ∙ c.in-Some-read_u2.is in
    let name = sym c.read_u2-3.ensures ∙ c.in-Some-read_u2-2.is in
    let named = sym c.is_name.ensures ∙ c.if-is_name.true in
    told record_told (local_format (names_by a.file.now a.table.now) a.limit) (number_right start refl (number_right size refl (number_right name named (number_cut (sym c.read_u2-then-is_name.ensures ∙ c.in_default-read_u2-3.is)))))

pub returns-in_default-read_u2-4 : goal.returns-in_default-read_u2-4
unfolding local_format
returns-in_default-read_u2-4 c =
    let a = c.args in
    let start = sym c.read_u2.ensures ∙ c.in-Some.is in
    let size = sym c.read_u2-2.ensures ∙ c.in-Some-read_u2.is in
    let name = sym c.read_u2-3.ensures ∙ c.in-Some-read_u2-2.is in
    let descriptor = sym c.read_u2-then-is_name.ensures ∙ c.in-Some-read_u2-3.is in
    let named = sym c.is_name.ensures ∙ c.if-is_name.true in
    told record_told (local_format (names_by a.file.now a.table.now) a.limit) (number_right start refl (number_right size refl (number_right name named (number_right descriptor refl (number_cut (sym c.read_u2-then-is_name-2.ensures ∙ c.in_default-read_u2-4.is))))))

pub returns-then-is_name : goal.returns-then-is_name
unfolding local_format
returns-then-is_name c =
    let a = c.args in
    let start = sym c.read_u2.ensures ∙ c.in-Some.is in
    let size = sym c.read_u2-2.ensures ∙ c.in-Some-read_u2.is in
    let name = sym c.read_u2-3.ensures ∙ c.in-Some-read_u2-2.is in
    let descriptor = sym c.read_u2-then-is_name.ensures ∙ c.in-Some-read_u2-3.is in
    let slot = sym c.read_u2-then-is_name-2.ensures ∙ c.in-Some-read_u2-4.is in
    let named = sym c.is_name.ensures ∙ c.if-is_name.true in
    told record_told (local_format (names_by a.file.now a.table.now) a.limit) (number_right start refl (number_right size refl (number_right name named (number_right descriptor refl (number_right slot refl all_done)))))

pub returns : goal.returns
unfolding local_format
returns c =
    let a = c.args in
    let start = sym c.read_u2.ensures ∙ c.in-Some.is in
    let size = sym c.read_u2-2.ensures ∙ c.in-Some-read_u2.is in
    let name = sym c.read_u2-3.ensures ∙ c.in-Some-read_u2-2.is in
    let unnamed = sym c.is_name.ensures ∙ c.if-is_name.false in
    told record_told (local_format (names_by a.file.now a.table.now) a.limit) (number_right start refl (number_right size refl (number_bad name unnamed)))
