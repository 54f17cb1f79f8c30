-- `methods::read_method` meets its contract.
-- Assumes nothing.
use Rattle.std.specs.Prelude.{Ok, Option}
use mathlib.Core.Path.{refl, ◌∙◌, sym, ap}
use Rattle.format.specs.Format.{each, read_by}
use Rattle.format.proofs.Items.{passed_on, told, pair_read, number_cut, number_bad, number_right, then-read, then_wrong, all_done}
use Rattle.classformat.specs.Contents.{bodiless}
use Rattle.classformat.specs.ClassFile.{method_attribute_format, method_format}
use Rattle.entries.specs.Entries.{names_by}
use Rattle.bodies.specs.declared.CodePlace.{CodePlace}
use Rattle.methods.specs.Method.{method_told}
use Rattle.methods.specs.declared.MethodPlace.{MethodPlace}
use Rattle.methods.proofs.read_method.Goals as goal

pub returns-in_default : goal.returns-in_default
unfolding method_format
returns-in_default c =
    let a = c.args in
    told method_told (method_format (names_by a.file.now a.table.now) a.limit) (number_cut (sym c.read_u2.ensures ∙ c.in_default.is))

pub returns-in_default-read_u2 : goal.returns-in_default-read_u2
unfolding method_format
returns-in_default-read_u2 c =
    let a = c.args in
    let flags = sym c.read_u2.ensures ∙ c.in-Some.is in
    told method_told (method_format (names_by a.file.now a.table.now) a.limit) (number_right flags refl (number_cut (sym c.read_u2-2.ensures ∙ c.in_default-read_u2.is)))

pub returns-in_default-read_u2-2 : goal.returns-in_default-read_u2-2
unfolding method_format
returns-in_default-read_u2-2 c =
    let a = c.args in
    let flags = sym c.read_u2.ensures ∙ c.in-Some.is in
    let name = sym c.read_u2-2.ensures ∙ c.in-Some-read_u2.is in
    let named = sym c.is_name.ensures ∙ c.if-is_name.true in
    told method_told (method_format (names_by a.file.now a.table.now) a.limit) (number_right flags refl (number_right name named (number_cut (sym c.read_u2-then-is_name.ensures ∙ c.in_default-read_u2-2.is))))

pub returns-in_default-read_u2-3 : goal.returns-in_default-read_u2-3
unfolding method_format
returns-in_default-read_u2-3 c =
    let a = c.args in
    let flags = sym c.read_u2.ensures ∙ c.in-Some.is in
    let name = sym c.read_u2-2.ensures ∙ c.in-Some-read_u2.is in
    let named = sym c.is_name.ensures ∙ c.if-is_name.true in
    let descriptor = sym c.read_u2-then-is_name.ensures ∙ c.in-Some-read_u2-2.is in
    let described = sym c.is_name-then-is_name.ensures ∙ c.if-is_name-2.true in
    told method_told (method_format (names_by a.file.now a.table.now) a.limit) (number_right flags refl (number_right name named (number_right descriptor described (number_cut (sym c.read_u2-then-is_name-2.ensures ∙ c.in_default-read_u2-3.is)))))

pub returns-then-is_name-2 : goal.returns-then-is_name-2
unfolding method_format
returns-then-is_name-2 c =
    let a = c.args in
    let flags = sym c.read_u2.ensures ∙ c.in-Some.is in
    let name = sym c.read_u2-2.ensures ∙ c.in-Some-read_u2.is in
    let named = sym c.is_name.ensures ∙ c.if-is_name.true in
    let descriptor = sym c.read_u2-then-is_name.ensures ∙ c.in-Some-read_u2-2.is in
    let described = sym c.is_name-then-is_name.ensures ∙ c.if-is_name-2.true in
    let count = sym c.read_u2-then-is_name-2.ensures ∙ c.in-Some-read_u2-3.is in
    let read = pair_read _ (read_by (each c.in-Some-read_u2-3.count (method_attribute_format (names_by a.file.now a.table.now) a.limit) bodiless) a.file.now c.in-Some-read_u2-3.from) (sym c.read_method_attributes.ensures ∙ c.in_ok-body.was) in
    let place : Option CodePlace → MethodPlace = λ body. record { flags = c.in-Some.flags; name = c.in-Some-read_u2.name; descriptor = c.in-Some-read_u2-2.descriptor; body = body; next = c.in_ok-body.next } in
    ap (λ (body : Option CodePlace). Ok (place body)) (sym read.2)
    ∙ told method_told (method_format (names_by a.file.now a.table.now) a.limit) (number_right flags refl (number_right name named (number_right descriptor described (number_right count refl (then-read _ _ read.1 all_done)))))

pub returns-in_err-body : goal.returns-in_err-body
unfolding method_format
returns-in_err-body c =
    let a = c.args in
    let flags = sym c.read_u2.ensures ∙ c.in-Some.is in
    let name = sym c.read_u2-2.ensures ∙ c.in-Some-read_u2.is in
    let named = sym c.is_name.ensures ∙ c.if-is_name.true in
    let descriptor = sym c.read_u2-then-is_name.ensures ∙ c.in-Some-read_u2-2.is in
    let described = sym c.is_name-then-is_name.ensures ∙ c.if-is_name-2.true in
    let count = sym c.read_u2-then-is_name-2.ensures ∙ c.in-Some-read_u2-3.is in
    passed_on c.from_residual.ensures.1 ∙ told method_told (method_format (names_by a.file.now a.table.now) a.limit) (number_right flags refl (number_right name named (number_right descriptor described (number_right count refl (then_wrong _ _ _ (sym c.read_method_attributes.ensures ∙ c.in_err-body.was))))))

pub returns-then-is_name : goal.returns-then-is_name
unfolding method_format
returns-then-is_name c =
    let a = c.args in
    let flags = sym c.read_u2.ensures ∙ c.in-Some.is in
    let name = sym c.read_u2-2.ensures ∙ c.in-Some-read_u2.is in
    let named = sym c.is_name.ensures ∙ c.if-is_name.true in
    let descriptor = sym c.read_u2-then-is_name.ensures ∙ c.in-Some-read_u2-2.is in
    let described = sym c.is_name-then-is_name.ensures ∙ c.if-is_name-2.false in
    told method_told (method_format (names_by a.file.now a.table.now) a.limit) (number_right flags refl (number_right name named (number_bad descriptor described)))

pub returns : goal.returns
unfolding method_format
returns c =
    let a = c.args in
    let flags = sym c.read_u2.ensures ∙ c.in-Some.is in
    let name = sym c.read_u2-2.ensures ∙ c.in-Some-read_u2.is in
    let named = sym c.is_name.ensures ∙ c.if-is_name.false in
    told method_told (method_format (names_by a.file.now a.table.now) a.limit) (number_right flags refl (number_bad name named))
