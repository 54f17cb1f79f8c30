-- `classfile::read_head` meets its contract.
-- Assumes nothing.
use mathlib.Core.Path.{refl, ◌∙◌, sym}
use Rattle.format.specs.Items.{run_of}
use Rattle.format.proofs.Items.{told, number_cut, number_right, then_done}
use Rattle.classformat.specs.ClassFile.{head_format}
use Rattle.classfile.proofs.read_head.Goals as goal

pub returns-in_default : goal.returns-in_default
unfolding head_format
returns-in_default c =
    let a = c.args in
    told run_of (head_format a.limit) (number_cut (sym c.read_u2.ensures ∙ c.in_default.is))

pub returns-in_default-read_u2 : goal.returns-in_default-read_u2
unfolding head_format
returns-in_default-read_u2 c =
    let a = c.args in
    let flags = sym c.read_u2.ensures ∙ c.in-Some.is in
    told run_of (head_format a.limit) (number_right flags refl (number_cut (sym c.read_u2-2.ensures ∙ c.in_default-read_u2.is)))

pub returns-in_default-read_u2-2 : goal.returns-in_default-read_u2-2
unfolding head_format
returns-in_default-read_u2-2 c =
    let a = c.args in
    let flags = sym c.read_u2.ensures ∙ c.in-Some.is in
    let this = sym c.read_u2-2.ensures ∙ c.in-Some-read_u2.is in
    told run_of (head_format a.limit) (number_right flags refl (number_right this refl (number_cut (sym c.read_u2-3.ensures ∙ c.in_default-read_u2-2.is))))

pub returns-in_default-read_u2-3 : goal.returns-in_default-read_u2-3
unfolding head_format
returns-in_default-read_u2-3 c =
    let a = c.args in
    let flags = sym c.read_u2.ensures ∙ c.in-Some.is in
    let this = sym c.read_u2-2.ensures ∙ c.in-Some-read_u2.is in
    let super = sym c.read_u2-3.ensures ∙ c.in-Some-read_u2-2.is in
    told run_of (head_format a.limit) (number_right flags refl (number_right this refl (number_right super refl (number_cut (sym c.read_u2-4.ensures ∙ c.in_default-read_u2-3.is)))))

pub returns : goal.returns
unfolding head_format
returns c =
    let a = c.args in
    let flags = sym c.read_u2.ensures ∙ c.in-Some.is in
    let this = sym c.read_u2-2.ensures ∙ c.in-Some-read_u2.is in
    let super = sym c.read_u2-3.ensures ∙ c.in-Some-read_u2-2.is in
    let count = sym c.read_u2-4.ensures ∙ c.in-Some-read_u2-3.is in
    c.read_interfaces.ensures
    ∙ told run_of (head_format a.limit) (number_right flags refl (number_right this refl (number_right super refl (number_right count refl (then_done _ _)))))
