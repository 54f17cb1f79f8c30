-- `bodies::read_handler` meets its contract.
-- Assumes nothing.
use mathlib.Core.Path.{refl, ◌∙◌, sym}
use Rattle.format.specs.Items.{run_of}
use Rattle.format.proofs.Items.{told, number_cut, number_right, all_done}
use Rattle.classformat.specs.ClassFile.{handler_format}
use Rattle.bodies.proofs.read_handler.Goals as goal

pub returns-in_default : goal.returns-in_default
unfolding handler_format
returns-in_default c =
    let a = c.args in
    told run_of (handler_format a.limit) (number_cut (sym c.read_u2.ensures ∙ c.in_default.is))

pub returns-in_default-read_u2 : goal.returns-in_default-read_u2
unfolding handler_format
returns-in_default-read_u2 c =
    let a = c.args in
    let from = sym c.read_u2.ensures ∙ c.in-Some.is in
    told run_of (handler_format a.limit) (number_right from refl (number_cut (sym c.read_u2-2.ensures ∙ c.in_default-read_u2.is)))

pub returns-in_default-read_u2-2 : goal.returns-in_default-read_u2-2
unfolding handler_format
returns-in_default-read_u2-2 c =
    let a = c.args in
    let from = sym c.read_u2.ensures ∙ c.in-Some.is in
    let to = sym c.read_u2-2.ensures ∙ c.in-Some-read_u2.is in
    told run_of (handler_format a.limit) (number_right from refl (number_right to refl (number_cut (sym c.read_u2-3.ensures ∙ c.in_default-read_u2-2.is))))

pub returns-in_default-read_u2-3 : goal.returns-in_default-read_u2-3
unfolding handler_format
returns-in_default-read_u2-3 c =
    let a = c.args in
    let from = sym c.read_u2.ensures ∙ c.in-Some.is in
    let to = sym c.read_u2-2.ensures ∙ c.in-Some-read_u2.is in
    let handler = sym c.read_u2-3.ensures ∙ c.in-Some-read_u2-2.is in
    told run_of (handler_format a.limit) (number_right from refl (number_right to refl (number_right handler refl (number_cut (sym c.read_u2-4.ensures ∙ c.in_default-read_u2-3.is)))))

pub returns : goal.returns
unfolding handler_format
returns c =
    let a = c.args in
    let from = sym c.read_u2.ensures ∙ c.in-Some.is in
    let to = sym c.read_u2-2.ensures ∙ c.in-Some-read_u2.is in
    let handler = sym c.read_u2-3.ensures ∙ c.in-Some-read_u2-2.is in
    let caught = sym c.read_u2-4.ensures ∙ c.in-Some-read_u2-3.is in
    told run_of (handler_format a.limit) (number_right from refl (number_right to refl (number_right handler refl (number_right caught refl all_done))))
