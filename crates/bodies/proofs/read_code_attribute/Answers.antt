-- `bodies::read_code_attribute` meets its contract.
-- Assumes nothing.
use mathlib.Core.Path.{◌∙◌, sym}
use mathlib.Core.List.{[]}
use Rattle.format.specs.Items.{run_of}
use Rattle.format.proofs.Items.{told, number_cut, number_bad, number_right, window_cut, window-right}
use Rattle.classformat.specs.ClassFile.{code_attribute_format}
use Rattle.entries.specs.Entries.{names_by}
use Rattle.attributes.proofs.Passing.{passing}
use Rattle.bodies.proofs.read_code_attribute.Goals as goal

pub returns-in_default : goal.returns-in_default
unfolding code_attribute_format
returns-in_default c =
    let a = c.args in
    told run_of (code_attribute_format (names_by a.file.now a.table.now) a.limit) (number_cut (sym c.read_u2.ensures ∙ c.in_default.is))

pub returns-in_default-read_window : goal.returns-in_default-read_window
unfolding code_attribute_format
returns-in_default-read_window c =
    let a = c.args in
    let name = sym c.read_u2.ensures ∙ c.in-Some.is in
    let named = sym c.is_name.ensures ∙ c.if-is_name.true in
    let table = sym c.is_named.ensures ∙ c.if-is_named.true in
    told run_of (code_attribute_format (names_by a.file.now a.table.now) a.limit) (number_right name named (rw table (window_cut (sym c.read_window.ensures ∙ c.in_default-read_window.is))))

pub returns-then-is_named : goal.returns-then-is_named
unfolding code_attribute_format
returns-then-is_named c =
    let a = c.args in
    let name = sym c.read_u2.ensures ∙ c.in-Some.is in
    let named = sym c.is_name.ensures ∙ c.if-is_name.true in
    let table = sym c.is_named.ensures ∙ c.if-is_named.true in
    told run_of (code_attribute_format (names_by a.file.now a.table.now) a.limit)
    (number_right name named (rw table (window-right (sym c.read_window.ensures ∙ c.in-Some-read_window.is) (record { is = sym c.read_local_table.ensures }))))

pub returns-then-is_name : goal.returns-then-is_name
unfolding code_attribute_format
returns-then-is_name c =
    let a = c.args in
    let name = sym c.read_u2.ensures ∙ c.in-Some.is in
    let named = sym c.is_name.ensures ∙ c.if-is_name.true in
    let table = sym c.is_named.ensures ∙ c.if-is_named.false in
    told run_of (code_attribute_format (names_by a.file.now a.table.now) a.limit) (number_right name named (rw table (passing [] c.pass_over.ensures)))

pub returns : goal.returns
unfolding code_attribute_format
returns c =
    let a = c.args in
    let name = sym c.read_u2.ensures ∙ c.in-Some.is in
    let unnamed = sym c.is_name.ensures ∙ c.if-is_name.false in
    told run_of (code_attribute_format (names_by a.file.now a.table.now) a.limit) (number_bad name unnamed)
