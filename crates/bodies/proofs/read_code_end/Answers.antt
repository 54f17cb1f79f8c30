-- `bodies::read_code_end` meets its contract.
-- Assumes nothing.
use Rattle.std.specs.Prelude.{Ok}
use mathlib.Core.Path.{refl, ◌∙◌, sym}
use Rattle.format.specs.Format.{full, done, times}
use Rattle.format.specs.Items.{run_of}
use Rattle.format.proofs.Items.{passed_on, told, number_cut, number_right, then_right, then_wrong, all_read, more_there, all_done}
use Rattle.classformat.specs.ClassFile.{joined, code_attribute_format, code_end_format}
use Rattle.entries.specs.Entries.{names_by}
use Rattle.bodies.proofs.read_code_end.Goals as goal

pub returns-in_default : goal.returns-in_default
unfolding code_end_format
returns-in_default c =
    let a = c.args in
    told run_of (code_end_format (names_by a.file.now a.table.now) a.limit) (number_cut (sym c.read_u2.ensures ∙ c.in_default.is))

pub returns-then-next-limit : goal.returns-then-next-limit
unfolding code_end_format
returns-then-next-limit c =
    let a = c.args in
    let count = sym c.read_u2.ensures ∙ c.in-Some.is in
    told run_of (code_end_format (names_by a.file.now a.table.now) a.limit) (number_right count refl (then_right (times c.in-Some.count (code_attribute_format (names_by a.file.now a.table.now) a.limit)) (λ tables. full a.limit (done (joined tables))) (sym c.read_code_attributes.ensures ∙ c.in_ok-next.was) (λ read. more_there c.if-next-limit.true)))

pub returns : goal.returns
unfolding code_end_format
returns c =
    let a = c.args in
    let count = sym c.read_u2.ensures ∙ c.in-Some.is in
    told run_of (code_end_format (names_by a.file.now a.table.now) a.limit) (number_right {answer = Ok c.in_ok-next.next} count refl (then_right (times c.in-Some.count (code_attribute_format (names_by a.file.now a.table.now) a.limit)) (λ tables. full a.limit (done (joined tables))) (sym c.read_code_attributes.ensures ∙ c.in_ok-next.was) (λ read. all_read c.if-next-limit.false all_done)))

pub returns-in_err-next : goal.returns-in_err-next
unfolding code_end_format
returns-in_err-next c =
    let a = c.args in
    let count = sym c.read_u2.ensures ∙ c.in-Some.is in
    passed_on c.from_residual.ensures.1 ∙ told run_of (code_end_format (names_by a.file.now a.table.now) a.limit) (number_right count refl (then_wrong (times c.in-Some.count (code_attribute_format (names_by a.file.now a.table.now) a.limit)) (λ tables. full a.limit (done (joined tables))) _ (sym c.read_code_attributes.ensures ∙ c.in_err-next.was)))
