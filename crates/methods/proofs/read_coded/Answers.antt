-- `methods::read_coded` meets its contract.
-- Assumes nothing.
use Rattle.std.specs.Prelude.{Ok, Some}
use mathlib.Core.Path.{◌∙◌, sym, ap}
use Rattle.format.specs.Format.{read_by}
use Rattle.format.proofs.Items.{passed_on, told, window_cut, window-right, pair_read, then-read, then_wrong, all_done}
use Rattle.classformat.specs.ClassFile.{code_format, coded_format}
use Rattle.entries.specs.Entries.{names_by}
use Rattle.bodies.specs.declared.CodePlace.{CodePlace}
use Rattle.methods.specs.Method.{body_told}
use Rattle.methods.proofs.read_coded.Goals as goal

pub returns-in_default : goal.returns-in_default
unfolding coded_format
returns-in_default c =
    let a = c.args in
    told body_told (coded_format (names_by a.file.now a.table.now) a.limit) (window_cut (sym c.read_window.ensures ∙ c.in_default.is))

pub returns : goal.returns
unfolding coded_format
returns c =
    let a = c.args in
    let read = pair_read _ (read_by (code_format (names_by a.file.now a.table.now) c.in-Some.stop) a.file.now c.in-Some.start) (sym c.read_code.ensures ∙ c.in_ok-code.was) in
    ap (λ (place : CodePlace). Ok (Some place, c.in_ok-code.next)) (sym read.2)
    ∙ told body_told (coded_format (names_by a.file.now a.table.now) a.limit) (window-right (sym c.read_window.ensures ∙ c.in-Some.is) (then-read _ _ read.1 all_done))

pub returns-in_err-code : goal.returns-in_err-code
unfolding coded_format
returns-in_err-code c =
    let a = c.args in
    passed_on c.from_residual.ensures.1
    ∙ told body_told (coded_format (names_by a.file.now a.table.now) a.limit) (window-right (sym c.read_window.ensures ∙ c.in-Some.is) (then_wrong _ _ _ (sym c.read_code.ensures ∙ c.in_err-code.was)))
