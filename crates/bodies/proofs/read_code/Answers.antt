-- `bodies::read_code` meets its contract.
-- Assumes nothing.
use Rattle.std.specs.Prelude.{Ok}
use Rattle.bodies.specs.declared.CodePlace.{CodePlace}
use Prim.Native.Nat.{ℕ}
use mathlib.Core.Path.{refl, ◌∙◌, sym, ap}
use Rattle.basics.specs.Choice.{between}
use Rattle.format.proofs.Items.{passed_on, told, number_cut, number_right, text_cut, text_bad, text_right, then_right, then_wrong, all_done}
use Rattle.classformat.specs.ClassFile.{code_format}
use Rattle.entries.specs.Entries.{names_by}
use Rattle.bodies.specs.Body.{code_told}
use Rattle.bodies.proofs.read_code.Goals as goal

pub returns-in_default : goal.returns-in_default
unfolding code_format
returns-in_default c =
    let a = c.args in
    told code_told (code_format (names_by a.file.now a.table.now) a.limit) (number_cut (sym c.read_u2.ensures ∙ c.in_default.is))

pub returns-in_default-read_u2 : goal.returns-in_default-read_u2
unfolding code_format
returns-in_default-read_u2 c =
    let a = c.args in
    let max-stack = sym c.read_u2.ensures ∙ c.in-Some.is in
    told code_told (code_format (names_by a.file.now a.table.now) a.limit) (number_right max-stack refl (number_cut (sym c.read_u2-2.ensures ∙ c.in_default-read_u2.is)))

pub returns-in_default-read_window : goal.returns-in_default-read_window
unfolding code_format
returns-in_default-read_window c =
    let a = c.args in
    let max-stack = sym c.read_u2.ensures ∙ c.in-Some.is in
    let max-locals = sym c.read_u2-2.ensures ∙ c.in-Some-read_u2.is in
    told code_told (code_format (names_by a.file.now a.table.now) a.limit) (number_right max-stack refl (number_right max-locals refl (text_cut (sym c.read_window.ensures ∙ c.in_default-read_window.is))))

pub returns-then-is_code_length : goal.returns-then-is_code_length
unfolding code_format
returns-then-is_code_length c =
    let a = c.args in
    let max-stack = sym c.read_u2.ensures ∙ c.in-Some.is in
    let max-locals = sym c.read_u2-2.ensures ∙ c.in-Some-read_u2.is in
    let code = sym c.read_window.ensures ∙ c.in-Some-read_window.is in
    let fits = ap (λ (n : ℕ). between 1 65535 n) (sym c.saturating_sub-size.ensures) ∙ sym c.is_code_length.ensures ∙ c.if-is_code_length.true in
    let place : ℕ → CodePlace = λ n. record { start = c.in-Some-read_window.start; size = n; stop = a.limit } in
    ap (λ (n : ℕ). Ok (place n, c.in_ok-next.next)) c.saturating_sub-size.ensures
    ∙ told code_told (code_format (names_by a.file.now a.table.now) a.limit) (number_right max-stack refl (number_right max-locals refl (text_right code fits
    (then_right _ _ (sym c.read_tables.ensures ∙ c.in_ok-next.was) (λ tables. all_done)))))

pub returns-in_err-next : goal.returns-in_err-next
unfolding code_format
returns-in_err-next c =
    let a = c.args in
    let max-stack = sym c.read_u2.ensures ∙ c.in-Some.is in
    let max-locals = sym c.read_u2-2.ensures ∙ c.in-Some-read_u2.is in
    let code = sym c.read_window.ensures ∙ c.in-Some-read_window.is in
    let fits = ap (λ (n : ℕ). between 1 65535 n) (sym c.saturating_sub-size.ensures) ∙ sym c.is_code_length.ensures ∙ c.if-is_code_length.true in
    passed_on c.from_residual.ensures.1 ∙ told code_told (code_format (names_by a.file.now a.table.now) a.limit) (number_right max-stack refl (number_right max-locals refl (text_right code fits
    (then_wrong _ _ _ (sym c.read_tables.ensures ∙ c.in_err-next.was)))))

pub returns : goal.returns
unfolding code_format
returns c =
    let a = c.args in
    let max-stack = sym c.read_u2.ensures ∙ c.in-Some.is in
    let max-locals = sym c.read_u2-2.ensures ∙ c.in-Some-read_u2.is in
    let code = sym c.read_window.ensures ∙ c.in-Some-read_window.is in
    let fits = ap (λ (n : ℕ). between 1 65535 n) (sym c.saturating_sub-size.ensures) ∙ sym c.is_code_length.ensures ∙ c.if-is_code_length.false in
    told code_told (code_format (names_by a.file.now a.table.now) a.limit) (number_right max-stack refl (number_right max-locals refl (text_bad code fits)))
