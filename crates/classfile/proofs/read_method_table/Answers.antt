-- `classfile::read_method_table` meets its contract.
-- Assumes nothing.
use Rattle.std.specs.Prelude.{Ok}
use Prim.Native.Nat.{ℕ}
use mathlib.Core.Path.{refl, ◌∙◌, sym, ap}
use Rattle.format.proofs.Items.{passed_on, told, number_cut, number_right, told_here, ended, then-read, then_right, then_wrong, all_done}
use Rattle.format.proofs.Was.{so_many}
use Rattle.classformat.specs.ClassFile.{method_format, methods_format}
use Rattle.entries.specs.Entries.{names_by}
use Rattle.format.specs.Format.{times, read_by}
use Rattle.classfile.specs.Class.{methods_told}
use Rattle.classfile.specs.declared.MethodsPlace.{MethodsPlace}
use Rattle.classfile.proofs.read_method_table.Goals as goal

pub returns-in_default : goal.returns-in_default
unfolding methods_format
returns-in_default c =
    let a = c.args in
    told methods_told (methods_format (names_by a.file.now a.table.now) a.limit) (number_cut (sym c.read_u2.ensures ∙ c.in_default.is))

pub returns : goal.returns
unfolding methods_format
returns c =
    let a = c.args in
    let count = sym c.read_u2.ensures ∙ c.in-Some.is in
    let read = ended (read_by (times c.in-Some.count (method_format (names_by a.file.now a.table.now) a.limit)) a.file.now c.in-Some.from) (sym c.read_methods.ensures ∙ c.in_ok-next.was) in
    let place : ℕ → MethodsPlace = λ n. record { from = c.in-Some.from; count = n } in
    ap (λ (n : ℕ). Ok (place n)) (sym (so_many (method_format (names_by a.file.now a.table.now) a.limit) c.in-Some.count a.file.now c.in-Some.from read.1))
    ∙ told methods_told (methods_format (names_by a.file.now a.table.now) a.limit) (number_right count refl (told_here (then-read _ _ read.1 (then_right _ _ (sym c.read_end.ensures ∙ c.in_ok-read_end.was) (λ end. all_done)))))

pub returns-in_err-read_end : goal.returns-in_err-read_end
unfolding methods_format
returns-in_err-read_end c =
    let a = c.args in
    let count = sym c.read_u2.ensures ∙ c.in-Some.is in
    let read = ended (read_by (times c.in-Some.count (method_format (names_by a.file.now a.table.now) a.limit)) a.file.now c.in-Some.from) (sym c.read_methods.ensures ∙ c.in_ok-next.was) in
    passed_on c.from_residual-in_err-read_end.ensures.1 ∙ told methods_told (methods_format (names_by a.file.now a.table.now) a.limit) (number_right count refl (told_here (then-read _ _ read.1 (then_wrong _ _ _ (sym c.read_end.ensures ∙ c.in_err-read_end.was)))))

pub returns-in_err-next : goal.returns-in_err-next
unfolding methods_format
returns-in_err-next c =
    let a = c.args in
    let count = sym c.read_u2.ensures ∙ c.in-Some.is in
    passed_on c.from_residual.ensures.1 ∙ told methods_told (methods_format (names_by a.file.now a.table.now) a.limit) (number_right count refl (told_here (then_wrong _ _ _ (sym c.read_methods.ensures ∙ c.in_err-next.was))))
