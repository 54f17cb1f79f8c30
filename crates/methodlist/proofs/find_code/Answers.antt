-- `methodlist::find_code` meets its contract.
-- Assumes nothing.
use Prim.Native.Nat.{ℕ, ◌+◌, ◌≤◌}
use native.Mathlib.Omega.{arith}
use mathlib.Core.Path.{◌∙◌, sym, ap, subst}
use Rattle.methodlist.specs.List.{code_numbers, CodeInside}
use Rattle.methodlist.specs.declared.CodeNumbers.{CodeNumbers}
use Rattle.methodlist.proofs.find_code.Goals as goal

pub overflow_add-code : goal.overflow_add-code
overflow_add-code c =
    let code = c.in-Some.code in
    let inside : code.start + code.size ≤ code.stop =
    subst CodeInside c.in-Some.is c.requires in
    omega (arith, inside)

pub returns-in-None : goal.returns-in-None
returns-in-None c =
    let a = c.args in
    ap (code_numbers a.file.now a.table.now) (sym c.in-None.is)

pub returns-in-Some : goal.returns-in-Some
returns-in-Some c =
    let a = c.args in
    let code = c.in-Some.code in
    let counted : ℕ → CodeNumbers = λ n. record { start = code.start; size = code.size; records = n } in
    ap counted c.count_locals.ensures ∙ ap (code_numbers a.file.now a.table.now) (sym c.in-Some.is)
