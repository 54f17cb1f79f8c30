-- `methodlist::fill_methods` meets its contract. The invariant: what is still to be written over what stands gives the whole, and there is
-- room for it.
-- Assumes nothing.
use Prim.Native.Nat.{ℕ, ◌-◌, ◌+◌}
use native.Mathlib.Omega.{arith}
use mathlib.Core.Path.{◌≡◌, refl, ◌∙◌, sym, subst}
use lib.ListN.{length}
use Rattle.format.specs.Format.{times, right, read_by}
use Rattle.classformat.specs.ClassFile.{method_format}
use Rattle.entries.specs.Entries.{names_by}
use Rattle.localtables.proofs.Behind.{some_left, none_left}
use Rattle.methodlist.proofs.Filling.{told_inside, never_wrong, next_is, first_filled, nothing_more}
use Rattle.methodlist.proofs.fill_methods.Goals as goal

pub loop-init : goal.loop-init
loop-init c =
    let all : c.args.count - 0 ≡ c.args.count = omega arith in
    (omega (arith, c.requires), refl, λ methods end is. (methods, rw all is, refl))

pub shape_of-numbers-in_default : goal.shape_of-numbers-in_default
shape_of-numbers-in_default c = c.loop.invariant.1

pub returns-in_default : goal.returns-in_default
returns-in_default c =
    let a = c.args in
    let l = c.loop in
    let one = method_format (names_by a.file.now a.table.now) (length a.file.now) in
    λ methods end is.
    let f = some_left one a.file.now l.at (a.count - l.counter) (a.count - (l.counter + 1)) (omega arith) (l.invariant.2 methods end is).1 in
    never_wrong a.file.now a.table.now f (sym c.read_method.ensures ∙ c.in_default.is)

pub put_method-requires : goal.put_method-requires
put_method-requires c =
    let a = c.args in
    let l = c.loop in record { code_inside = told_inside a.file.now a.table.now l.at (sym c.read_method.ensures ∙ c.in-Ok.is); k_in_bounds = omega (arith, l.invariant.0) }

pub overflow_add-k : goal.overflow_add-k
overflow_add-k c =
    let l = c.loop in
    omega (arith, l.invariant.0, l.invariant.1)

pub loop-preserved : goal.loop-preserved
loop-preserved c =
    let a = c.args in
    let l = c.loop in
    let one = method_format (names_by a.file.now a.table.now) (length a.file.now) in
    let told = sym c.read_method.ensures ∙ c.in-Ok.is in
    let same = c.put_method.auto.numbers in (
      omega (arith, l.invariant.0, same),
      same ∙ l.invariant.1,
      λ methods end is.
          let now = l.invariant.2 methods end is in
          let f = some_left one a.file.now l.at (a.count - l.counter) (a.count - (l.counter + 1)) (omega arith) now.1 in (
            f.rest,
            subst (λ (n : ℕ). read_by (times (a.count - (l.counter + 1)) one) a.file.now n ≡ right f.rest end) (next_is a.file.now a.table.now f told) f.onward,
            now.2 ∙ first_filled a.file.now a.table.now f told l.k l.numbers _ (omega (arith, l.invariant.0)) c.put_method.ensures,
          ),
    )

pub shape_of-numbers : goal.shape_of-numbers
shape_of-numbers c = c.loop.invariant.1

pub returns : goal.returns
returns c =
    let a = c.args in
    let l = c.loop in
    let one = method_format (names_by a.file.now a.table.now) (length a.file.now) in
    λ methods end is.
    let now = l.invariant.2 methods end is in
    sym (now.2 ∙ nothing_more a.file.now a.table.now l.k l.numbers (none_left one a.file.now l.at (a.count - l.counter) (omega arith) now.1))
