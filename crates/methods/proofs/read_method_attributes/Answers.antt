-- `methods::read_method_attributes` meets its contract. The invariant: what is left answers, behind the code that was found, what all of it
-- answers.
-- Assumes nothing.
use Rattle.std.specs.Prelude.{Ok, Option}
use Prim.Native.Nat.{◌+◌, ◌-◌}
use native.Mathlib.Omega.{arith}
use mathlib.Core.Path.{◌≡◌, refl, ◌∙◌, sym, ap}
use Rattle.format.specs.Format.{each, read_by}
use Rattle.format.proofs.Items.{passed_on, told, pair_read, each_wrong, each_read, each_none}
use Rattle.classformat.specs.Contents.{bodiless}
use Rattle.classformat.specs.ClassFile.{method_attribute_format}
use Rattle.entries.specs.Entries.{names_by}
use Rattle.bodies.specs.declared.CodePlace.{CodePlace}
use Rattle.methods.specs.Method.{body_told}
use Rattle.methods.proofs.read_method_attributes.Goals as goal

pub loop-init : goal.loop-init
loop-init c = let all : c.args.count - 0 ≡ c.args.count = omega arith in (bodiless, refl, rw all)

pub returns-in_err-found : goal.returns-in_err-found
returns-in_err-found c =
    let a = c.args in
    let l = c.loop in
    let one = method_attribute_format (names_by a.file.now a.table.now) a.limit in
    let before = l.invariant.0 in
    let wrong-is = sym (c.read_method_attribute.ensures before l.invariant.1) ∙ c.in_err-found.was in
    passed_on c.from_residual.ensures.1 ∙ told body_told (each (a.count - l.counter) one before) (each_wrong one before _ (a.count - l.counter) (omega arith) wrong-is) ∙ sym l.invariant.2

pub loop-preserved : goal.loop-preserved
loop-preserved c =
    let a = c.args in
    let l = c.loop in
    let one = method_attribute_format (names_by a.file.now a.table.now) a.limit in
    let before = l.invariant.0 in
    let read = pair_read _ (read_by (one before) a.file.now l.at) (sym (c.read_method_attribute.ensures before l.invariant.1) ∙ c.in_ok-found.was) in
    let turn = told body_told (each (a.count - l.counter) one before) (each_read one before (a.count - l.counter) (a.count - (l.counter + 1)) (omega arith) read.1 (record { is = refl })) in
    (read.0, read.2, l.invariant.2 ∙ sym turn)

pub returns : goal.returns
returns c =
    let a = c.args in
    let l = c.loop in
    let one = method_attribute_format (names_by a.file.now a.table.now) a.limit in
    ap (λ (place : Option CodePlace). Ok (place, l.at)) (sym l.invariant.1)
    ∙ told body_told (each (a.count - l.counter) one l.invariant.0) (each_none one l.invariant.0 (a.count - l.counter) (omega arith)) ∙ sym l.invariant.2
