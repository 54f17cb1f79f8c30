-- `methodlist::list_with` meets its contract. By what reading the class file tells.
-- Assumes nothing.
use native.Mathlib.Omega.{arith}
use mathlib.Core.Path.{◌∙◌, sym}
use Rattle.basics.specs.Bytes.{AreBytes}
use Rattle.methodlist.proofs.Answering.{few, too_small, fitting, turned_down}
use Rattle.methodlist.proofs.list_with.Goals as goal

pub overflow_mul-needed : goal.overflow_mul-needed
overflow_mul-needed c =
    let a = c.args in
    let are : AreBytes a.file.now = λ i. (c.type_inv.file i).fits in
    let told = sym (c.read_class.ensures.answers c.requires) ∙ c.in-Ok.is in
    omega (arith, few a.file.now a.numbers.now are told)

pub returns-then-numbers-needed : goal.returns-then-numbers-needed
returns-then-numbers-needed c =
    let a = c.args in
    let are : AreBytes a.file.now = λ i. (c.type_inv.file i).fits in
    let told = sym (c.read_class.ensures.answers c.requires) ∙ c.in-Ok.is in
    too_small a.file.now a.numbers.now are told c.if-numbers-needed.true

pub returns : goal.returns
returns c =
    let a = c.args in
    let are : AreBytes a.file.now = λ i. (c.type_inv.file i).fits in
    let told = sym (c.read_class.ensures.answers c.requires) ∙ c.in-Ok.is in
    fitting a.file.now a.numbers.now are told a.table.now c.read_class.new.table c.fill_methods.new.numbers c.requires c.read_class.ensures.keeps c.if-numbers-needed.false c.fill_methods.ensures

pub returns-in-Err : goal.returns-in-Err
returns-in-Err c =
    let a = c.args in
    turned_down a.file.now a.numbers.now (sym (c.read_class.ensures.answers c.requires) ∙ c.in-Err.is)
