-- `attributes::read_interfaces` meets its contract. The invariant: what is left answers what all of it answers.
-- Assumes nothing.
use Prim.Native.Nat.{◌+◌, ◌-◌}
use native.Mathlib.Omega.{arith}
use mathlib.Core.Path.{refl, ◌∙◌, sym}
use Rattle.format.specs.Items.{run_of}
use Rattle.format.proofs.Items.{told, number_cut, number_right, all_done, turn_wrong, turn_right, none_left}
use Rattle.classformat.specs.ClassFile.{interface_format}
use Rattle.attributes.proofs.read_interfaces.Goals as goal

pub returns-in_default : goal.returns-in_default
unfolding interface_format
returns-in_default c =
    let a = c.args in
    let l = c.loop in
    let one = interface_format a.limit in
    let cut = sym c.read_u2.ensures ∙ c.in_default.is in
    sym (l.invariant ∙ (turn_wrong one _ (a.count - l.counter) (omega arith) (sym (told run_of one (number_cut cut)))).is)

pub loop-preserved : goal.loop-preserved
unfolding interface_format
loop-preserved c =
    let a = c.args in
    let l = c.loop in
    let one = interface_format a.limit in
    let index = sym c.read_u2.ensures ∙ c.in-Some.is in
    l.invariant ∙ (turn_right one (a.count - l.counter) (a.count - (l.counter + 1)) (omega arith) (sym (told run_of one (number_right index refl all_done)))).is

pub returns : goal.returns
returns c =
    let a = c.args in
    let l = c.loop in
    let one = interface_format a.limit in
    sym (l.invariant ∙ (none_left one (a.count - l.counter) (omega arith)).is)
