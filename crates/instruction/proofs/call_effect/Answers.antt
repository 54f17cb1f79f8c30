-- `instruction::call_effect` meets its contract. The ways in which it fails, then the slots that the descriptor gives.
-- Assumes nothing.
use Rattle.std.specs.Prelude.{Some}
use Prim.Native.Nat.{ℕ}
use native.Mathlib.Omega.{arith}
use mathlib.Core.Path.{◌∙◌, ap, sym}
use mathlib.Core.List.{List}
use Rattle.descriptor.specs.Readers.{parameters, slots_behind}
use Rattle.instruction.proofs.Effects as laws
use Rattle.descriptor.proofs.Few.{few_slots}
use Rattle.instruction.proofs.call_effect.Goals as goal

pub returns-then-texts-eq0 : goal.returns-then-texts-eq0
returns-then-texts-eq0 c =
    let a = c.args in
    laws.call_none a.code.now a.pc a.members.now a.count a.table.now a.takes _
    c.cited_texts-texts.ensures c.if-texts-eq0.true

pub returns-in_err-params : goal.returns-in_err-params
returns-in_err-params c =
    let a = c.args in
    rw c.from_residual.ensures
    (laws.call_unread a.code.now a.pc a.members.now a.count a.table.now a.takes _
    c.cited_texts-texts.ensures c.if-texts-eq0.false
    (ap parameters (sym c.descriptor_of-signature.ensures) ∙ sym c.in_err-params.ensures))

pub returns-in_err-gives : goal.returns-in_err-gives
returns-in_err-gives c =
    let a = c.args in
    rw c.from_residual-in_err-gives.ensures
    (laws.call_endless a.code.now a.pc a.members.now a.count a.table.now a.takes _
    c.cited_texts-texts.ensures c.if-texts-eq0.false _
    (ap parameters (sym c.descriptor_of-signature.ensures) ∙ sym c.in_ok-params.ensures)
    (ap (λ (d : List ℕ). slots_behind d (Some c.in_ok-params.params.end)) (sym c.descriptor_of-signature.ensures)
    ∙ sym c.in_err-gives.ensures))

-- a descriptor has few slots, and a row takes one at most
pub overflow_add-result : goal.overflow_add-result
overflow_add-result c =
    let few = few_slots _ _ (sym c.in_ok-params.ensures) in
    omega (arith, few, c.descriptor_of-signature.type_inv, c.requires)

pub returns : goal.returns
returns c =
    let a = c.args in
    laws.called a.code.now a.pc a.members.now a.count a.table.now a.takes _
    c.cited_texts-texts.ensures c.if-texts-eq0.false _ _
    (ap parameters (sym c.descriptor_of-signature.ensures) ∙ sym c.in_ok-params.ensures)
    (ap (λ (d : List ℕ). slots_behind d (Some c.in_ok-params.params.end)) (sym c.descriptor_of-signature.ensures)
    ∙ sym c.in_ok-gives.ensures)
