-- `block::walk_block` meets its contract. The loop's invariant: the walk from here on is the walk from the leader.
-- Assumes nothing.
use Prim.Native.Nat.{◌+◌, ◌^◌, ◌<◌}
use native.Mathlib.Omega.{arith}
use lib.ListN.{length}
use Rattle.basics.specs.Bytes.{AreBytes}
use Rattle.effects.specs.Rows.{rows_of}
use Rattle.effects.proofs.Rows.{model_sized}
use Rattle.block.proofs.Looping as looping
use Rattle.block.proofs.walk_block.Goals as goal
use Rattle.block.proofs.walk_block.Goals.{After-step_at}

pub loop-pc-init : goal.loop-pc-init
loop-pc-init c =
    let a = c.args in
    looping.starts (rows_of a.model) a.code.now a.members.now a.count a.leader a.fault (length a.stack.now) _
    c.clear.ensures

pub step_at-requires : goal.step_at-requires
step_at-requires c =
    record {
      fixed_lengths = c.fixed_lengths-lengths.ensures;
      indexed = c.requires;
      clean = c.loop-pc.invariant.1;
      pc_lt_fault = c.loop-pc-test.true;
    }

-- each instruction has a byte before the fault, so the count is small
counted : (c : After-step_at) → c.loop-pc.completed + 1 < 2 ^ 64
counted c =
    let at = c.loop-pc in
    omega (arith, at.invariant.2.1, at.invariant.2.2, c.loop-pc-test.true, c.ranges.fault)

pub give_up-requires : goal.give_up-requires
give_up-requires c =
    let at = c.loop-pc in
    let a = c.args in
    looping.clean_stopped (rows_of a.model) a.code.now a.members.now a.count a.leader a.fault a.stack.now _
    c.clear.ensures at.stack at.pc at.height at.completed at.invariant _
    (rw c.in-Err-Stops.field-0-is at c.in-Err-Stops.ensures)

pub returns-in-Err-Stops : goal.returns-in-Err-Stops
returns-in-Err-Stops c =
    let at = c.loop-pc in
    let a = c.args in
    rw c.give_up.ensures.answers
    (looping.walks a.model _ _ _ _ _ _ _ _
    (looping.ends_stopped (rows_of a.model) a.code.now a.members.now a.count a.leader a.fault a.stack.now _
    c.clear.ensures at.stack at.pc at.height at.completed at.invariant _ _
    c.give_up.ensures.leaves c.loop-pc-test.true
    (rw c.in-Err-Stops.field-0-is at c.in-Err-Stops.ensures)))

pub give_up-requires-in-Err-Lacks : goal.give_up-requires-in-Err-Lacks
give_up-requires-in-Err-Lacks c =
    let at = c.loop-pc in
    let a = c.args in
    looping.clean_lacked (rows_of a.model) a.code.now a.members.now a.count a.leader a.fault a.stack.now _
    c.clear.ensures at.stack at.pc at.height at.completed at.invariant _
    (rw c.in-Err-Lacks.field-0-is at c.in-Err-Lacks.ensures)

pub returns-in-Err-Lacks : goal.returns-in-Err-Lacks
returns-in-Err-Lacks c =
    let at = c.loop-pc in
    let a = c.args in
    rw c.give_up-in-Err-Lacks.ensures.answers
    (looping.walks a.model _ _ _ _ _ _ _ _
    (looping.ends_lacked (rows_of a.model) a.code.now a.members.now a.count a.leader a.fault a.stack.now _
    c.clear.ensures at.stack at.pc at.height at.completed at.invariant _ _
    c.give_up-in-Err-Lacks.ensures.leaves c.loop-pc-test.true
    (rw c.in-Err-Lacks.field-0-is at c.in-Err-Lacks.ensures)))

pub overflow_add-result : goal.overflow_add-result
overflow_add-result c = omega (arith, counted (goal.at.overflow_add-result c).After-step_at)

pub returns-in-Err-Passes : goal.returns-in-Err-Passes
returns-in-Err-Passes c =
    let at = c.loop-pc in
    let a = c.args in
    looping.walks a.model _ _ _ _ _ _ _ _
    (looping.ends_passed (rows_of a.model) a.code.now a.members.now a.count a.leader a.fault a.stack.now _
    c.clear.ensures at.stack at.pc at.height at.completed at.invariant _ _
    c.clear-in-Err-Passes.ensures c.loop-pc-test.true (omega arith)
    (rw c.in-Err-Passes.field-0-is at c.in-Err-Passes.ensures))

pub overflow_add-completed : goal.overflow_add-completed
overflow_add-completed c = omega (arith, counted (goal.at.overflow_add-completed c).After-step_at)

pub loop-pc-smaller : goal.loop-pc-smaller
loop-pc-smaller c =
    let at = c.loop-pc in
    let a = c.args in
    let bytes : AreBytes a.code.now = λ i. (c.type_inv.code i).fits in
    let on = looping.up (rows_of a.model) a.code.now a.members.now a.count a.leader a.fault (length c.clear.new.stack)
    at.stack at.pc at.height at.completed at.invariant (model_sized a.model) bytes c.loop-pc-test.true _ _ _
    (rw c.in-Ok.is at c.step_at.ensures) in
    omega (arith, on, c.loop-pc-test.true)

pub loop-pc-preserved : goal.loop-pc-preserved
loop-pc-preserved c =
    let at = c.loop-pc in
    let a = c.args in
    let bytes : AreBytes a.code.now = λ i. (c.type_inv.code i).fits in
    looping.again (rows_of a.model) a.code.now a.members.now a.count a.leader a.fault (length c.clear.new.stack)
    at.stack at.pc at.height at.completed at.invariant (model_sized a.model) bytes c.loop-pc-test.true _ _ _
    (rw c.in-Ok.is at c.step_at.ensures)

pub returns-then-pc-fault : goal.returns-then-pc-fault
returns-then-pc-fault c =
    let at = c.loop-pc in
    let a = c.args in
    looping.walks a.model _ _ _ _ _ _ _ _
    (looping.ends_done (rows_of a.model) a.code.now a.members.now a.count a.leader a.fault a.stack.now _
    c.clear.ensures at.stack at.pc at.height at.completed at.invariant c.if-pc-fault.true)

pub give_up-requires-2 : goal.give_up-requires-2
give_up-requires-2 c = c.loop-pc.invariant.1

pub returns : goal.returns
returns c =
    let at = c.loop-pc in
    let a = c.args in
    rw c.give_up-2.ensures.answers
    (looping.walks a.model _ _ _ _ _ _ _ _
    (looping.ends_past (rows_of a.model) a.code.now a.members.now a.count a.leader a.fault a.stack.now _
    c.clear.ensures at.stack at.pc at.height at.completed at.invariant
    c.loop-pc-test.false c.if-pc-fault.false _ c.give_up-2.ensures.leaves))
