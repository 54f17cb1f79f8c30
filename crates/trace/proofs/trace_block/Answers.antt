-- `trace::trace_block` meets its contract. By the walk's answer; its slots stand in the cells that it leaves.
-- Assumes nothing.
use Prim.Native.Nat.{ℕ, ◌≤◌}
use native.Mathlib.Omega.{arith}
use mathlib.Core.Path.{◌≡◌, sym, ◌∙◌}
use lib.ListN.{length}
use lib.Seq.{length-take-le}
use Rattle.walk.specs.Room.{block_walk_in}
use Rattle.trace.proofs.Tracing as tracing
use Rattle.trace.proofs.trace_block.Goals as goal
use Rattle.trace.proofs.trace_block.Goals.{In-Done}

-- the height of a walk that is done lies in the cells that it leaves
reached : (c : In-Done) → c.in-Done.height ≤ length c.simulate_block_in.new.stack
reached c =
    let a = c.args in
    let room : ℕ = length a.stack.now in
    let walked = block_walk_in a.model a.code.now a.members.now a.count a.leader a.fault room in
    let done =
    tracing.finished a.scan a.depth room walked _ _
    (sym c.in-Done.is ∙ c.simulate_block_in.ensures.answers) in
    tracing.reaches a.scan a.depth room walked _ _ done _ c.simulate_block_in.ensures.leaves

pub slot_from-cause-requires : goal.slot_from-cause-requires
slot_from-cause-requires c = reached (goal.at.slot_from-cause-requires c).In-Done

pub slice_bounds-clear-end : goal.slice_bounds-clear-end
slice_bounds-clear-end c = reached (goal.at.slice_bounds-clear-end c).In-Done

pub slice_bounds-clear-end-in-Done : goal.slice_bounds-clear-end-in-Done
slice_bounds-clear-end-in-Done c = sym (length-take-le _ _ (reached (goal.at.slice_bounds-clear-end-in-Done c).In-Done))

pub returns-in-NoRoom : goal.returns-in-NoRoom
returns-in-NoRoom c =
    let a = c.args in
    let room : ℕ = length a.stack.now in
    let walked = block_walk_in a.model a.code.now a.members.now a.count a.leader a.fault room in
    let told =
    tracing.lacked a.scan a.depth room walked _ _
    (sym c.in-NoRoom.is ∙ c.simulate_block_in.ensures.answers) in record { answers = told.0; leaves = told.1 c.simulate_block_in.ensures.leaves }

pub returns-in-Failed : goal.returns-in-Failed
returns-in-Failed c =
    let a = c.args in
    let room : ℕ = length a.stack.now in
    let walked = block_walk_in a.model a.code.now a.members.now a.count a.leader a.fault room in
    let told =
    tracing.failing a.scan a.depth room walked _ _
    (sym c.in-Failed.is ∙ c.simulate_block_in.ensures.answers) in record { answers = told.0; leaves = told.1 c.simulate_block_in.ensures.leaves }

pub returns-in-Done : goal.returns-in-Done
returns-in-Done c =
    let a = c.args in
    let room : ℕ = length a.stack.now in
    let walked = block_walk_in a.model a.code.now a.members.now a.count a.leader a.fault room in
    let done =
    tracing.finished a.scan a.depth room walked _ _
    (sym c.in-Done.is ∙ c.simulate_block_in.ensures.answers) in
    let size : length c.simulate_block_in.new.stack ≡ room = omega arith in record {
      answers = tracing.traces a.scan a.depth room walked _ _ done _ c.simulate_block_in.ensures.leaves _
          c.slot_from-cause.ensures;
      leaves = tracing.emptied a.scan a.depth room walked _ _ done _ c.simulate_block_in.ensures.leaves size _
          c.clear.ensures;
    }
