-- `leader::switch_targets` meets its contract. The default, then the entries.
-- Assumes nothing.
use Prim.Native.Nat.{◌+◌, ◌^◌}
use native.Mathlib.Omega.{arith}
use Rattle.leader.proofs.Greatest.{whole_switch, aimed_at}
use Rattle.leader.proofs.switch_targets.Goals as goal

pub returns : goal.returns
returns c =
    let a = c.args in
    whole_switch a.code.now a.pc a.step a.count a.fault a.best (a.pc + 1 + c.pad.result)
    c.aim-top.result c.entry_targets.result (omega arith)
    (aimed_at a.fault a.best (2 ^ 31) a.pc _ _ _ c.aim-top.ensures c.read_i32.ensures.0)
    c.entry_targets.ensures
