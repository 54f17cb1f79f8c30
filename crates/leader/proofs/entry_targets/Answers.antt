-- `leader::entry_targets` meets its contract. The loop's invariant: the maximum so far with the entries left is that of all entries.
-- Assumes nothing.
use Prim.Native.Nat.{ℕ, ◌+◌, ◌-◌, ◌*◌, ◌^◌}
use native.Mathlib.Omega.{arith}
use mathlib.Core.Path.{◌≡◌, ◌∙◌, ap}
use Rattle.leader.proofs.Greatest.{no_entries, one_entry, one_step_less, aimed_at}
use Rattle.leader.proofs.entry_targets.Goals as goal

pub overflow_add-at : goal.overflow_add-at
overflow_add-at c =
    let a = c.args in
    let left : ℕ = a.count - c.loop.counter in
    omega (arith, one_step_less left a.step (omega arith))

pub loop-preserved : goal.loop-preserved
loop-preserved c =
    let l = c.loop in
    let a = c.args in
    let left : ℕ = a.count - l.counter in
    let less : left - 1 ≡ a.count - (l.counter + 1) = omega arith in (
      rw less at
          (one_entry a.code.now a.pc a.step a.fault l.top l.at left c.aim-top.result (omega arith)
          (aimed_at a.fault l.top (2 ^ 31) a.pc _ _ _ c.aim-top.ensures c.read_i32.ensures.0)) ∙ l.invariant.0,
      omega (arith, one_step_less left a.step (omega arith), ap (λ (k : ℕ). k * a.step) less),
    )

pub returns : goal.returns
returns c =
    let l = c.loop in
    let a = c.args in
    no_entries a.code.now a.pc a.step a.fault l.top l.at (a.count - l.counter) (omega arith) ∙ l.invariant.0
