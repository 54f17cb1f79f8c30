-- A cause names what the faulting instruction would dereference. Rests on condition 3.
-- Assumes nothing.
use Prim.Native.Nat.{ℕ, ◌+◌, ◌-◌}
use native.Mathlib.Omega.{arith}
use mathlib.Core.Path.{◌≡◌, ◌∙◌}
use mathlib.Core.List.{[]}
use lib.ListN.{length, get_or, take}
use lib.Seq.{get_or-take}
use Rattle.bytecode.specs.Rule.{length_rule}
use Rattle.cell.specs.Cell.{cell_of}
use Rattle.truth.specs.Cause.{CauseTrueOver, CauseTrue}
use Rattle.truth.specs.Translation.{since}
use Rattle.truth.proofs.Condition.{slots_tall, condition_over}

pub cause_true_over : CauseTrueOver
cause_true_over rule handlers f pool p depth b n e enough small marked Val opaque entering locals =
    let c = condition_over rule handlers f pool p in
    let t = c.translated Val opaque entering locals in
    let k : ℕ = f.height - 1 - depth in
    let absent : Val = locals 0 in
    let here : get_or (take f.height f.stack) k 0 ≡ cell_of b n =
    get_or-take f.height f.stack k 0 (omega arith) ∙ marked in (
      get_or (since pool f.code opaque f.leader entering locals f.count).stack (length entering + k) absent,
      c.very_slot Val opaque entering locals absent depth e enough,
      t.holds k b n absent (omega (arith, slots_tall f pool p)) small here,
    )

pub cause_true : CauseTrue
cause_true = cause_true_over length_rule []
