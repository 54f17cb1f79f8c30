-- `ffi::write_name` meets its contract. The name is measured by writing it to no output, and written where there is room for all of it.
-- Assumes nothing.
use Prim.Native.Nat.{◌-◌, ◌^◌, ◌<◌}
use native.Mathlib.Omega.{arith}
use mathlib.Core.Path.{ap}
use lib.ListN.{length}
use Rattle.answer.proofs.Writing as writing
use Rattle.structs.specs.Structs.{name_numbers}
use Rattle.answer.specs.Answer.{numbered}
use Rattle.ffi.proofs.write_name.Goals as goal

pub returns-then-out-needed : goal.returns-then-out-needed
unfolding numbered
returns-then-out-needed c =
    let a = c.args in
    let told = writing.no-room _ 0 0 0 a.out.now _ _ c.describe_local-needed.ensures c.if-out-needed.true in record { answers = ap name_numbers told.answers; leaves = told.leaves }

pub returns : goal.returns
unfolding numbered
returns c =
    let a = c.args in
    let small : length a.out.now < 2 ^ 64 - 1 = omega arith in
    let told = writing.room _ 0 0 0 a.out.now _ _ c.describe_local-needed.ensures small (omega arith) _ _ c.describe_local.ensures in record { answers = ap name_numbers told.answers; leaves = told.leaves }
