-- `structs::length_numbers` meets its contract. One arm an answer.
-- Assumes nothing.
use mathlib.Core.Path.{◌≡◌}
use Rattle.bytecode.specs.Length.{numbered}
use Rattle.bytecode.specs.declared.Unmeasured.TheVariants.{NoLength, Reserved}
use Rattle.structs.proofs.length_numbers.Goals as goal

pub returns-in-Ok : goal.returns-in-Ok
unfolding numbered
returns-in-Ok c = rw c.in-Ok.is

pub returns-in-Err-NoLength : goal.returns-in-Err-NoLength
unfolding numbered
returns-in-Err-NoLength c =
    let why : c.in-Err-NoLength.field-0 ≡ NoLength = rw c.in-Err-NoLength.is at c.in-Err-NoLength.field-0-is in
    rw (c.in-Err-NoLength.is, why)

pub returns-in-Err-Reserved : goal.returns-in-Err-Reserved
unfolding numbered
returns-in-Err-Reserved c =
    let why : c.in-Err-Reserved.field-0 ≡ Reserved = rw c.in-Err-Reserved.is at c.in-Err-Reserved.field-0-is in
    rw (c.in-Err-Reserved.is, why)
