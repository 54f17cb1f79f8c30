-- `answer::write_message` meets its contract. The length measured with no output is the message's.
-- Assumes nothing.
use Prim.Native.Nat.{◌-◌, ◌^◌, ◌<◌}
use native.Mathlib.Omega.{arith}
use lib.ListN.{length}
use Rattle.answer.specs.Answer.{kind_of}
use Rattle.answer.proofs.Writing as writing
use Rattle.answer.proofs.write_message.Goals as goal

pub returns-then-out-needed : goal.returns-then-out-needed
returns-then-out-needed c =
    let a = c.args in
    writing.no-room _ (kind_of a.cause) a.scan a.block a.out.now _ _ c.put_message_at-needed.ensures
    c.if-out-needed.true

pub returns : goal.returns
returns c =
    let a = c.args in
    let small : length a.out.now < 2 ^ 64 - 1 = omega arith in
    rw c.kind_of.ensures
    (writing.room _ (kind_of a.cause) a.scan a.block a.out.now _ _ c.put_message_at-needed.ensures small
    (omega arith) _ _ c.put_message_at.ensures)
