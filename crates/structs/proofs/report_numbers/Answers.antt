-- `structs::report_numbers` meets its contract. One arm an answer.
-- Assumes nothing.
use Rattle.answer.specs.Answer.{numbered}
use Rattle.structs.proofs.report_numbers.Goals as goal

pub returns-in-Message : goal.returns-in-Message
unfolding numbered
returns-in-Message c = rw (c.in-Message.is, c.low_bits.ensures, c.low_bits-in-Message.ensures, c.low_bits-in-Message-2.ensures)

pub returns-in-NoMessage : goal.returns-in-NoMessage
unfolding numbered
returns-in-NoMessage c = rw c.in-NoMessage.is c.carried.ensures

pub returns-in-Broken : goal.returns-in-Broken
unfolding numbered
returns-in-Broken c = rw c.in-Broken.is c.carried-in-Broken.ensures

pub returns-in-NoRoom : goal.returns-in-NoRoom
unfolding numbered
returns-in-NoRoom c = rw c.in-NoRoom.is c.carried-in-NoRoom.ensures

pub returns-in-NoOutput : goal.returns-in-NoOutput
unfolding numbered
returns-in-NoOutput c = rw c.in-NoOutput.is c.carried-in-NoOutput.ensures

pub returns-in-TooLong : goal.returns-in-TooLong
unfolding numbered
returns-in-TooLong c = rw c.in-TooLong.is c.carried-in-TooLong.ensures

pub returns-in-NoWording : goal.returns-in-NoWording
unfolding numbered
returns-in-NoWording c = rw c.in-NoWording.is c.carried-in-NoWording.ensures
