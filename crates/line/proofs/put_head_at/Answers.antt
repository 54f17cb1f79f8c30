-- `line::put_head_at` meets its contract. One arm an answer.
-- Assumes nothing.
use Rattle.line.proofs.Heads.{head_of_message, head_of_none, head_of_broken, head_of_roomless, head_of_outless, head_of_long, head_of_unworded}
use Rattle.line.proofs.put_head_at.Goals as goal

pub returns-in-Message : goal.returns-in-Message
returns-in-Message c = rw (c.in-Message.is, head_of_message) c.put_counted_at.ensures

pub returns-in-NoMessage : goal.returns-in-NoMessage
returns-in-NoMessage c = rw (c.in-NoMessage.is, head_of_none) c.put_at.ensures

pub returns-in-Broken : goal.returns-in-Broken
returns-in-Broken c = rw (c.in-Broken.is, head_of_broken) c.put_carried_at.ensures

pub returns-in-NoRoom : goal.returns-in-NoRoom
returns-in-NoRoom c = rw (c.in-NoRoom.is, head_of_roomless) c.put_carried_at-in-NoRoom.ensures

pub returns-in-NoOutput : goal.returns-in-NoOutput
returns-in-NoOutput c = rw (c.in-NoOutput.is, head_of_outless) c.put_carried_at-in-NoOutput.ensures

pub returns-in-TooLong : goal.returns-in-TooLong
returns-in-TooLong c = rw (c.in-TooLong.is, head_of_long) c.put_at-in-TooLong.ensures

pub returns-in-NoWording : goal.returns-in-NoWording
returns-in-NoWording c = rw (c.in-NoWording.is, head_of_unworded) c.put_at-in-NoWording.ensures
