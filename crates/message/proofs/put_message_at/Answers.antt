-- `message::put_message_at` meets its contract. The action, then the cause.
-- Assumes nothing.
use native.Mathlib.Omega.{arith}
use Rattle.message.specs.Message.{message_text}
use Rattle.text.proofs.Writing.{written_then}
use Rattle.message.proofs.put_message_at.Goals as goal

pub returns : goal.returns
unfolding message_text
returns c =
    written_then (omega arith)
    c.put_action_at-next.ensures
    c.put_cause_at.ensures
