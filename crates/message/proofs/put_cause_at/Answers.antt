-- `message::put_cause_at` meets its contract. Nothing without a load, else three writers, one after the other.
-- Assumes nothing.
use native.Mathlib.Omega.{arith}
use Rattle.message.specs.Message.{cause_text}
use Rattle.text.proofs.Writing.{written_then, written_none}
use Rattle.message.proofs.put_cause_at.Goals as goal

pub returns-in_default : goal.returns-in_default
unfolding cause_text
returns-in_default c =
    rw c.in_default.is
    (written_none c.args.out.now (omega arith))

pub returns : goal.returns
unfolding cause_text
returns c =
    rw c.in-Some.is
    (written_then (omega arith)
    (written_then (omega arith)
    c.put_at-start.ensures
    c.describe_local-end.ensures)
    c.put_at.ensures)
