-- `laying::put_text_at` meets its contract. Two writers, one after the other.
-- Assumes nothing.
use native.Mathlib.Omega.{arith}
use Rattle.text.proofs.Writing.{written_then}
use Rattle.items.specs.Text.{text_bytes}
use Rattle.laying.proofs.put_text_at.Goals as goal

pub returns : goal.returns
unfolding text_bytes
returns c = written_then (omega arith) c.put_number_at-start.ensures c.put_at.ensures
