-- `words::put_invoke_at` meets its contract. Five writers, one after the other.
-- Assumes nothing.
use native.Mathlib.Omega.{arith}
use Rattle.words.specs.Words.{invoke_text}
use Rattle.text.proofs.Writing.{written_then}
use Rattle.words.proofs.put_invoke_at.Goals as goal

pub returns : goal.returns
unfolding invoke_text
returns c =
    rw (← c.descriptor_of.ensures)
    (written_then (omega arith)
    (written_then (omega arith)
    (written_then (omega arith)
    (written_then (omega arith)
    c.put_at-method.ensures
    c.put_method_at-open.ensures)
    c.put_at-params.ensures)
    c.put_params_at-close.ensures)
    c.put_at.ensures)
